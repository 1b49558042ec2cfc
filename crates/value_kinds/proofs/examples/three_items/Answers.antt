use Rattle.std.proofs.Common.{refl}
use Rattle.value_kinds.proofs.examples.three_items.Goals as goal

pub returns : goal.returns
returns c = record { graph = refl; at_first = refl; alone = refl; last = refl }
