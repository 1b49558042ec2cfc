use Rattle.std.proofs.Common.{refl}
use Rattle.name_tables.proofs.examples.three_entered.Goals as goal

pub returns : goal.returns
returns c = record { in_order = refl; kept = refl; other = refl; missing = refl; shorter = refl }
