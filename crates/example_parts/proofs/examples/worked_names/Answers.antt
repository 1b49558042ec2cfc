use Rattle.std.proofs.Common.{refl}
use Rattle.example_parts.proofs.examples.worked_names.Goals as goal

pub returns : goal.returns
returns c = record { the_first = refl; the_second = refl; past_the_last = refl; hidden = refl; by_its_second_name = refl; behind_a_rest = refl; a_rest = refl; a_variant = refl }
