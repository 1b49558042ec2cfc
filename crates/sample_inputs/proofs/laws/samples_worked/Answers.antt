use Rattle.std.proofs.Common.{refl}
use Rattle.std.specs.Fmt.{digits}
use Rattle.sample_inputs.proofs.laws.samples_worked.Goals as goal

pub returns : goal.returns
unfolding digits
returns c = record { of_one = refl; second_of_three = refl; third_of_three = refl; in_order_of_names = refl; first_values = refl; a_marked_value = refl; outermost_alone = refl }
