use Rattle.std.proofs.Common.{refl}
use Rattle.typed_laws.proofs.examples.typed_readings.Goals as goal

pub returns : goal.returns
returns c = record { a_set = (refl, refl); a_map = (refl, refl); a_struct = (refl, refl); other_names = (refl, refl); a_rule_passed_by = (refl, refl); a_list_denied = (refl, refl) }
