use Rattle.std.proofs.Common.{refl}
use Rattle.writing_laws.proofs.examples.read_back.Goals as goal

pub returns : goal.returns
returns c = record { a_set = (refl, refl, refl); a_map = (refl, refl, refl); a_second_name = (refl, refl, refl); an_option_missing = (refl, refl, refl); let_out = (refl, refl, refl); null_that_some_holds = (refl, refl, refl); a_rest = (refl, refl, refl); beside_a_tag = (refl, refl, refl); by_kind = (refl, refl, refl) }
