use Rattle.std.proofs.Common.{refl}
use Rattle.writing_laws.proofs.examples.leading_back.Goals as goal

pub returns : goal.returns
returns c = record { a_field = refl; a_second_name = refl; no_own_name = refl; an_earlier_name = refl; twice = refl; a_rest = refl; two_rests = refl; some_with_its_own_default = refl; some_with_a_stated_default = refl; a_rule = refl; a_rule_passed_by = refl; units = refl; a_unit_of_two_names = refl; a_tag_of_two_names = refl; beside_a_tag = refl; as_the_tag = refl; tag_and_content = refl; one_name_for_both = refl; scalars = refl; a_list = refl }
