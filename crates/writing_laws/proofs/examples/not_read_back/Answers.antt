use Rattle.std.proofs.Common.{refl}
use Rattle.writing_laws.proofs.examples.not_read_back.Goals as goal

pub returns : goal.returns
returns c = record { common_kinds = (refl, refl, refl); no_own_name = (refl, refl, refl); an_earlier_name = (refl, refl, refl); two_rests = (refl, refl, refl); a_null_default = (refl, refl, refl); a_rule_passed_by = (refl, refl, refl); a_list_denied = (refl, refl, refl); other_names = (refl, refl, refl); as_the_tag = (refl, refl, refl); one_name_for_both = (refl, refl, refl); let_out_alone = (refl, refl, refl); no_such_default = (refl, refl, refl); too_great = (refl, refl, refl); out_of_order = (refl, refl, refl) }
