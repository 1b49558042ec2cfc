use Rattle.std.proofs.Common.{refl}
use Rattle.model_defs.proofs.examples.missing_fields.Goals as goal

pub returns : goal.returns
returns c = record {
  required = refl;
  an_option = refl;
  a_boxed_option = refl;
  an_alias_of_an_option = refl;
  a_newtype_of_an_option = refl;
  a_unit_leads_to_none = refl;
  with_its_own_default = refl;
  with_a_stated_default = refl;
  a_default_is_no_null = refl;
  an_option_may_be_null = refl;
  whole_is_not_missing = refl;
  whole_may_be_null = refl;
  some_may_be_missing = refl;
  some_is_not_null = refl;
  some_is_what_it_holds = refl;
}
