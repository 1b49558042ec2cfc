use Rattle.std.proofs.Common.{refl}
use Rattle.model_defs.proofs.examples.items_by_name.Goals as goal

pub returns : goal.returns
returns c = record {
  a_newtype = refl;
  a_newtype_of_its_type = refl;
  two_unnamed_fields = refl;
  a_unit_struct = refl;
  a_chain = refl;
  a_broken_chain = refl;
  another_item = refl;
  through_both_items = refl;
  an_alias_of_itself = refl;
}
