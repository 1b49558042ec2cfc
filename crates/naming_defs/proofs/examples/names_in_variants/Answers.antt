use Rattle.std.proofs.Common.{refl}
use Rattle.schema_defs.specs.Location.{place}
use Rattle.naming_defs.proofs.examples.names_in_variants.Goals as goal

pub returns : goal.returns
unfolding place
returns c = record {
  of_newtype = refl;
  of_struct = refl;
  of_struct_without_fields = refl;
  of_enum = refl;
  number_of_newtype = refl;
  of_prelude = refl;
  derived = refl;
  in_struct = refl;
  twice = refl;
  item_first = refl;
  field_first = refl;
  of_an_item = refl;
}
