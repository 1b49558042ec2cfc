use Rattle.std.proofs.Common.{refl}
use Rattle.std.specs.Str.{chars}
use Rattle.schema_defs.specs.Read.{document_of, definitions_of, schema_of, plain_of, numbers_of, texts_of, same_of, lists_of, named_of}
use Rattle.schema_defs.proofs.examples.setting_examples.Goals as goal

pub returns : goal.returns
unfolding chars document_of definitions_of schema_of plain_of numbers_of texts_of same_of lists_of named_of
returns c = record {
  setting_is_read = refl;
  null_for_absence = refl;
  strict = refl;
  absent = refl;
  other_values_are_bound = refl;
  text_taken = refl;
  only_members = refl;
  no_null_inside = refl;
  required_is_bound = refl;
  another_is_required = refl;
  null_is_no_absence = refl;
  even_false = refl;
  at_each_level = refl;
  required_elsewhere = refl;
  patterns_bind = refl;
  patterns_bind_beside_properties = refl;
  others_bind = refl;
  named_is_no_other = refl;
  names_bind = refl;
  counted = refl;
  under_not = refl;
}
