use Rattle.std.proofs.Common.{refl}
use Rattle.std.specs.Str.{chars}
use Rattle.schema_defs.specs.Read.{document_of, definitions_of, schema_of, plain_of, numbers_of, texts_of, same_of, lists_of, named_of}
use Rattle.schema_defs.proofs.examples.member_examples.Goals as goal

pub returns : goal.returns
unfolding chars document_of definitions_of schema_of plain_of numbers_of texts_of same_of lists_of named_of
returns c = record {
  named = refl;
  named_refused = refl;
  properties_may_be_missing = refl;
  required_stands = refl;
  required_is_missing = refl;
  required_beside_properties = refl;
  no_others = refl;
  others_bound = refl;
  others_refused = refl;
  by_pattern = refl;
  each_pattern_binds = refl;
  patterns_beside_properties = refl;
  patterns_are_no_others = refl;
  other_than_patterns = refl;
  names_as_texts = refl;
  names_refused = refl;
  too_many = refl;
  too_few = refl;
  counts_met = refl;
  lists_have_no_members = refl;
}
