use Rattle.std.proofs.Common.{refl}
use Rattle.std.specs.Str.{chars}
use Rattle.schema_defs.specs.Read.{document_of, definitions_of, schema_of, plain_of, numbers_of, texts_of, same_of, lists_of, named_of}
use Rattle.schema_defs.specs.Formats.{is_date}
use Rattle.schema_defs.proofs.examples.text_examples.Goals as goal

pub returns : goal.returns
unfolding chars document_of definitions_of schema_of plain_of numbers_of texts_of same_of lists_of named_of is_date
returns c = record {
  short = refl;
  too_long = refl;
  long_enough = refl;
  too_short = refl;
  characters_and_not_bytes = refl;
  bytes_do_not_count = refl;
  has_pattern = refl;
  lacks_pattern = refl;
  numbers_have_no_length = refl;
  date = refl;
  no_date = refl;
  integer_formats_say_nothing = refl;
  other_formats_say_nothing = refl;
}
