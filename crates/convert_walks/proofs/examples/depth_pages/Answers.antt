use Rattle.std.proofs.Common.{refl}
use Rattle.std.specs.Str.{chars}
use Rattle.schema_defs.specs.Location.{place}
use Rattle.schema_defs.specs.Read.{document_of, definitions_of, schema_of, plain_of, numbers_of, texts_of, same_of, lists_of, named_of}
use Rattle.convert_walks.proofs.examples.depth_pages.Goals as goal

pub returns : goal.returns
unfolding chars place document_of definitions_of schema_of plain_of numbers_of texts_of same_of lists_of named_of
returns c = record {
  answered_reference = refl;
  inside_what_is_taken_over = refl;
  root_in_itself = refl;
  branch = refl;
  boolean_in_what_was_made = refl;
}
