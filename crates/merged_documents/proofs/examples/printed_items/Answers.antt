use Rattle.std.proofs.Common.{refl}
use Rattle.std.specs.Str.{chars, is_utf8}
use Rattle.std.specs.Fmt.{digits}
use Rattle.schema_defs.specs.Location.{place}
use Rattle.schema_defs.specs.Read.{document_of, definitions_of, schema_of, plain_of, numbers_of, texts_of, same_of, lists_of, named_of}
use Rattle.unicode_ident.proofs.Computing.{unicode_ident}
use Rattle.unicode_normalization.proofs.Computing.{unicode_normalization}
use Rattle.merged_documents.proofs.examples.printed_items.Goals as goal

pub returns : goal.returns
unfolding chars is_utf8 digits document_of definitions_of schema_of plain_of numbers_of texts_of same_of lists_of named_of place unicode_ident unicode_normalization lib.Utf8.encode
returns c = record {
  closed_struct = refl;
  named_like_rust = refl;
  numbered_beside_wanted = refl;
  definitions = refl;
  order_of_names = refl;
  root_referenced = refl;
  option_at_the_root = refl;
  lone_all_of = refl;
  listed_values = refl;
  attributes_of_fields = refl;
  tuple_and_array = refl;
}
