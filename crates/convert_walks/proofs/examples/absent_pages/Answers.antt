use Rattle.std.proofs.Common.{refl}
use Rattle.std.specs.Str.{chars}
use Rattle.schema_defs.specs.Location.{place}
use Rattle.schema_defs.specs.Read.{document_of, definitions_of, schema_of, plain_of, numbers_of, texts_of, same_of, lists_of, named_of}
use Rattle.convert_walks.proofs.examples.absent_pages.Goals as goal

pub returns : goal.returns
unfolding chars place document_of definitions_of schema_of plain_of numbers_of texts_of same_of lists_of named_of
returns c = record {
  j = refl;
  k = refl;
  not_with_required_null_absent = refl;
  absent_left_out = refl;
  absent_one_side_alone = refl;
}
