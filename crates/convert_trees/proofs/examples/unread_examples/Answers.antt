use Rattle.std.proofs.Common.{refl}
use Rattle.std.specs.Str.{chars}
use Rattle.schema_defs.specs.Location.{place}
use Rattle.schema_defs.specs.Read.{document_of, definitions_of, schema_of, plain_of, numbers_of, texts_of, same_of, lists_of, named_of}
use Rattle.convert_trees.proofs.examples.unread_examples.Goals as goal

pub returns : goal.returns
unfolding chars place document_of definitions_of schema_of plain_of numbers_of texts_of same_of lists_of named_of
returns c = record {
  below_the_format = refl;
  above_the_greatest = refl;
  within = refl;
  null_of_an_option = refl;
  listed_then_default = refl;
  denied = refl;
  round = refl;
  round_where_given_once = refl;
  read_where_merged = refl;
  of_another_kind_where_merged = refl;
  out_of_bounds_where_merged = refl;
  taken_over = refl;
  listed_and_taken_over = refl;
}
