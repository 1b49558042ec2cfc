use Rattle.std.proofs.Common.{refl}
use Rattle.schema_defs.specs.Read.{document_of, definitions_of, schema_of, plain_of, numbers_of, texts_of, same_of, lists_of, named_of}
use Rattle.merge_defs.proofs.examples.null_examples.Goals as goal

pub returns : goal.returns
unfolding document_of definitions_of schema_of plain_of numbers_of texts_of same_of lists_of named_of
returns c = record {
  required_by_one = refl;
  required_by_both = refl;
  required_beside_no_property = refl;
  noted_also_where_never = refl;
  left_out = refl;
  shut_out = refl;
  beside_a_rest = refl;
  beside_true = refl;
  required_beside_a_rest = refl;
  strictly_none = refl;
  a_required_name_is_lost = refl;
}
