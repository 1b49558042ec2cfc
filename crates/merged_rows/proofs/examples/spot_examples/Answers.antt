use Rattle.std.proofs.Common.{refl}
use Rattle.std.specs.Str.{chars}
use Rattle.schema_defs.specs.Location.{place}
use Rattle.schema_defs.specs.Read.{document_of, definitions_of, schema_of, plain_of, numbers_of, texts_of, same_of, lists_of, named_of}
use Rattle.merged_rows.proofs.examples.spot_examples.Goals as goal

pub returns : goal.returns
unfolding chars place document_of definitions_of schema_of plain_of numbers_of texts_of same_of lists_of named_of
returns c = record {
  at_the_start = refl;
  a_step_further = refl;
  two_steps = refl;
  without_a_walk = refl;
  taken_over = refl;
  made_inside = refl;
  plain_inside = refl;
  a_boolean_inside = refl;
  as_many_steps = refl;
  too_many = refl;
}
