use Rattle.std.proofs.Common.{refl}
use Rattle.std.specs.Str.{chars}
use Rattle.schema_defs.specs.Read.{document_of, definitions_of, schema_of, plain_of, numbers_of, texts_of, same_of, lists_of, named_of}
use Rattle.document_merges.proofs.examples.merge_examples.Goals as goal

pub returns : goal.returns
unfolding chars document_of definitions_of schema_of plain_of numbers_of texts_of same_of lists_of named_of
returns c = record { none_merges = refl; a_fault = refl; a_never = refl; an_answer = refl; in_order = refl }
