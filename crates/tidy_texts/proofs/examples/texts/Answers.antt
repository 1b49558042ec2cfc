use Rattle.std.proofs.Common.{refl}
use Rattle.std.specs.Str.{chars}
use Rattle.tidy_texts.proofs.examples.texts.Goals as goal

pub returns : goal.returns
unfolding chars lib.Utf8.encode
returns c = record {
  name = refl;
  path = refl;
  map = refl;
  tuple = refl;
  array = refl;
  attribute = refl;
  empty_comment = refl;
  two_lines = refl;
  escapes = refl;
  empty_doc = refl;
  doc_lines = refl;
  doc_ended = refl;
  doc_escapes = refl;
}
