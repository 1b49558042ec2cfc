-- What is answered of a report: a page, or a line that says that there is none.
use Rattle.std.specs.Prelude.{ℕ, List, string_bytes}
use Rattle.schema_words.specs.declared.answering.Answer.{Answer}
use Rattle.schema_words.specs.declared.answering.Answer.TheVariants as answer

pub data Said : Type 0 where
  page : List ℕ → Said
  no : List ℕ → Said

abbrev pub said_of : Answer → Said
said_of (answer.Page s) = page (string_bytes s)
said_of (answer.No s) = no (string_bytes s)
