-- Of each report there is a page.
use Rattle.std.specs.Prelude.{ℕ, List, Option}
use Rattle.schema_words.specs.Words.{Asking}
use Rattle.schema_words.specs.Outcome.{Ends, tells_line}
use Rattle.schema_words.specs.declared.ended.Ended.TheVariants as ended
use Rattle.rust_run.specs.Prints.{Prints}

abbrev pub AlwaysAPage : Type 0
AlwaysAPage = (c : Asking) (all : List ℕ) (before after : Option (List ℕ)) → Ends Prints tells_line c all before after ended.No → ⊥
