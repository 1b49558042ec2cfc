use Rattle.syntax_trees.specs.View.{path_view}
use Rattle.syntax_printing.specs.Print.{print_path}
use Rattle.syntax_parsers.specs.SpellingAside.{SamePath}
use Rattle.syntax_parsers.specs.SpellingForm.{IsParsedPath, SpellsPath}
use Rattle.syntax_parsers.specs.Whole.{path_of}
use Rattle.printing_laws.specs.Parts.{PathParts}
use Rattle.printing_laws.proofs.PrintedParts.{printings_are_of_text}
use Rattle.printing_laws.proofs.FromPrinted.{spelled_whole, answered_whole}
use Rattle.printing_laws.proofs.whole.whole_paths_are_parsed.Goals as goal

pub returns : goal.returns
returns c = (
  spelled_whole IsParsedPath PathParts print_path SpellsPath SamePath printings_are_of_text.paths c.printed_paths_are_parsed.ensures.0,
  answered_whole path_view path_of IsParsedPath PathParts print_path SamePath printings_are_of_text.paths c.printed_paths_are_parsed.ensures.1,
)
