use Rattle.std.proofs.Common.{[], sym}
use Rattle.std.proofs.lemmas.List.{append-nil}
use Rattle.syntax_trees.specs.View.{path_view}
use Rattle.syntax_printing.specs.Print.{print_path}
use Rattle.syntax_parsers.specs.SpellingAside.{SamePath}
use Rattle.syntax_parsers.specs.SpellingForm.{IsParsedPath, SpellsPath}
use Rattle.syntax_parsers.specs.Whole.{path_of}
use Rattle.syntax_parsers.proofs.spelling.Printing.{path_printed}
use Rattle.syntax_parsers.proofs.spelling.Aside.{path_aside}
use Rattle.syntax_laws.proofs.TextsExact.{paths_exact}
use Rattle.syntax_laws.proofs.Printed.{IsSpelledAside, spelled_again, answered_again}
use Rattle.syntax_laws.proofs.round_trip.printed_paths_are_parsed.Goals as goal

aside : IsSpelledAside IsParsedPath print_path SpellsPath SamePath
aside p us h k = path_aside (print_path p) us p (h, path_printed p (print_path p) [] h.0 (sym (append-nil (print_path p)))) k

pub returns : goal.returns
returns c = (
  spelled_again IsParsedPath print_path SpellsPath SamePath aside,
  answered_again path_view path_of SpellsPath paths_exact IsParsedPath print_path SamePath aside,
)
