use Rattle.std.proofs.Common.{[], false, sym}
use Rattle.std.proofs.lemmas.List.{append-nil}
use Rattle.syntax_printing.specs.Print.{print_bounds}
use Rattle.syntax_parsers.specs.SpellingAside.{SameBounds}
use Rattle.syntax_parsers.specs.SpellingForm.{IsParsedBounds, SpellsBounds}
use Rattle.syntax_parsers.proofs.spelling.Printing.{bounds_printed}
use Rattle.syntax_parsers.proofs.spelling.Aside.{bounds_aside}
use Rattle.syntax_laws.proofs.Printed.{IsSpelledAside, spelled_again}
use Rattle.printing_laws.specs.Parts.{BoundsParts}
use Rattle.printing_laws.proofs.PrintedParts.{printings_are_of_text}
use Rattle.printing_laws.proofs.FromPrinted.{spelled_whole}
use Rattle.printing_laws.proofs.whole.whole_bounds_are_spelled.Goals as goal

aside : IsSpelledAside IsParsedBounds (print_bounds false) SpellsBounds SameBounds
aside bs us h k =
    let ts = print_bounds false bs in
    bounds_aside ts us bs (h, bounds_printed bs ts [] h.0 (sym (append-nil ts))) k

pub returns : goal.returns
returns c = spelled_whole IsParsedBounds BoundsParts (print_bounds false) SpellsBounds SameBounds printings_are_of_text.bounds (spelled_again IsParsedBounds (print_bounds false) SpellsBounds SameBounds aside)
