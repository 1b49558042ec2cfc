use Rattle.std.proofs.Common.{[], false, sym}
use Rattle.std.proofs.lemmas.List.{append-nil}
use Rattle.syntax_printing.specs.PrintPredicates.{print_lifetimes}
use Rattle.syntax_parsers.specs.Lifetimes.{SpellsLifetimes, lifetimes_of}
use Rattle.syntax_laws.specs.PredicatesAside.{SameLifetimes}
use Rattle.syntax_laws.specs.RoundTrip.{AreParsedLifetimes}
use Rattle.syntax_laws.specs.TextSpelling.{lifetime_views}
use Rattle.syntax_laws.proofs.TextsExact.{lifetimes_exact}
use Rattle.syntax_laws.proofs.PredicatesPrinted.{lifetimes_printed, lifetimes_spelled}
use Rattle.syntax_laws.proofs.PredicatesMoved.{lifetimes_aside}
use Rattle.syntax_laws.proofs.Printed.{IsSpelledAside, spelled_again, answered_again}
use Rattle.syntax_laws.proofs.round_trip.printed_lifetimes_are_parsed.Goals as goal

aside : IsSpelledAside AreParsedLifetimes (print_lifetimes false) SpellsLifetimes SameLifetimes
aside ls us f k =
    let ts = print_lifetimes false ls in
    let a = lifetimes_aside ls ts us (lifetimes_printed ls ts [] (sym (append-nil ts))) k in
    (a.0, lifetimes_spelled a.0 us a.1, a.2)

pub returns : goal.returns
returns c = (
  spelled_again AreParsedLifetimes (print_lifetimes false) SpellsLifetimes SameLifetimes aside,
  answered_again lifetime_views (λ _. lifetimes_of) SpellsLifetimes lifetimes_exact AreParsedLifetimes (print_lifetimes false) SameLifetimes aside,
)
