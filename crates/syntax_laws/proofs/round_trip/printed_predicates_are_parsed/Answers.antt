use Rattle.std.proofs.Common.{false, refl}
use Rattle.syntax_printing.specs.PrintPredicates.{print_predicates}
use Rattle.syntax_parsers.specs.Whole.{predicates_of}
use Rattle.syntax_laws.specs.Predicates.{AreParsedPredicates, SpellsPredicates}
use Rattle.syntax_laws.specs.PredicatesAside.{SamePredicates}
use Rattle.syntax_laws.specs.TextSpelling.{predicate_views}
use Rattle.syntax_laws.proofs.PredicatesExact.{predicates_exact}
use Rattle.syntax_laws.proofs.PredicatesPrinted.{predicates_printed}
use Rattle.syntax_laws.proofs.PredicatesMoved.{predicates_aside}
use Rattle.syntax_laws.proofs.Printed.{IsSpelledAside, spelled_again, answered_again}
use Rattle.syntax_laws.proofs.round_trip.printed_predicates_are_parsed.Goals as goal

aside : IsSpelledAside AreParsedPredicates (print_predicates false) SpellsPredicates SamePredicates
aside ps us f k =
    let ts = print_predicates false ps in
    let a = predicates_aside ps ts us f (predicates_printed ps ts f refl) k in
    (a.0, (a.1, a.2), a.3)

pub returns : goal.returns
returns c = (
  spelled_again AreParsedPredicates (print_predicates false) SpellsPredicates SamePredicates aside,
  answered_again predicate_views predicates_of SpellsPredicates predicates_exact AreParsedPredicates (print_predicates false) SamePredicates aside,
)
