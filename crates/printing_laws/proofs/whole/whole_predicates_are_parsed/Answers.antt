use Rattle.std.proofs.Common.{false}
use Rattle.syntax_printing.specs.PrintPredicates.{print_predicates}
use Rattle.syntax_parsers.specs.Whole.{predicates_of}
use Rattle.syntax_laws.specs.Predicates.{AreParsedPredicates, SpellsPredicates}
use Rattle.syntax_laws.specs.PredicatesAside.{SamePredicates}
use Rattle.syntax_laws.specs.TextSpelling.{predicate_views}
use Rattle.printing_laws.specs.Parts.{PredicatesParts}
use Rattle.printing_laws.proofs.PrintedParts.{printings_are_of_text}
use Rattle.printing_laws.proofs.FromPrinted.{spelled_whole, answered_whole}
use Rattle.printing_laws.proofs.whole.whole_predicates_are_parsed.Goals as goal

pub returns : goal.returns
returns c = (
  spelled_whole AreParsedPredicates PredicatesParts (print_predicates false) SpellsPredicates SamePredicates printings_are_of_text.predicates c.printed_predicates_are_parsed.ensures.0,
  answered_whole predicate_views predicates_of AreParsedPredicates PredicatesParts (print_predicates false) SamePredicates printings_are_of_text.predicates c.printed_predicates_are_parsed.ensures.1,
)
