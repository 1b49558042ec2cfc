use Rattle.syntax_trees.specs.View.{lit_str_view}
use Rattle.syntax_parsers.specs.Whole.{predicates_of}
use Rattle.syntax_laws.specs.Predicates.{SpellsPredicates}
use Rattle.syntax_laws.specs.TextSpelling.{predicate_views}
use Rattle.syntax_laws.proofs.PredicatesExact.{predicates_exact}
use Rattle.syntax_laws.proofs.TextsExact.{answers_text}
use Rattle.syntax_laws.proofs.answers.parse_where.Goals as goal

pub returns-clause-spelled : goal.returns-clause-spelled
returns-clause-spelled c = answers_text predicate_views predicates_of SpellsPredicates predicates_exact (lit_str_view c.args.lit.now) c.parse_where.result (c.parse_where.ensures.predicates, c.parse_where.ensures.fault)
