use Rattle.syntax_trees.specs.View.{lit_str_view}
use Rattle.syntax_parsers.specs.Lifetimes.{SpellsLifetimes, lifetimes_of}
use Rattle.syntax_laws.specs.TextSpelling.{lifetime_views}
use Rattle.syntax_laws.proofs.TextsExact.{answers_text, lifetimes_exact}
use Rattle.syntax_laws.proofs.answers.parse_lifetimes.Goals as goal

pub returns-clause-spelled : goal.returns-clause-spelled
returns-clause-spelled c = answers_text lifetime_views (λ _. lifetimes_of) SpellsLifetimes lifetimes_exact (lit_str_view c.args.lit.now) c.parse_lifetimes.result (c.parse_lifetimes.ensures.lifetimes, c.parse_lifetimes.ensures.fault)
