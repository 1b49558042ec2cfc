use Rattle.syntax_parsers.specs.Lifetimes.{SpellsLifetimes, lifetimes_of}
use Rattle.syntax_laws.specs.TextSpelling.{lifetime_views}
use Rattle.syntax_laws.proofs.TextsExact.{answered, lifetimes_exact}
use Rattle.syntax_laws.proofs.texts.lifetimes_are_answered_exactly.Goals as goal

pub returns : goal.returns
returns c = answered lifetime_views (λ _. lifetimes_of) SpellsLifetimes lifetimes_exact
