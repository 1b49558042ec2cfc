-- Worked examples: trees whose parts are such as texts have, and parts that aren't.
use Rattle.std.specs.Prelude.{[], ◌∷◌, codes}
use Rattle.token_trees.specs.declared.token.Spacing.TheVariants.{Joint}
use Rattle.token_trees.specs.Token.{mark, digits, site}
use Rattle.syntax_trees.specs.Syntax.{ty_array, ty_verbatim, ex_fixed}
use Rattle.syntax_parsers.specs.SpellingExamples.{a}
use Rattle.syntax_parsers.specs.Worked.{named}
use Rattle.syntax_laws.specs.TextExamples.{vector, two_predicates, two_lifetimes}
use Rattle.printing_laws.specs.Parts.{NameParts, TyParts, PredicatesParts, LifetimesParts}

pub record PartsExamples : Type 0 where
  -- `Vec<A>`, `Vec<A>: A, 'x: 'y`, `'x + 'y` and `[A; 3]`
  pub generic : TyParts vector
  pub predicates : PredicatesParts two_predicates
  pub lifetimes : LifetimesParts two_lifetimes
  pub array : TyParts (ty_array (named a) (ex_fixed (digits (codes "3")) site))
  -- no text has an identifier with a space in it or one that begins with a digit, or a character that is joint and the last
  pub two_words : NameParts (record { text = codes "a b"; span = site }) → ⊥
  pub number : NameParts (record { text = codes "1a"; span = site }) → ⊥
  pub joint_end : TyParts (ty_verbatim (mark 43 Joint site ∷ [])) → ⊥
