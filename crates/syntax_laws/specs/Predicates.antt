-- Which tokens spell predicates. `XThen x ts rest` says: the tokens ts begin with a printing of x, and rest stands behind it.
use Rattle.std.specs.Prelude.{◌≡◌, ◌⊎◌, ◌↔◌, List, [], ◌∷◌, Ok, Err}
use Rattle.token_trees.specs.declared.token.Span.{Span}
use Rattle.token_trees.specs.Token.{Tok}
use Rattle.syntax_trees.specs.Syntax.{LifetimeD, bounds_of}
use Rattle.syntax_trees.specs.Item.{PredicateD, predicate_ty, predicate_lifetime}
use Rattle.syntax_trees.specs.declared.cursor.SyntaxError.{SyntaxError}
use Rattle.syntax_parsers.specs.Spelling.{SignThen, LifetimeThen, TyThen, BoundsThen}
use Rattle.syntax_parsers.specs.SpellingForm.{IsParsedTy, IsParsedBounds}
use Rattle.syntax_parsers.specs.Whole.{predicates_of}

-- lifetimes with a `+` between any two, and one more behind the last where you like
abbrev mutual
  pub LifetimesThen : List LifetimeD → List Tok → List Tok → Type 0
  LifetimesThen [] ts rest = ts ≡ rest
  LifetimesThen (l ∷ ls) ts rest = (a : List Tok) × LifetimeThen l ts a × LifetimesBehind ls a rest

  pub LifetimesBehind : List LifetimeD → List Tok → List Tok → Type 0
  LifetimesBehind [] ts rest = (ts ≡ rest) ⊎ SignThen 43 ts rest
  LifetimesBehind (l ∷ ls) ts rest = (a b : List Tok) × SignThen 43 ts a × LifetimeThen l a b × LifetimesBehind ls b rest

-- a type and its bounds, or a lifetime and those that it outlives, with a `:` between
abbrev pub PredicateThen : PredicateD → List Tok → List Tok → Type 0
PredicateThen (predicate_ty t bs) ts rest = (a b : List Tok) × TyThen t ts a × SignThen 58 a b × BoundsThen (bounds_of bs) b rest
PredicateThen (predicate_lifetime l ls) ts rest = (a b : List Tok) × LifetimeThen l ts a × SignThen 58 a b × LifetimesThen ls b rest

-- all tokens: predicates with a comma between any two, and one more behind the last where you like
abbrev mutual
  pub PredicatesThen : List PredicateD → List Tok → Type 0
  PredicatesThen [] ts = ts ≡ []
  PredicatesThen (p ∷ ps) ts = (a : List Tok) × PredicateThen p ts a × PredicatesBehind ps a

  pub PredicatesBehind : List PredicateD → List Tok → Type 0
  PredicatesBehind [] ts = (ts ≡ []) ⊎ SignThen 44 ts []
  PredicatesBehind (p ∷ ps) ts = (a b : List Tok) × SignThen 44 ts a × PredicateThen p a b × PredicatesBehind ps b

-- parsed form: that of the type and of the bounds
abbrev pub IsParsedPredicate : PredicateD → Type 0
IsParsedPredicate (predicate_ty t bs) = IsParsedTy t × IsParsedBounds (bounds_of bs)
IsParsedPredicate (predicate_lifetime l ls) = Unit {0}

abbrev pub AreParsedPredicates : List PredicateD → Type 0
AreParsedPredicates [] = Unit {0}
AreParsedPredicates (p ∷ ps) = IsParsedPredicate p × AreParsedPredicates ps

-- Tokens spell predicates: each is of parsed form, and they are a printing of all.
abbrev pub SpellsPredicates : List Tok → List PredicateD → Type 0
SpellsPredicates ts ps = AreParsedPredicates ps × PredicatesThen ps ts

-- exactly those predicates are read that the tokens spell
abbrev pub PredicatesReadExactly : Type 0
PredicatesReadExactly = (at : Span) (ts : List Tok) (ps : List PredicateD) → (predicates_of at ts ≡ Ok ps) ↔ SpellsPredicates ts ps

-- tokens spell at most one list of predicates
abbrev pub PredicatesSpelledOnce : Type 0
PredicatesSpelledOnce = (ts : List Tok) (ps qs : List PredicateD) → SpellsPredicates ts ps → SpellsPredicates ts qs → ps ≡ qs

-- an error is read exactly where no predicates are spelled
abbrev pub PredicatesRefusedExactly : Type 0
PredicatesRefusedExactly = (at : Span) (ts : List Tok) → ((e : SyntaxError) × (predicates_of at ts ≡ Err e)) ↔ ((ps : List PredicateD) → SpellsPredicates ts ps → ⊥)
