-- Predicates and lifetimes up to their spans.
use Rattle.std.specs.Prelude.{◌≡◌, List, [], ◌∷◌, map}
use Rattle.token_trees.specs.Token.{site}
use Rattle.syntax_trees.specs.Syntax.{LifetimeD, bounds_of}
use Rattle.syntax_trees.specs.Item.{PredicateD, predicate_ty, predicate_lifetime}
use Rattle.syntax_parsers.specs.SpellingAside.{lifetime_at, SameTy, SameBounds}

abbrev pub SameLifetime : LifetimeD → LifetimeD → Type 0
SameLifetime l k = lifetime_at site l ≡ lifetime_at site k

abbrev pub SameLifetimes : List LifetimeD → List LifetimeD → Type 0
SameLifetimes ls ks = map (lifetime_at site) ls ≡ map (lifetime_at site) ks

abbrev pub SamePredicate : PredicateD → PredicateD → Type 0
SamePredicate (predicate_ty t bs) (predicate_ty u cs) = SameTy t u × SameBounds (bounds_of bs) (bounds_of cs)
SamePredicate (predicate_lifetime l ls) (predicate_lifetime k ks) = SameLifetime l k × SameLifetimes ls ks
SamePredicate (predicate_ty t bs) (predicate_lifetime k ks) = ⊥
SamePredicate (predicate_lifetime l ls) (predicate_ty u cs) = ⊥

-- as many, and each the same
abbrev pub SamePredicates : List PredicateD → List PredicateD → Type 0
SamePredicates [] [] = Unit {0}
SamePredicates [] (q ∷ qs) = ⊥
SamePredicates (p ∷ ps) [] = ⊥
SamePredicates (p ∷ ps) (q ∷ qs) = SamePredicate p q × SamePredicates ps qs
