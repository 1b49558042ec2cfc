-- Worked examples: tokens, each at `site`, with the predicates that they spell, or with some that they don't.
use Rattle.std.specs.Prelude.{List, [], ◌∷◌, true, codes}
use Rattle.token_trees.specs.Token.{Tok}
use Rattle.syntax_trees.specs.Syntax.{path, bound_trait, bound_lifetime, bounds_of, ty_object, segments_of}
use Rattle.syntax_trees.specs.Item.{PredicateD, predicate_ty, predicate_lifetime}
use Rattle.syntax_parsers.specs.Worked.{name, sign, joint, plain, named, life}
use Rattle.syntax_parsers.specs.SpellingExamples.{a, b, t, bound}
use Rattle.syntax_laws.specs.Predicates.{SpellsPredicates}

-- `'x`
abbrev pub quote : List Tok → List Tok
quote ts = joint 39 ∷ name (codes "x") ∷ ts

-- `'y`
abbrev pub other_quote : List Tok → List Tok
other_quote ts = joint 39 ∷ name (codes "y") ∷ ts

abbrev pub spelled_predicates : List (List Tok × List PredicateD)
spelled_predicates =
    -- no tokens
    ([], [])
    -- `T: A`, `T: A,`, `T:`, `T: A +`
    ∷ (name t ∷ sign 58 ∷ name a ∷ [], predicate_ty (named t) (bound a ∷ []) ∷ [])
    ∷ (name t ∷ sign 58 ∷ name a ∷ sign 44 ∷ [], predicate_ty (named t) (bound a ∷ []) ∷ [])
    ∷ (name t ∷ sign 58 ∷ [], predicate_ty (named t) [] ∷ [])
    ∷ (name t ∷ sign 58 ∷ name a ∷ sign 43 ∷ [], predicate_ty (named t) (bound a ∷ []) ∷ [])
    -- `T: A + 'x, B: A`
    ∷ (name t ∷ sign 58 ∷ name a ∷ sign 43 ∷ quote (sign 44 ∷ name b ∷ sign 58 ∷ name a ∷ []), predicate_ty (named t) (bound a ∷ bound_lifetime (life (codes "x")) ∷ []) ∷ predicate_ty (named b) (bound a ∷ []) ∷ [])
    -- `T:::A`: the `:` of the predicate, and a path with a leading `::`
    ∷ (name t ∷ joint 58 ∷ joint 58 ∷ sign 58 ∷ name a ∷ [], predicate_ty (named t) (bound_trait (path true (segments_of (plain a ∷ []))) ∷ []) ∷ [])
    -- `dyn A + 'x: B`
    ∷ (name (codes "dyn") ∷ name a ∷ sign 43 ∷ quote (sign 58 ∷ name b ∷ []), predicate_ty (ty_object (bounds_of (bound a ∷ bound_lifetime (life (codes "x")) ∷ []))) (bound b ∷ []) ∷ [])
    -- `'x: 'y`, `'x: 'y + 'x +`, `'x:`, `'x:,`
    ∷ (quote (sign 58 ∷ other_quote []), predicate_lifetime (life (codes "x")) (life (codes "y") ∷ []) ∷ [])
    ∷ (quote (sign 58 ∷ other_quote (sign 43 ∷ quote (sign 43 ∷ []))), predicate_lifetime (life (codes "x")) (life (codes "y") ∷ life (codes "x") ∷ []) ∷ [])
    ∷ (quote (sign 58 ∷ []), predicate_lifetime (life (codes "x")) [] ∷ [])
    ∷ (quote (joint 58 ∷ sign 44 ∷ []), predicate_lifetime (life (codes "x")) [] ∷ [])
    -- `'x: 'y, T: A`
    ∷ (quote (sign 58 ∷ other_quote (sign 44 ∷ name t ∷ sign 58 ∷ name a ∷ [])), predicate_lifetime (life (codes "x")) (life (codes "y") ∷ []) ∷ predicate_ty (named t) (bound a ∷ []) ∷ [])
    ∷ []

abbrev pub unspelled_predicates : List (List Tok × List PredicateD)
unspelled_predicates =
    -- a comma alone, two commas at the end, no comma between two
    (sign 44 ∷ [], [])
    ∷ (name t ∷ sign 58 ∷ name a ∷ sign 44 ∷ sign 44 ∷ [], predicate_ty (named t) (bound a ∷ []) ∷ [])
    ∷ (name t ∷ sign 58 ∷ name a ∷ name b ∷ sign 58 ∷ name a ∷ [], predicate_ty (named t) (bound a ∷ []) ∷ predicate_ty (named b) (bound a ∷ []) ∷ [])
    -- no `:`; a path in its place: `T`, `T::A`
    ∷ (name t ∷ [], predicate_ty (named t) [] ∷ [])
    ∷ (name t ∷ joint 58 ∷ sign 58 ∷ name a ∷ [], predicate_ty (named t) (bound a ∷ []) ∷ [])
    -- what a lifetime outlives is no trait: `'x: A`; no lifetime is the type of a predicate, nor a `+` alone a bound
    ∷ (quote (sign 58 ∷ name a ∷ []), predicate_lifetime (life (codes "x")) [] ∷ [])
    ∷ (name t ∷ sign 58 ∷ sign 43 ∷ [], predicate_ty (named t) [] ∷ [])
    ∷ []

abbrev pub AllPredicatesSpelled : List (List Tok × List PredicateD) → Type 0
AllPredicatesSpelled [] = Unit {0}
AllPredicatesSpelled (e ∷ es) = SpellsPredicates e.0 e.1 × AllPredicatesSpelled es

abbrev pub NoPredicatesSpelled : List (List Tok × List PredicateD) → Type 0
NoPredicatesSpelled [] = Unit {0}
NoPredicatesSpelled (e ∷ es) = (SpellsPredicates e.0 e.1 → ⊥) × NoPredicatesSpelled es

abbrev pub WorkedPredicates : Type 0
WorkedPredicates = AllPredicatesSpelled spelled_predicates × NoPredicatesSpelled unspelled_predicates
