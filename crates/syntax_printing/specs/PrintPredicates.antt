-- The tokens that predicates are printed as, and lifetimes between `+`.
use Rattle.std.specs.Prelude.{List, [], ◌∷◌, ◌++◌, Bool, true, false}
use Rattle.token_trees.specs.Token.{Tok}
use Rattle.syntax_trees.specs.Syntax.{bounds_of, LifetimeD}
use Rattle.syntax_trees.specs.Item.{PredicateD, predicate_ty, predicate_lifetime}
use Rattle.syntax_printing.specs.Print.{sign, print_lifetime, when, print_ty, print_bounds}

-- Of a list, the Bool says whether a separator stands before the first too.
abbrev pub print_lifetimes : Bool → List LifetimeD → List Tok
print_lifetimes plus [] = []
print_lifetimes plus (l ∷ ls) = when plus (sign 43 ∷ []) ++ print_lifetime l ++ print_lifetimes true ls

abbrev pub print_predicate : PredicateD → List Tok
print_predicate (predicate_ty t bs) = print_ty t ++ (sign 58 ∷ print_bounds false (bounds_of bs))
print_predicate (predicate_lifetime l ls) = print_lifetime l ++ (sign 58 ∷ print_lifetimes false ls)

abbrev pub print_predicates : Bool → List PredicateD → List Tok
print_predicates comma [] = []
print_predicates comma (p ∷ ps) = when comma (sign 44 ∷ []) ++ print_predicate p ++ print_predicates true ps
