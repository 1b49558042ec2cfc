-- Examples of predicates, by what is read.
use Rattle.std.proofs.Common.{◌≡◌, List, [], ◌∷◌}
use Rattle.std.specs.Prelude.{Ok}
use Rattle.token_trees.specs.Token.{Tok, site}
use Rattle.syntax_trees.specs.Item.{PredicateD}
use Rattle.syntax_parsers.specs.Whole.{predicates_of}
use Rattle.syntax_laws.specs.PredicateExamples.{AllPredicatesSpelled, NoPredicatesSpelled}
use Rattle.syntax_laws.proofs.PredicatesExact.{predicates_exact}

abbrev pub AllRead : List (List Tok × List PredicateD) → Type 0
AllRead [] = Unit {0}
AllRead (e ∷ es) = (predicates_of site e.0 ≡ Ok e.1) × AllRead es

abbrev pub NoneRead : List (List Tok × List PredicateD) → Type 0
NoneRead [] = Unit {0}
NoneRead (e ∷ es) = (predicates_of site e.0 ≡ Ok e.1 → ⊥) × NoneRead es

pub all_spelled : (es : List (List Tok × List PredicateD)) → AllRead es → AllPredicatesSpelled es
all_spelled [] h = tt
all_spelled (e ∷ es) h = ((predicates_exact site e.0 e.1).0 h.0, all_spelled es h.1)

pub none_spelled : (es : List (List Tok × List PredicateD)) → NoneRead es → NoPredicatesSpelled es
none_spelled [] h = tt
none_spelled (e ∷ es) h = ((λ k. h.0 ((predicates_exact site e.0 e.1).1 k)), none_spelled es h.1)
