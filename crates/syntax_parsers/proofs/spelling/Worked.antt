-- Examples, by what is read.
use Rattle.std.proofs.Common.{◌*◌, ◌<◌, List, [], ◌∷◌}
use Rattle.token_trees.specs.Token.{Tok}
use Rattle.syntax_trees.specs.Syntax.{TyD}
use Rattle.syntax_parsers.specs.Fronts.{weight}
use Rattle.syntax_parsers.specs.Worked.{around}
use Rattle.syntax_parsers.specs.SpellingLaws.{ReadsTy}
use Rattle.syntax_parsers.specs.SpellingExamples.{AllSpelled, NoneSpelled}
use Rattle.syntax_parsers.proofs.spelling.Exact.{ty_exact}

abbrev pub AllRead : List (List Tok × TyD) → Type 0
AllRead [] = Unit {0}
AllRead (e ∷ es) = (3 * weight e.0 < 60) × ReadsTy 60 around e.0 e.1 × AllRead es

abbrev pub NoneRead : List (List Tok × TyD) → Type 0
NoneRead [] = Unit {0}
NoneRead (e ∷ es) = (3 * weight e.0 < 60) × (ReadsTy 60 around e.0 e.1 → ⊥) × NoneRead es

pub all_spelled : (es : List (List Tok × TyD)) → AllRead es → AllSpelled es
all_spelled [] h = tt
all_spelled (e ∷ es) h = ((ty_exact 60 around e.0 e.1 h.0).0 h.1, all_spelled es h.2)

pub none_spelled : (es : List (List Tok × TyD)) → NoneRead es → NoneSpelled es
none_spelled [] h = tt
none_spelled (e ∷ es) h = ((λ k. h.1 ((ty_exact 60 around e.0 e.1 h.0).1 k)), none_spelled es h.2)
