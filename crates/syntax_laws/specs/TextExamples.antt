-- Worked examples: texts of literals at `site`, with what they spell, or with nothing that they spell.
use Rattle.std.specs.Prelude.{◌≡◌, ℕ, List, [], ◌∷◌, false, Some, codes}
use Rattle.token_trees.specs.Token.{site}
use Rattle.token_trees.specs.Text.{text_of}
use Rattle.syntax_trees.specs.Syntax.{LitStrD, LifetimeD, TyD, ty_path, ty_reference, path, arg_ty, no_qself, segments_of}
use Rattle.syntax_trees.specs.Item.{PredicateD, predicate_ty, predicate_lifetime}
use Rattle.syntax_printing.specs.Print.{print_ty}
use Rattle.syntax_printing.specs.PrintPredicates.{print_lifetimes, print_predicates}
use Rattle.syntax_parsers.specs.Lifetimes.{SpellsLifetimes}
use Rattle.syntax_parsers.specs.SpellingForm.{IsParsedTy, SpellsTy}
use Rattle.syntax_parsers.specs.SpellingExamples.{a, b, t, bound}
use Rattle.syntax_parsers.specs.Worked.{plain, named, with_args, life}
use Rattle.syntax_laws.specs.Predicates.{AreParsedPredicates, SpellsPredicates}
use Rattle.syntax_laws.specs.TextSpelling.{TextSpells}
use Rattle.syntax_laws.specs.RoundTrip.{AreOfText}

abbrev pub literal : List ℕ → LitStrD
literal x = record { text = x; suffix = []; span = site }

-- `Vec<A>`, which is printed with a space between any two tokens
abbrev pub vector : TyD
vector = with_args (codes "Vec") (arg_ty (named a) ∷ [])

-- `Vec<A>: A, 'x: 'y`
abbrev pub two_predicates : List PredicateD
two_predicates = predicate_ty vector (bound a ∷ []) ∷ predicate_lifetime (life (codes "x")) (life (codes "y") ∷ []) ∷ []

-- `'x + 'y`
abbrev pub two_lifetimes : List LifetimeD
two_lifetimes = life (codes "x") ∷ life (codes "y") ∷ []

abbrev pub WorkedTexts : Type 0
WorkedTexts =
    TextSpells SpellsTy (literal (codes "Vec<A>")) vector
    × TextSpells SpellsTy (literal (codes " &'x  T ")) (ty_reference (Some (life (codes "x"))) false (named t))
    × TextSpells SpellsTy (literal (codes "A::B")) (ty_path no_qself (path false (segments_of (plain a ∷ plain b ∷ []))))
    -- two colons apart, an angle that is not closed, two types, no text
    × ((u : TyD) → TextSpells SpellsTy (literal (codes "A: :B")) u → ⊥)
    × ((u : TyD) → TextSpells SpellsTy (literal (codes "Vec<")) u → ⊥)
    × ((u : TyD) → TextSpells SpellsTy (literal (codes "A B")) u → ⊥)
    × ((u : TyD) → TextSpells SpellsTy (literal []) u → ⊥)
    × TextSpells SpellsPredicates (literal (codes "T: A, 'x: 'y,")) (predicate_ty (named t) (bound a ∷ []) ∷ predicate_lifetime (life (codes "x")) (life (codes "y") ∷ []) ∷ [])
    × TextSpells SpellsPredicates (literal []) []
    × TextSpells SpellsLifetimes (literal (codes "'x + 'y")) (life (codes "x") ∷ life (codes "y") ∷ [])
    -- what is asked of a tree before its printing is parsed
    × (text_of (print_ty vector) ≡ codes "Vec < A >")
    × IsParsedTy vector
    × AreOfText (print_ty vector)
    × (text_of (print_predicates false two_predicates) ≡ codes "Vec < A > : A , 'x : 'y")
    × AreParsedPredicates two_predicates
    × AreOfText (print_predicates false two_predicates)
    × (text_of (print_lifetimes false two_lifetimes) ≡ codes "'x + 'y")
    × AreOfText (print_lifetimes false two_lifetimes)
