-- The text of a printed tree spells that tree again, spans aside: where the tree is of parsed form, and its identifiers, literals
-- and embedded streams alone are such as texts have.
use Rattle.std.specs.Prelude.{◌≡◌, ◌≢◌, List, false, Result, Err}
use Rattle.token_trees.specs.Token.{Tok}
use Rattle.token_trees.specs.Text.{text_of}
use Rattle.syntax_trees.specs.Syntax.{LitStrD, TyD, PathD, ExprPathD, Bounds}
use Rattle.syntax_trees.specs.Item.{PredicateD}
use Rattle.syntax_trees.specs.View.{ty, path_view, expr_path_view}
use Rattle.syntax_printing.specs.Print.{print_ty, print_path, print_expr_path, print_bounds}
use Rattle.syntax_printing.specs.PrintPredicates.{print_lifetimes, print_predicates}
use Rattle.syntax_parsers.specs.declared.fault.ParseFault.{ParseFault}
use Rattle.syntax_parsers.specs.declared.fault.ParseFault.TheVariants.{Memory}
use Rattle.syntax_parsers.specs.Lifetimes.{SpellsLifetimes, lifetimes_of}
use Rattle.syntax_parsers.specs.SpellingForm.{IsParsedTy, IsParsedPath, IsParsedExprPath, IsParsedBounds, SpellsTy, SpellsPath, SpellsExprPath, SpellsBounds}
use Rattle.syntax_parsers.specs.SpellingAside.{SameTy, SamePath, SameExprPath, SameBounds}
use Rattle.syntax_parsers.specs.Whole.{type_of, path_of, expr_path_of, predicates_of}
use Rattle.syntax_texts.specs.Texts.{WholeReader}
use Rattle.syntax_laws.specs.Predicates.{AreParsedPredicates, SpellsPredicates}
use Rattle.syntax_laws.specs.PredicatesAside.{SameLifetimes, SamePredicates}
use Rattle.syntax_laws.specs.TextSpelling.{Spelling, TextSpells, MayAnswer, IsAnswered, predicate_views, lifetime_views}
use Rattle.printing_laws.specs.Parts.{TyParts, PathParts, ExprPathParts, BoundsParts, PredicatesParts, LifetimesParts}

-- parsed form in full: that of the tree, and that each part is such as a text has
abbrev pub IsWholeTy : TyD → Type 0
IsWholeTy t = IsParsedTy t × TyParts t

abbrev pub IsWholePath : PathD → Type 0
IsWholePath p = IsParsedPath p × PathParts p

abbrev pub IsWholeExprPath : ExprPathD → Type 0
IsWholeExprPath p = IsParsedExprPath p × ExprPathParts p

abbrev pub AreWholeBounds : Bounds → Type 0
AreWholeBounds bs = IsParsedBounds bs × BoundsParts bs

abbrev pub AreWholePredicates : List PredicateD → Type 0
AreWholePredicates ps = AreParsedPredicates ps × PredicatesParts ps

-- A tree of parsed form in full is spelled by the text of its printing, spans aside.
abbrev pub IsSpelledAgain : {A : Type 0} → (A → Type 0) → (A → List Tok) → Spelling A → (A → A → Type 0) → Type 0
IsSpelledAgain {A} IsWhole print Spells Same = (x : A) (l : LitStrD) → IsWhole x → l.text ≡ text_of (print x) → (y : A) × TextSpells Spells l y × Same x y

-- So a parser of texts, where memory suffices, answers that tree, spans aside.
abbrev pub IsAnsweredAgain : {X A : Type 0} → (X → A) → WholeReader A → (A → Type 0) → (A → List Tok) → (A → A → Type 0) → Type 0
IsAnsweredAgain {X} {A} view read IsWhole print Same =
    (x : A) (l : LitStrD) (r : Result X ParseFault) → IsWhole x → l.text ≡ text_of (print x) → MayAnswer view read l r → r ≢ Err Memory → (y : A) × IsAnswered view r y × Same x y

-- types
abbrev pub WholeTypesAreParsed : Type 0
WholeTypesAreParsed = IsSpelledAgain IsWholeTy print_ty SpellsTy SameTy × IsAnsweredAgain ty type_of IsWholeTy print_ty SameTy

-- paths
abbrev pub WholePathsAreParsed : Type 0
WholePathsAreParsed = IsSpelledAgain IsWholePath print_path SpellsPath SamePath × IsAnsweredAgain path_view path_of IsWholePath print_path SamePath

-- paths of expressions
abbrev pub WholeExprPathsAreParsed : Type 0
WholeExprPathsAreParsed =
    IsSpelledAgain IsWholeExprPath print_expr_path SpellsExprPath SameExprPath
    × IsAnsweredAgain expr_path_view expr_path_of IsWholeExprPath print_expr_path SameExprPath

-- bounds with a `+` between any two, which no parser of texts reads alone
abbrev pub WholeBoundsAreSpelled : Type 0
WholeBoundsAreSpelled = IsSpelledAgain AreWholeBounds (print_bounds false) SpellsBounds SameBounds

-- predicates with a comma between any two
abbrev pub WholePredicatesAreParsed : Type 0
WholePredicatesAreParsed =
    IsSpelledAgain AreWholePredicates (print_predicates false) SpellsPredicates SamePredicates
    × IsAnsweredAgain predicate_views predicates_of AreWholePredicates (print_predicates false) SamePredicates

-- lifetimes with a `+` between any two, whose form asks for nothing else
abbrev pub WholeLifetimesAreParsed : Type 0
WholeLifetimesAreParsed =
    IsSpelledAgain LifetimesParts (print_lifetimes false) SpellsLifetimes SameLifetimes
    × IsAnsweredAgain lifetime_views (λ _. lifetimes_of) LifetimesParts (print_lifetimes false) SameLifetimes
