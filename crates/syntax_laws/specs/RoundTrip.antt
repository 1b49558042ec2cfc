-- The text of a printed tree spells that tree again, spans aside.
use Rattle.std.specs.Prelude.{◌≡◌, ◌≢◌, ℕ, List, map, false, Result, Err}
use Rattle.std.specs.Str.{chars, IsUtf8}
use Rattle.token_trees.specs.declared.token.Span.{Span}
use Rattle.token_trees.specs.Token.{Tok, placed}
use Rattle.token_trees.specs.Text.{text_of}
use Rattle.rust_tokens.specs.Reading.{IsLexed}
use Rattle.syntax_trees.specs.Syntax.{LifetimeD, LitStrD}
use Rattle.syntax_trees.specs.View.{ty, path_view, expr_path_view}
use Rattle.syntax_printing.specs.Print.{print_ty, print_path, print_expr_path}
use Rattle.syntax_printing.specs.PrintPredicates.{print_lifetimes, print_predicates}
use Rattle.syntax_parsers.specs.declared.fault.ParseFault.{ParseFault}
use Rattle.syntax_parsers.specs.declared.fault.ParseFault.TheVariants.{Memory}
use Rattle.syntax_parsers.specs.Lifetimes.{SpellsLifetimes, lifetimes_of}
use Rattle.syntax_parsers.specs.SpellingForm.{IsParsedTy, IsParsedPath, IsParsedExprPath, SpellsTy, SpellsPath, SpellsExprPath}
use Rattle.syntax_parsers.specs.SpellingAside.{SameTy, SamePath, SameExprPath}
use Rattle.syntax_parsers.specs.Whole.{type_of, path_of, expr_path_of, predicates_of}
use Rattle.syntax_texts.specs.Texts.{WholeReader}
use Rattle.syntax_laws.specs.Predicates.{AreParsedPredicates, SpellsPredicates}
use Rattle.syntax_laws.specs.PredicatesAside.{SameLifetimes, SamePredicates}
use Rattle.syntax_laws.specs.TextSpelling.{Spelling, TextSpells, MayAnswer, IsAnswered, predicate_views, lifetime_views}

-- some text has those tokens, spans aside: each name, literal and group of theirs is one that a text has, and each character stands
-- before what its spacing says
abbrev pub AreOfText : List Tok → Type 0
AreOfText ts = (bytes : List ℕ) × (s : Span) × IsUtf8 bytes × IsLexed (chars bytes) s (map (placed s) ts)

-- A tree of parsed form, whose tokens some text has, is spelled by the text of its printing, spans aside.
abbrev pub PrintedIsSpelledAgain : {A : Type 0} → (A → Type 0) → (A → List Tok) → Spelling A → (A → A → Type 0) → Type 0
PrintedIsSpelledAgain {A} IsParsed print Spells Same =
    (x : A) (l : LitStrD) → IsParsed x → AreOfText (print x) → l.text ≡ text_of (print x) → (y : A) × TextSpells Spells l y × Same x y

-- So a parser of texts, where memory suffices, answers that tree, spans aside.
abbrev pub PrintedIsAnsweredAgain : {X A : Type 0} → (X → A) → WholeReader A → (A → Type 0) → (A → List Tok) → (A → A → Type 0) → Type 0
PrintedIsAnsweredAgain {X} {A} view read IsParsed print Same =
    (x : A) (l : LitStrD) (r : Result X ParseFault) → IsParsed x → AreOfText (print x) → l.text ≡ text_of (print x)
    → MayAnswer view read l r → r ≢ Err Memory → (y : A) × IsAnswered view r y × Same x y

-- types
abbrev pub PrintedTypesAreParsed : Type 0
PrintedTypesAreParsed = PrintedIsSpelledAgain IsParsedTy print_ty SpellsTy SameTy × PrintedIsAnsweredAgain ty type_of IsParsedTy print_ty SameTy

-- paths
abbrev pub PrintedPathsAreParsed : Type 0
PrintedPathsAreParsed =
    PrintedIsSpelledAgain IsParsedPath print_path SpellsPath SamePath × PrintedIsAnsweredAgain path_view path_of IsParsedPath print_path SamePath

-- paths of expressions
abbrev pub PrintedExprPathsAreParsed : Type 0
PrintedExprPathsAreParsed =
    PrintedIsSpelledAgain IsParsedExprPath print_expr_path SpellsExprPath SameExprPath
    × PrintedIsAnsweredAgain expr_path_view expr_path_of IsParsedExprPath print_expr_path SameExprPath

-- predicates with a comma between any two
abbrev pub PrintedPredicatesAreParsed : Type 0
PrintedPredicatesAreParsed =
    PrintedIsSpelledAgain AreParsedPredicates (print_predicates false) SpellsPredicates SamePredicates
    × PrintedIsAnsweredAgain predicate_views predicates_of AreParsedPredicates (print_predicates false) SamePredicates

-- all lifetimes are of parsed form
abbrev pub AreParsedLifetimes : List LifetimeD → Type 0
AreParsedLifetimes ls = Unit {0}

-- lifetimes with a `+` between any two
abbrev pub PrintedLifetimesAreParsed : Type 0
PrintedLifetimesAreParsed =
    PrintedIsSpelledAgain AreParsedLifetimes (print_lifetimes false) SpellsLifetimes SameLifetimes
    × PrintedIsAnsweredAgain lifetime_views (λ _. lifetimes_of) AreParsedLifetimes (print_lifetimes false) SameLifetimes
