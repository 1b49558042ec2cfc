-- Laws of spelling: the trees that tokens spell are the trees that are read from them.
use Rattle.std.specs.Prelude.{◌≡◌, ◌↔◌, ℕ, ◌*◌, ◌<◌, List, [], Some, Ok, Err, false}
use Rattle.token_trees.specs.declared.token.Span.{Span}
use Rattle.token_trees.specs.Token.{Tok}
use Rattle.syntax_trees.specs.Syntax.{TyD, PathD, ExprPathD, BoundD, bounds_of}
use Rattle.syntax_printing.specs.Print.{print_ty, print_path, print_expr_path, print_bounds}
use Rattle.syntax_trees.specs.declared.cursor.SyntaxError.{SyntaxError}
use Rattle.syntax_parsers.specs.Fronts.{weight, sign_front, colon_front}
use Rattle.syntax_parsers.specs.Grammar.{whole, path_body}
use Rattle.syntax_parsers.specs.Read.{levels}
use Rattle.syntax_parsers.specs.Spelling.{TyThen, PathThen, ExprPathThen, BoundsThen}
use Rattle.syntax_parsers.specs.SpellingForm.{TyForm, PathForm, ExprPathForm, BoundsForm, IsParsedTy, IsParsedPath, IsParsedExprPath, IsParsedBounds, SpellsTy, SpellsPath, SpellsExprPath, SpellsBounds}

-- what is read as a whole, with n levels
abbrev pub ReadsTy : ℕ → Span → List Tok → TyD → Type 0
ReadsTy n at ts t = whole at ((levels n).ty at ts) ≡ Ok t

abbrev pub ReadsPath : ℕ → Span → List Tok → PathD → Type 0
ReadsPath n at ts p = whole at (path_body (levels n) at ts) ≡ Ok p

abbrev pub ReadsExprPath : ℕ → Span → List Tok → ExprPathD → Type 0
ReadsExprPath n at ts p = whole at ((levels n).expr_path at ts) ≡ Ok p

abbrev pub ReadsBounds : ℕ → Span → List Tok → List BoundD → Type 0
ReadsBounds n at ts bs = whole at ((levels n).bounds at ts) ≡ Ok bs

-- Exactly what tokens spell is read from them: three levels a token are room enough.
abbrev pub ReadExactly : Type 0
ReadExactly =
    ((n : ℕ) (at : Span) (ts : List Tok) (t : TyD) → 3 * weight ts < n → ReadsTy n at ts t ↔ SpellsTy ts t)
    × ((n : ℕ) (at : Span) (ts : List Tok) (p : PathD) → 3 * weight ts < n → ReadsPath n at ts p ↔ SpellsPath ts p)
    × ((n : ℕ) (at : Span) (ts : List Tok) (p : ExprPathD) → 3 * weight ts < n → ReadsExprPath n at ts p ↔ SpellsExprPath ts p)
    × ((n : ℕ) (at : Span) (ts : List Tok) (bs : List BoundD) → 3 * weight ts < n → ReadsBounds n at ts bs ↔ SpellsBounds ts (bounds_of bs))

-- Tokens spell at most one tree of a kind.
abbrev pub SpelledAtMostOnce : Type 0
SpelledAtMostOnce =
    ((ts : List Tok) (t u : TyD) → SpellsTy ts t → SpellsTy ts u → t ≡ u)
    × ((ts : List Tok) (p q : PathD) → SpellsPath ts p → SpellsPath ts q → p ≡ q)
    × ((ts : List Tok) (p q : ExprPathD) → SpellsExprPath ts p → SpellsExprPath ts q → p ≡ q)
    × ((ts : List Tok) (bs cs : List BoundD) → SpellsBounds ts (bounds_of bs) → SpellsBounds ts (bounds_of cs) → bs ≡ cs)

-- An error is read exactly where no tree is spelled.
abbrev pub RefusedExactly : Type 0
RefusedExactly =
    ((n : ℕ) (at : Span) (ts : List Tok) → 3 * weight ts < n → ((e : SyntaxError) × (whole at ((levels n).ty at ts) ≡ Err e)) ↔ ((t : TyD) → SpellsTy ts t → ⊥))
    × ((n : ℕ) (at : Span) (ts : List Tok) → 3 * weight ts < n → ((e : SyntaxError) × (whole at (path_body (levels n) at ts) ≡ Err e)) ↔ ((p : PathD) → SpellsPath ts p → ⊥))
    × ((n : ℕ) (at : Span) (ts : List Tok) → 3 * weight ts < n → ((e : SyntaxError) × (whole at ((levels n).expr_path at ts) ≡ Err e)) ↔ ((p : ExprPathD) → SpellsExprPath ts p → ⊥))
    × ((n : ℕ) (at : Span) (ts : List Tok) → 3 * weight ts < n → ((e : SyntaxError) × (whole at ((levels n).bounds at ts) ≡ Err e)) ↔ ((bs : List BoundD) → SpellsBounds ts (bounds_of bs) → ⊥))

-- The tokens that a tree of parsed form is printed as spell it.
abbrev pub PrintedIsSpelled : Type 0
PrintedIsSpelled =
    ((t : TyD) → IsParsedTy t → SpellsTy (print_ty t) t)
    × ((p : PathD) → IsParsedPath p → SpellsPath (print_path p) p)
    × ((p : ExprPathD) → IsParsedExprPath p → SpellsExprPath (print_expr_path p) p)
    × ((bs : List BoundD) → IsParsedBounds (bounds_of bs) → SpellsBounds (print_bounds false (bounds_of bs)) (bounds_of bs))

-- What stands in front is read at any level as a tree of parsed form, but for what its lengths are held as, of which the tokens
-- up to the rest are a printing.
abbrev pub ReadIsPrinted : Type 0
ReadIsPrinted =
    ((n : ℕ) (at : Span) (ts rest : List Tok) (t : TyD) → (levels n).ty at ts ≡ Ok (t, rest) → TyForm t × TyThen t ts rest)
    × ((n : ℕ) (at : Span) (ts rest : List Tok) (p : PathD) → path_body (levels n) at ts ≡ Ok (p, rest) → PathForm p × PathThen p ts rest)
    × ((n : ℕ) (at : Span) (ts rest : List Tok) (p : ExprPathD) → (levels n).expr_path at ts ≡ Ok (p, rest) → ExprPathForm p × ExprPathThen p ts rest)
    × ((n : ℕ) (at : Span) (ts rest : List Tok) (bs : List BoundD) → (levels n).bounds at ts ≡ Ok (bs, rest) → BoundsForm (bounds_of bs) × BoundsThen (bounds_of bs) ts rest)

-- Exactly what is printed in front is read from there, where the rest begins with the `:` of a predicate or with a comma, or is
-- empty.
abbrev pub FrontReadExactly : Type 0
FrontReadExactly =
    ((n : ℕ) (at : Span) (ts rest end : List Tok) (t : TyD) → 3 * weight ts < n → colon_front rest ≡ Some end → ((levels n).ty at ts ≡ Ok (t, rest)) ↔ (IsParsedTy t × TyThen t ts rest))
    × ((n : ℕ) (at : Span) (ts rest end : List Tok) (t : TyD) → 3 * weight ts < n → sign_front 44 rest ≡ Some end → ((levels n).ty at ts ≡ Ok (t, rest)) ↔ (IsParsedTy t × TyThen t ts rest))
    × ((n : ℕ) (at : Span) (ts rest end : List Tok) (bs : List BoundD) → 3 * weight ts < n → sign_front 44 rest ≡ Some end → ((levels n).bounds at ts ≡ Ok (bs, rest)) ↔ (IsParsedBounds (bounds_of bs) × BoundsThen (bounds_of bs) ts rest))
    × ((n : ℕ) (at : Span) (ts : List Tok) (bs : List BoundD) → 3 * weight ts < n → ((levels n).bounds at ts ≡ Ok (bs, [])) ↔ SpellsBounds ts (bounds_of bs))
