-- Values for both halves: `= value` for the two, or a list of `serialize = value` and `deserialize = value` in any order.
use Rattle.std.specs.Prelude.{ℕ, ◌++◌, List, [], ◌∷◌, Option, Some, None, cond, codes}
use Rattle.token_trees.specs.declared.token.Span.{Span}
use Rattle.token_trees.specs.Token.{Tok, span_of_all}
use Rattle.syntax_trees.specs.declared.cursor.SyntaxKind.TheVariants.{ExpectedEqOrParen}
use Rattle.syntax_trees.specs.Metas.{sign_next, parens_next, rest_of, place, expected}
use Rattle.attr_parts.specs.Diagnostics.{syntax, halves, duplicate}
use Rattle.attr_defs.specs.Acts.{ActD, tells}
use Rattle.attr_defs.specs.Steps.{Step, gives, does, ends, ◌>>=◌}
use Rattle.attr_defs.specs.Metas.{PartD, part, unread, metas_in, is_named}

-- a value, and the path that it stands behind
pub record Given (A : Type 0) : Type 0 where
  pub at : Span
  pub value : A

-- the values of each half in order
pub record Halves (A : Type 0) : Type 0 where
  pub serialize : List (Given A)
  pub deserialize : List (Given A)

abbrev pub no_halves : {A : Type 0} → Halves A
no_halves = record { serialize = []; deserialize = [] }

abbrev pub joined : {A : Type 0} → Halves A → Halves A → Halves A
joined a b = record { serialize = a.serialize ++ b.serialize; deserialize = a.deserialize ++ b.deserialize }

-- how one value is read: of the attribute, behind that name, up to that place
abbrev pub OneStep : Type 0 → Type 0
OneStep A = List ℕ → Span → List Tok → Step (Option A)

abbrev pub given : {A : Type 0} → Span → Option A → List (Given A)
given at None = []
given at (Some x) = record { at = at; value = x } ∷ []

-- one meta of the list
abbrev pub half_of : {A : Type 0} → List ℕ → OneStep A → PartD → Step (Halves A)
half_of name one (unread e) = ends (syntax e)
half_of name one (part p rest end) =
    cond (is_named (codes "serialize") p) (one (codes "serialize") end rest >>= λ o. gives (record { serialize = given (span_of_all p) o; deserialize = [] }))
    (cond (is_named (codes "deserialize") p) (one (codes "deserialize") end rest >>= λ o. gives (record { serialize = []; deserialize = given (span_of_all p) o }))
    (ends (record { kind = halves name; span = span_of_all p })))

abbrev pub halves_in : {A : Type 0} → List ℕ → OneStep A → List PartD → Step (Halves A)
halves_in name one [] = gives no_halves
halves_in name one (m ∷ ms) = half_of name one m >>= λ h. halves_in name one ms >>= λ hs. gives (joined h hs)

-- the values of both halves, and what stands behind them
pub record Both (A : Type 0) : Type 0 where
  pub values : Halves A
  pub left : List Tok

abbrev pub listed : {A : Type 0} → List ℕ → OneStep A → Span → List Tok → Option (List Tok) → Step (Both A)
listed name one end rest None = ends (syntax (expected ExpectedEqOrParen end rest))
listed name one end rest (Some us) = halves_in name one (metas_in (place end rest) us) >>= λ h. gives (record { values = h; left = rest_of rest })

-- one value for both
abbrev pub for_both : {A : Type 0} → Span → Option A → Both A
for_both at o = record { values = record { serialize = given at o; deserialize = given at o }; left = [] }

abbrev pub both_step : {A : Type 0} → List ℕ → OneStep A → List Tok → Span → List Tok → Step (Both A)
both_step name one p end rest =
    cond (sign_next 61 rest) (one name end rest >>= λ o. gives (for_both (span_of_all p) o))
    (listed name one end rest (parens_next rest))

-- a second value of a half: it is told, and then the half has none
abbrev pub many_told : {A : Type 0} → List ℕ → List (Given A) → List ActD
many_told name [] = []
many_told name (x ∷ []) = []
many_told name (x ∷ y ∷ ys) = tells (record { kind = duplicate name; span = y.at }) ∷ []

abbrev pub only : {A : Type 0} → List (Given A) → Option A
only [] = None
only (x ∷ []) = Some x.value
only (x ∷ y ∷ ys) = None

-- a value at most of each half
pub record Pair (A : Type 0) : Type 0 where
  pub serialize : Option A
  pub deserialize : Option A
  pub left : List Tok

abbrev pub pair_of : {A : Type 0} → List ℕ → Both A → Step (Pair A)
pair_of name b = does (many_told name b.values.serialize ++ many_told name b.values.deserialize) (record { serialize = only b.values.serialize; deserialize = only b.values.deserialize; left = b.left })

abbrev pub pair_step : {A : Type 0} → List ℕ → OneStep A → List Tok → Span → List Tok → Step (Pair A)
pair_step name one p end rest = both_step name one p end rest >>= pair_of name
