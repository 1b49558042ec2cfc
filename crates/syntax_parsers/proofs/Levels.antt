-- One level open.
use Rattle.std.proofs.Common.{◌≡◌, ℕ, zero, suc, ◌-◌, ◌<◌, List, ap, refl, ◌∙◌, arith}
use Rattle.token_trees.specs.declared.token.Span.{Span}
use Rattle.token_trees.specs.Token.{Tok}
use Rattle.syntax_trees.specs.declared.cursor.SyntaxKind.TheVariants.{UnexpectedToken}
use Rattle.syntax_parsers.specs.Grammar.{Readers, missing, ty_body, tys_body, bounds_body, segments_body, generics_body, expr_path_body}
use Rattle.syntax_parsers.specs.Parts.{signed_ty, grouped_ty, worded_ty, plain_ty}
use Rattle.syntax_parsers.specs.Read.{stuck, level, levels}

pub level_of : (n : ℕ) → 0 < n → levels n ≡ level (levels (n - 1))
unfolding levels
level_of zero h = absurd (omega (arith, h))
level_of (suc n) h = let e : n ≡ suc n - 1 = omega arith in ap (λ m. level (levels m)) e

level_none : (n : ℕ) → n ≡ 0 → levels n ≡ stuck
unfolding levels
level_none n e = ap levels e

-- the grammar's type, cut into pieces
ty_pieces : (r : Readers) (at : Span) (ts : List Tok) → ty_body r at ts ≡ signed_ty r at ts
unfolding ty_body signed_ty grouped_ty worded_ty plain_ty
ty_pieces r at ts = refl

pub ty_none : (n : ℕ) (at : Span) (ts : List Tok) → n ≡ 0 → (levels n).ty at ts ≡ missing UnexpectedToken at ts
ty_none n at ts e = ap (λ (r : Readers). r.ty at ts) (level_none n e)

pub ty_level : (n : ℕ) (at : Span) (ts : List Tok) → 0 < n → (levels n).ty at ts ≡ signed_ty (levels (n - 1)) at ts
ty_level n at ts h = ap (λ (r : Readers). r.ty at ts) (level_of n h) ∙ ty_pieces (levels (n - 1)) at ts

pub tys_none : (n : ℕ) (at : Span) (ts : List Tok) → n ≡ 0 → (levels n).tys at ts ≡ missing UnexpectedToken at ts
tys_none n at ts e = ap (λ (r : Readers). r.tys at ts) (level_none n e)

pub tys_level : (n : ℕ) (at : Span) (ts : List Tok) → 0 < n → (levels n).tys at ts ≡ tys_body (levels (n - 1)) at ts
tys_level n at ts h = ap (λ (r : Readers). r.tys at ts) (level_of n h)

pub bounds_none : (n : ℕ) (at : Span) (ts : List Tok) → n ≡ 0 → (levels n).bounds at ts ≡ missing UnexpectedToken at ts
bounds_none n at ts e = ap (λ (r : Readers). r.bounds at ts) (level_none n e)

pub bounds_level : (n : ℕ) (at : Span) (ts : List Tok) → 0 < n → (levels n).bounds at ts ≡ bounds_body (levels (n - 1)) at ts
bounds_level n at ts h = ap (λ (r : Readers). r.bounds at ts) (level_of n h)

pub segments_none : (n : ℕ) (at : Span) (ts : List Tok) → n ≡ 0 → (levels n).segments at ts ≡ missing UnexpectedToken at ts
segments_none n at ts e = ap (λ (r : Readers). r.segments at ts) (level_none n e)

pub segments_level : (n : ℕ) (at : Span) (ts : List Tok) → 0 < n → (levels n).segments at ts ≡ segments_body (levels (n - 1)) at ts
segments_level n at ts h = ap (λ (r : Readers). r.segments at ts) (level_of n h)

pub generics_none : (n : ℕ) (at : Span) (ts : List Tok) → n ≡ 0 → (levels n).generics at ts ≡ missing UnexpectedToken at ts
generics_none n at ts e = ap (λ (r : Readers). r.generics at ts) (level_none n e)

pub generics_level : (n : ℕ) (at : Span) (ts : List Tok) → 0 < n → (levels n).generics at ts ≡ generics_body (levels (n - 1)) at ts
generics_level n at ts h = ap (λ (r : Readers). r.generics at ts) (level_of n h)

pub expr_path_none : (n : ℕ) (at : Span) (ts : List Tok) → n ≡ 0 → (levels n).expr_path at ts ≡ missing UnexpectedToken at ts
expr_path_none n at ts e = ap (λ (r : Readers). r.expr_path at ts) (level_none n e)

pub expr_path_level : (n : ℕ) (at : Span) (ts : List Tok) → 0 < n → (levels n).expr_path at ts ≡ expr_path_body (levels (n - 1)) at ts
expr_path_level n at ts h = ap (λ (r : Readers). r.expr_path at ts) (level_of n h)
