-- Open brackets, and what closes them.
use Rattle.std.proofs.Common.{◌≡◌, ◌≢◌, List, [], ◌∷◌, ◌++◌, Some, None, inl, inr, refl, ap, sym, subst, ◌∙◌}
use Rattle.token_trees.specs.declared.token.Delimiter.{Delimiter}
use Rattle.token_trees.specs.declared.token.Delimiter.TheVariants.{Parenthesis, Brace, Bracket, None as hidden}
use Rattle.token_trees.specs.Text.{Piece, name, sign, constant, opens, closes}
use Rattle.rust_tokens.specs.Faults.{Seen, closed, open_after_one, open_after}
use Rattle.rust_tokens.proofs.Balance.{balance, same_delimiter, wrong_close, right_close_at}
use Rattle.rust_tokens.proofs.Sights.{all_seen}

pub closed_nil : (d : Delimiter) → closed d [] ≡ []
closed_nil Parenthesis = refl
closed_nil Brace = refl
closed_nil Bracket = refl
closed_nil hidden = refl

pub closed_same : (d : Delimiter) (outer : List Delimiter) → closed d (d ∷ outer) ≡ outer
closed_same Parenthesis outer = refl
closed_same Brace outer = refl
closed_same Bracket outer = refl
closed_same hidden outer = refl

pub closed_partner : (d e : Delimiter) (outer : List Delimiter) → d ≡ e → closed d (e ∷ outer) ≡ outer
closed_partner d e outer same = ap (λ x. closed d (x ∷ outer)) (sym same) ∙ closed_same d outer

pub closed_other : (d e : Delimiter) (outer : List Delimiter) → (d ≡ e → ⊥) → closed d (e ∷ outer) ≡ e ∷ outer
closed_other Parenthesis Parenthesis outer h = absurd (h refl)
closed_other Brace Brace outer h = absurd (h refl)
closed_other Bracket Bracket outer h = absurd (h refl)
closed_other hidden hidden outer h = absurd (h refl)
closed_other d e outer h = refl

pub open_after_append : (xs ys : List Seen) (held : List Delimiter) → open_after (xs ++ ys) held ≡ open_after ys (open_after xs held)
open_after_append [] ys held = refl
open_after_append (x ∷ xs) ys held = open_after_append xs ys (open_after_one x held)

pub some_open : (ds : List Delimiter) (d : Delimiter) (held : List Delimiter) → ds ++ d ∷ held ≢ []
some_open [] d held e = cc
some_open (x ∷ ds) d held e = cc

-- a token that can stand where those brackets are open: a closing one only where it is the partner of the innermost
abbrev pub FitsOne : Seen → List Delimiter → Type 0
FitsOne None held = ⊥
FitsOne (Some (closes d)) held = (outer : List Delimiter) × (held ≡ d ∷ outer)
FitsOne (Some x) held = Unit {0}

abbrev pub Fits : List Seen → List Delimiter → Type 0
Fits [] held = Unit {0}
Fits (x ∷ xs) held = FitsOne x held × Fits xs (open_after_one x held)

pub fits_after : (xs ys : List Seen) (held : List Delimiter) → Fits (xs ++ ys) held → Fits ys (open_after xs held)
fits_after [] ys held h = h
fits_after (x ∷ xs) ys held h = fits_after xs ys (open_after_one x held) h.1

pub fits_before : (xs ys : List Seen) (held : List Delimiter) → Fits (xs ++ ys) held → Fits xs held
fits_before [] ys held h = tt
fits_before (x ∷ xs) ys held h = (h.0, fits_before xs ys (open_after_one x held) h.1)

-- tokens in balance fit
pub record Balanced (xs : List Seen) (held left : List Delimiter) : Type 0 where
  pub fits : Fits xs held
  pub leaves : open_after xs held ≡ left

abbrev one_fits : (x : Seen) (xs : List Seen) (held left : List Delimiter) → FitsOne x held → Balanced xs (open_after_one x held) left → Balanced (x ∷ xs) held left
one_fits x xs held left f b = record { fits = (f, b.fits); leaves = b.leaves }

pub balanced : (xs : List Piece) (held left : List Delimiter) → balance xs held ≡ Some left → Balanced (all_seen xs) held left
balanced [] held left h = record { fits = tt; leaves = cc }
balanced (name x ∷ xs) held left h = one_fits (Some (name x)) (all_seen xs) held left tt (balanced xs held left h)
balanced (sign c j ∷ xs) held left h = one_fits (Some (sign c j)) (all_seen xs) held left tt (balanced xs held left h)
balanced (constant k ∷ xs) held left h = one_fits (Some (constant k)) (all_seen xs) held left tt (balanced xs held left h)
balanced (opens d ∷ xs) held left h = one_fits (Some (opens d)) (all_seen xs) held left tt (balanced xs (d ∷ held) left h)
balanced (closes d ∷ xs) [] left h = absurd (cc)
balanced (closes d ∷ xs) (e ∷ held) left h =
    elim (same_delimiter d e) [
      | inl same ↦
          let B : List Delimiter → Type 0 = λ ds. Balanced (all_seen xs) ds left in
          one_fits (Some (closes d)) (all_seen xs) (e ∷ held) left (held, ap (λ x. x ∷ held) (sym same))
          (subst B (sym (closed_partner d e held same)) (balanced xs held left (right_close_at d e xs held (Some left) same h)))
      | inr apart ↦ absurd (let w = sym (wrong_close d e xs held apart) ∙ h in cc)
    ]

-- what fits does nothing to the brackets that were open before
fits_one_over : (x : Seen) (held base : List Delimiter) → FitsOne x held → open_after_one x (held ++ base) ≡ open_after_one x held ++ base
fits_one_over None held base h = refl
fits_one_over (Some (name x)) held base h = refl
fits_one_over (Some (sign c j)) held base h = refl
fits_one_over (Some (constant k)) held base h = refl
fits_one_over (Some (opens d)) held base h = refl
fits_one_over (Some (closes d)) held base h =
    ap (λ ds. closed d (ds ++ base)) h.1 ∙ closed_same d (h.0 ++ base)
    ∙ ap (λ ds. ds ++ base) (sym (closed_same d h.0)) ∙ ap (λ ds. closed d ds ++ base) (sym h.1)

pub fits_over : (xs : List Seen) (held base : List Delimiter) → Fits xs held → open_after xs (held ++ base) ≡ open_after xs held ++ base
fits_over [] held base h = refl
fits_over (x ∷ xs) held base h =
    ap (open_after xs) (fits_one_over x held base h.0) ∙ fits_over xs (open_after_one x held) base h.1

-- what closes all brackets has a front that closes the first of them
pub record Closing (xs : List Seen) (inner : List Delimiter) (d : Delimiter) : Type 0 where
  pub front : List Seen
  pub more : List Seen
  pub whole : xs ≡ front ++ more
  pub none_open : open_after front (inner ++ d ∷ []) ≡ []

abbrev later : (x : Seen) (xs : List Seen) (inner next : List Delimiter) (d : Delimiter) → open_after_one x (inner ++ d ∷ []) ≡ next ++ d ∷ [] → Closing xs next d → Closing (x ∷ xs) inner d
later x xs inner next d e c =
    record { front = x ∷ c.front; more = c.more; whole = ap (λ ys. x ∷ ys) c.whole; none_open = ap (open_after c.front) e ∙ c.none_open }

pub closing : (xs : List Seen) (inner : List Delimiter) (d : Delimiter) (held : List Delimiter) → open_after xs (inner ++ d ∷ held) ≡ [] → Closing xs inner d
closing [] inner d held h = absurd (some_open inner d held h)
closing (None ∷ xs) inner d held h = later None xs inner inner d refl (closing xs inner d held h)
closing (Some (name x) ∷ xs) inner d held h = later (Some (name x)) xs inner inner d refl (closing xs inner d held h)
closing (Some (sign c j) ∷ xs) inner d held h = later (Some (sign c j)) xs inner inner d refl (closing xs inner d held h)
closing (Some (constant k) ∷ xs) inner d held h = later (Some (constant k)) xs inner inner d refl (closing xs inner d held h)
closing (Some (opens e) ∷ xs) inner d held h = later (Some (opens e)) xs inner (e ∷ inner) d refl (closing xs (e ∷ inner) d held h)
closing (Some (closes e) ∷ xs) [] d held h =
    elim (same_delimiter e d) [
      | inl same ↦ record { front = Some (closes e) ∷ []; more = xs; whole = refl; none_open = closed_partner e d [] same }
      | inr apart ↦ later (Some (closes e)) xs [] [] d (closed_other e d [] apart) (closing xs [] d held (sym (ap (open_after xs) (closed_other e d held apart)) ∙ h))
    ]
closing (Some (closes e) ∷ xs) (f ∷ inner) d held h =
    elim (same_delimiter e f) [
      | inl same ↦
          later (Some (closes e)) xs (f ∷ inner) inner d (closed_partner e f (inner ++ d ∷ []) same)
          (closing xs inner d held (sym (ap (open_after xs) (closed_partner e f (inner ++ d ∷ held) same)) ∙ h))
      | inr apart ↦
          later (Some (closes e)) xs (f ∷ inner) (f ∷ inner) d (closed_other e f (inner ++ d ∷ []) apart)
          (closing xs (f ∷ inner) d held (sym (ap (open_after xs) (closed_other e f (inner ++ d ∷ held) apart)) ∙ h))
    ]
