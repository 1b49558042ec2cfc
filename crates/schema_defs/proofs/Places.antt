-- Places and their steps.
use Rattle.std.proofs.Common.{◌≡◌, ℕ, zero, suc, ◌+◌, ◌-◌, ◌<◌, ◌^◌, List, [], ◌∷◌, map, refl, sym, ap, ◌∙◌, arith}
use Rattle.std.specs.Prelude.{decimal}
use Rattle.std.specs.Fmt.{digits}
use Rattle.std.specs.Int.Digits.{digits_of, number_from_digits}
use Rattle.std.proofs.lemmas.Int.Digits.{number_digits_of}
use Rattle.std.proofs.lemmas.Fmt.{decimal-digits_of}
use Rattle.schema_defs.specs.Location.{Step, place}
use Rattle.schema_defs.specs.Laws.{PlacesDiffer}

-- what digits write of a number, read back
abbrev pub read_back : Step → ℕ
read_back s = number_from_digits 10 (map (λ c. c - 48) s)

lowered : (ds : List ℕ) → map (λ c. c - 48) (map (λ d. 48 + d) ds) ≡ ds
lowered [] = refl
lowered (d ∷ ds) = λ i. low d i ∷ lowered ds i
  where
    low : (d : ℕ) → (48 + d) - 48 ≡ d
    low d = omega arith

pub read_back-place : (i : ℕ) → read_back (place i) ≡ i
unfolding place
read_back-place zero = refl
read_back-place (suc i) = ap (number_from_digits 10) (lowered (digits_of 10 (suc i))) ∙ number_digits_of 10 (suc i) (omega arith)

pub place-injective : (i j : ℕ) → place i ≡ place j → i ≡ j
place-injective i j h = sym (read_back-place i) ∙ ap read_back h ∙ read_back-place j

place-suc : (i : ℕ) → place (suc i) ≡ map (λ d. 48 + d) (digits_of 10 (suc i))
unfolding place
place-suc i = refl

place-zero : place 0 ≡ decimal 0
unfolding place digits
place-zero = refl

place-decimal : (i : ℕ) → i < 2 ^ 64 → place i ≡ decimal i
place-decimal zero h = place-zero
place-decimal (suc i) h = place-suc i ∙ sym (decimal-digits_of (suc i) (omega arith) h)

pub places_differ : PlacesDiffer
places_differ = (place-injective, place-decimal)
