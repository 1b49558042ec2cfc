-- Parts of a date-time at fixed places, and texts that are too short for one.
use Rattle.std.proofs.Common.{◌≡◌, ℕ, ◌+◌, ◌<◌, ◌&&◌, List, [], ◌∷◌, Bool, true, false, length, take, drop, bytes_eq, nat_eq, nat_le, refl, ap, sym, ◌∙◌, arith}
use Rattle.std.proofs.lemmas.List.{drop-drop, drop_all}
use Rattle.std.specs.List.{starts_with}
use Rattle.schema_defs.specs.Formats.{is_date, is_date_time, are_clock_parts, pieces, is_fraction_and_zone, is_zone, leading_digits}
use Rattle.schema_texts.proofs.Bools.{and_false}

-- a date-time by its parts
pub date_time_parts : (s : List ℕ) → is_date_time s
    ≡ (is_date (take 10 s) && bytes_eq (take 1 (drop 10 s)) (84 ∷ []) && are_clock_parts (pieces 58 (take 8 (drop 1 (drop 10 s)))) && is_fraction_and_zone (drop 8 (drop 1 (drop 10 s))))
unfolding is_date_time
date_time_parts s = rw (drop-drop 8 1 (drop 10 s), drop-drop 1 10 s, drop-drop 9 10 s) refl

pub date_time_short : (s : List ℕ) → length s < 19 → is_date_time s ≡ false
unfolding is_date_time
date_time_short s h =
    let past : drop 19 s ≡ [] = drop_all 19 s (omega arith) in
    rw past (and_false (is_date (take 10 s) && bytes_eq (take 1 (drop 10 s)) (84 ∷ []) && are_clock_parts (pieces 58 (take 8 (drop 11 s)))))

after_fraction : (s : List ℕ) (n : ℕ) → drop n (drop 1 s) ≡ drop (1 + n) s
after_fraction s n = drop-drop n 1 s

-- a point, digits and a zone
pub fraction_by : (s : List ℕ) (b : Bool) → starts_with nat_eq s (46 ∷ []) ≡ true
    → b ≡ (nat_le 1 (leading_digits (drop 1 s)) && nat_le (leading_digits (drop 1 s)) 9 && is_zone (drop (leading_digits (drop 1 s)) (drop 1 s)))
    → b ≡ is_fraction_and_zone s
fraction_by s b at e =
    rw at
    (e ∙ ap (λ t. nat_le 1 (leading_digits (drop 1 s)) && nat_le (leading_digits (drop 1 s)) 9 && is_zone t) (after_fraction s (leading_digits (drop 1 s))))

-- a date, `T`, a time of day and what is behind it
pub date_time_by : (s : List ℕ) (b : Bool) → is_date (take 10 s) ≡ true → bytes_eq (take 1 (drop 10 s)) (84 ∷ []) ≡ true
    → are_clock_parts (pieces 58 (take 8 (drop 1 (drop 10 s)))) ≡ true → b ≡ is_fraction_and_zone (drop 8 (drop 1 (drop 10 s))) → b ≡ is_date_time s
date_time_by s b day mark clock rest = rest ∙ sym (date_time_parts s ∙ rw (day, mark, clock) refl)
