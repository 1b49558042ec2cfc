-- What is rewritten once stays as it is.
use Rattle.std.proofs.Common.{◌≡◌, ◌∙◌, sym, ℕ, ◌+◌, ◌≤◌, ◌∷◌, [], ◌++◌, List, Bool, true, false, refl, ap, subst, cond, ◌&&◌, not, map, take, drop, length, eqb, arith, length-append}
use Rattle.std.specs.Prelude.{bytes_eq, codes}
use Rattle.std.specs.List.{list_all, flat_map, prefix_len, position_or_len}
use Rattle.std.proofs.lemmas.List.{take-append-drop}
use Rattle.std.proofs.lemmas.List.Folds.{length-prefix_len, prefix_len-append, list_all-append}
use Rattle.std.proofs.lemmas.List.Sums.{prefix_len-le-length}
use Rattle.std.proofs.Math.Seq.{take-length, drop-length}
use Rattle.std.proofs.lemmas.Bool.{eqb-true}
use Rattle.std.proofs.lemmas.Slice.Eq.{bytes_eq-Decides}
use Rattle.whole_numbers.specs.declared.place.Place.{Place}
use Rattle.whole_numbers.specs.declared.place.Place.TheVariants.{Outside, Inside, Escaped}
use Rattle.whole_numbers.specs.Whole.{Segment, run, kept, begin_run, segments, place_after, is_of_numbers, is_point, is_integer, is_zero_fraction, is_whole, integer_part, fraction_part, without_minus, without_minus_zero, whole_number, whole}
use Rattle.whole_numbers.specs.Laws.{bytes_of, BeginsWithNoRun, AreLongest}
use Rattle.whole_numbers.proofs.Segments.{after_run, text, after-kept, after-none}
use Rattle.whole_numbers.proofs.Longest.{and_true, longest, same_bytes}

false≢true : false ≡ true → ⊥
false≢true e = cc

equal_bytes : (xs ys : List ℕ) → bytes_eq xs ys ≡ true → xs ≡ ys
equal_bytes xs ys e = (bytes_eq-Decides xs ys).0 e

-- ---- one run

by_end : (n m k : ℕ) (v : Bool) → eqb n m ≡ v → cond v (m + k) n ≡ m → n ≡ m
by_end n m k true e h = eqb-true n m e
by_end n m k false e h = h

-- the front that passes a test passes it whole
front_passes : (q : ℕ → Bool) (xs : List ℕ) → prefix_len q (take (prefix_len q xs) xs) ≡ length (take (prefix_len q xs) xs)
front_passes q xs =
    let front : List ℕ = take (prefix_len q xs) xs in
    let back : List ℕ = drop (prefix_len q xs) xs in
    by_end (prefix_len q front) (length front) (prefix_len q back) (eqb (prefix_len q front) (length front)) refl
    (sym (prefix_len-append q front back) ∙ ap (prefix_len q) (take-append-drop (prefix_len q xs) xs) ∙ sym (length-prefix_len q xs))

integer-integer : (bs : List ℕ) → integer_part (integer_part bs) ≡ integer_part bs
integer-integer bs = ap (λ n. take n (integer_part bs)) (front_passes (λ b. not (is_point b)) bs) ∙ take-length (integer_part bs)

fraction-integer : (bs : List ℕ) → fraction_part (integer_part bs) ≡ []
fraction-integer bs = ap (λ n. drop n (integer_part bs)) (front_passes (λ b. not (is_point b)) bs) ∙ drop-length (integer_part bs)

whole-by : (bs : List ℕ) (v : Bool) → is_whole bs ≡ v → whole_number bs ≡ cond v (without_minus_zero (integer_part bs)) bs
unfolding whole_number
whole-by bs v e = ap (λ b. cond b (without_minus_zero (integer_part bs)) bs) e

left_true : (a b : Bool) → (a && b) ≡ true → a ≡ true
left_true true b e = refl
left_true false b e = e

right_true : (a b : Bool) → (a && b) ≡ true → b ≡ true
right_true true b e = e
right_true false b e = absurd (false≢true e)

-- the integer part of a whole number is whole
integer_whole : (bs : List ℕ) → is_whole bs ≡ true → is_whole (integer_part bs) ≡ true
integer_whole bs e =
    and_true (is_integer (without_minus (integer_part (integer_part bs)))) (is_zero_fraction (fraction_part (integer_part bs)))
    (ap (λ p. is_integer (without_minus p)) (integer-integer bs) ∙ left_true (is_integer (without_minus (integer_part bs))) (is_zero_fraction (fraction_part bs)) e)
    (ap is_zero_fraction (fraction-integer bs))

-- without -0 it is rewritten to itself
by_zero : (part : List ℕ) (v : Bool) → bytes_eq part (codes "-0") ≡ v → is_whole part ≡ true → integer_part part ≡ part → whole_number (cond v (codes "0") part) ≡ cond v (codes "0") part
unfolding whole_number
by_zero part true z w i = refl
by_zero part false z w i = whole-by part true w ∙ ap without_minus_zero i ∙ ap (λ b. cond b (codes "0") part) z

by_whole : (bs : List ℕ) (v : Bool) → is_whole bs ≡ v → whole_number (cond v (without_minus_zero (integer_part bs)) bs) ≡ cond v (without_minus_zero (integer_part bs)) bs
by_whole bs true e = by_zero (integer_part bs) (bytes_eq (integer_part bs) (codes "-0")) refl (integer_whole bs e) (integer-integer bs)
by_whole bs false e = whole-by bs false e

pub number-number : (bs : List ℕ) → whole_number (whole_number bs) ≡ whole_number bs
number-number bs =
    ap whole_number (whole-by bs (is_whole bs) refl) ∙ by_whole bs (is_whole bs) refl ∙ sym (whole-by bs (is_whole bs) refl)

-- a run that is rewritten is a run, and has a byte
abbrev pub IsRun : List ℕ → Type 0
IsRun [] = ⊥
IsRun (b ∷ bs) = list_all is_of_numbers (b ∷ bs) ≡ true

all_of_run : (bs : List ℕ) → IsRun bs → list_all is_of_numbers bs ≡ true
all_of_run [] h = refl
all_of_run (b ∷ bs) h = h

run_of_all : (bs : List ℕ) → list_all is_of_numbers bs ≡ true → is_integer (without_minus bs) ≡ true → IsRun bs
run_of_all [] h i = false≢true i
run_of_all (b ∷ bs) h i = h

all_of_front : (n : ℕ) (bs : List ℕ) → list_all is_of_numbers bs ≡ true → list_all is_of_numbers (take n bs) ≡ true
all_of_front n bs h =
    left_true (list_all is_of_numbers (take n bs)) (list_all is_of_numbers (drop n bs))
    (sym (list_all-append is_of_numbers (take n bs) (drop n bs)) ∙ ap (list_all is_of_numbers) (take-append-drop n bs) ∙ h)

run_by_zero : (part : List ℕ) (v : Bool) → IsRun part → IsRun (cond v (codes "0") part)
run_by_zero part true h = refl
run_by_zero part false h = h

run_by_whole : (bs : List ℕ) (v : Bool) → is_whole bs ≡ v → IsRun bs → IsRun (cond v (without_minus_zero (integer_part bs)) bs)
run_by_whole bs true e h =
    run_by_zero (integer_part bs) (bytes_eq (integer_part bs) (codes "-0"))
    (run_of_all (integer_part bs) (all_of_front (position_or_len is_point bs) bs (all_of_run bs h)) (left_true (is_integer (without_minus (integer_part bs))) (is_zero_fraction (fraction_part bs)) e))
run_by_whole bs false e h = h

number_is_run : (bs : List ℕ) → IsRun bs → IsRun (whole_number bs)
number_is_run bs h = subst IsRun (sym (whole-by bs (is_whole bs) refl)) (run_by_whole bs (is_whole bs) refl h)

-- ---- segments

abbrev pub rewritten : Segment → Segment
rewritten (run bs) = run (whole_number bs)
rewritten (kept b) = kept b

open_step : (b : ℕ) (bs : List ℕ) (s : List Segment) (v : Bool) → is_of_numbers b ≡ v → v ≡ true → cond v (begin_run b (segments Outside bs)) s ≡ begin_run b (segments Outside bs)
open_step b bs s true e h = refl
open_step b bs s false e h = absurd (false≢true h)

-- bytes of a run before others open a run
run_opens : (bs left : List ℕ) → list_all is_of_numbers bs ≡ true → segments Outside (bs ++ left) ≡ after_run bs (segments Outside left)
run_opens [] left h = refl
run_opens (b ∷ bs) left h =
    open_step b (bs ++ left) (kept b ∷ segments (place_after Outside b) (bs ++ left)) (is_of_numbers b) refl (left_true (is_of_numbers b) (list_all is_of_numbers bs) h)
    ∙ ap (begin_run b) (run_opens bs left (right_true (is_of_numbers b) (list_all is_of_numbers bs) h))

begin_again : (bs : List ℕ) (s : List Segment) → IsRun bs → BeginsWithNoRun s → after_run bs (map rewritten s) ≡ run bs ∷ map rewritten s
begin_again [] s h k = absurd h
begin_again (b ∷ bs) [] h k = after-none b bs
begin_again (b ∷ bs) (run cs ∷ s) h k = absurd k
begin_again (b ∷ bs) (kept c ∷ s) h k = after-kept b bs c (map rewritten s)

keep_step : (b : ℕ) (s t : List Segment) (v : Bool) → is_of_numbers b ≡ v → v ≡ false → cond v s (kept b ∷ t) ≡ kept b ∷ t
keep_step b s t true e h = absurd (false≢true (sym h))
keep_step b s t false e h = refl

-- what was written is cut into the segments rewritten
read_again : (p : Place) (s : List Segment) → AreLongest p s → segments p (text s) ≡ map rewritten s
read_again Outside [] h = refl
read_again Inside [] h = refl
read_again Escaped [] h = refl
read_again Outside (kept b ∷ s) h =
    keep_step b (begin_run b (segments Outside (text s))) (segments (place_after Outside b) (text s)) (is_of_numbers b) refl h.0
    ∙ ap (λ t. kept b ∷ t) (read_again (place_after Outside b) s h.1)
read_again Inside (kept b ∷ s) h = ap (λ t. kept b ∷ t) (read_again (place_after Inside b) s h.1)
read_again Escaped (kept b ∷ s) h = ap (λ t. kept b ∷ t) (read_again Inside s h.1)
read_again p (run [] ∷ s) h = absurd h
read_again Outside (run (b ∷ bs) ∷ s) h =
    run_opens (whole_number (b ∷ bs)) (text s) (all_of_run (whole_number (b ∷ bs)) (number_is_run (b ∷ bs) h.1))
    ∙ ap (after_run (whole_number (b ∷ bs))) (read_again Outside s h.3)
    ∙ begin_again (whole_number (b ∷ bs)) s (number_is_run (b ∷ bs) h.1) h.2
read_again Inside (run (b ∷ bs) ∷ s) h = absurd h.0
read_again Escaped (run (b ∷ bs) ∷ s) h = absurd h.0

text-rewritten : (s : List Segment) → text (map rewritten s) ≡ text s
text-rewritten [] = refl
text-rewritten (kept b ∷ s) = ap (λ t. b ∷ t) (text-rewritten s)
text-rewritten (run bs ∷ s) = ap (λ t. whole_number (whole_number bs) ++ t) (text-rewritten s) ∙ ap (λ t. t ++ text s) (number-number bs)

pub settled : (bytes : List ℕ) → whole (whole bytes) ≡ whole bytes
unfolding whole
settled bytes =
    ap text (read_again Outside (segments Outside bytes) (longest Outside bytes)) ∙ text-rewritten (segments Outside bytes)

-- ---- lengths

shorter_by_zero : (part : List ℕ) (v : Bool) → bytes_eq part (codes "-0") ≡ v → length (cond v (codes "0") part) ≤ length part
shorter_by_zero part true e = let h : length part ≡ 2 = ap length (equal_bytes part (codes "-0") e) in omega arith
shorter_by_zero part false e = omega arith

shorter_by_whole : (bs : List ℕ) (v : Bool) → length (cond v (without_minus_zero (integer_part bs)) bs) ≤ length bs
shorter_by_whole bs true =
    let a : length (without_minus_zero (integer_part bs)) ≤ length (integer_part bs) = shorter_by_zero (integer_part bs) (bytes_eq (integer_part bs) (codes "-0")) refl in
    let b : length (integer_part bs) ≡ position_or_len is_point bs = length-prefix_len (λ b. not (is_point b)) bs in
    let c : position_or_len is_point bs ≤ length bs = prefix_len-le-length (λ b. not (is_point b)) bs in
    omega arith
shorter_by_whole bs false = omega arith

number_is_short : (bs : List ℕ) → length (whole_number bs) ≤ length bs
number_is_short bs =
    let P : List ℕ → Type 0 = λ r. length r ≤ length bs in
    subst P (sym (whole-by bs (is_whole bs) refl)) (shorter_by_whole bs (is_whole bs))

text_is_short : (s : List Segment) → length (text s) ≤ length (flat_map bytes_of s)
text_is_short [] = omega arith
text_is_short (kept b ∷ s) = let h : length (text s) ≤ length (flat_map bytes_of s) = text_is_short s in omega arith
text_is_short (run bs ∷ s) =
    let h : length (text s) ≤ length (flat_map bytes_of s) = text_is_short s in
    let k : length (whole_number bs) ≤ length bs = number_is_short bs in
    omega (arith, length-append (whole_number bs) (text s), length-append bs (flat_map bytes_of s))

pub short : (bytes : List ℕ) → length (whole bytes) ≤ length bytes
unfolding whole
short bytes =
    let h : length (text (segments Outside bytes)) ≤ length (flat_map bytes_of (segments Outside bytes)) = text_is_short (segments Outside bytes) in
    let e : length (flat_map bytes_of (segments Outside bytes)) ≡ length bytes = ap length (same_bytes Outside bytes) in
    omega arith
