-- Segments where a run is open, and what is written of them.
use Rattle.std.proofs.Common.{◌≡◌, ◌∙◌, sym, ℕ, suc, ◌+◌, ◌≤◌, ◌<◌, List, [], ◌∷◌, ◌++◌, refl, ap, Bool, true, false, cond, length, take, drop, get_or, append_assoc, arith, ◌-◌}
use Rattle.std.proofs.lemmas.List.{append-nil, get_or-drop, take_all, drop_all, length-drop}
use Rattle.std.proofs.Math.Seq.{take-suc, drop-cons}
use Rattle.std.specs.List.{flat_map}
use Rattle.whole_numbers.specs.Whole.{Segment, run, kept, begin_run, segments, written, whole_number, is_of_numbers, is_in_run, place_after, whole}
use Rattle.whole_numbers.specs.declared.place.Place.{Place}
use Rattle.whole_numbers.specs.declared.place.Place.TheVariants.{Outside, Inside, Escaped}

-- the bytes of an open run before the segments
abbrev pub after_run : List ℕ → List Segment → List Segment
after_run [] s = s
after_run (b ∷ bs) s = begin_run b (after_run bs s)

-- what is written of segments
abbrev pub text : List Segment → List ℕ
text s = flat_map written s

abbrev pub rest : List ℕ → Place → List ℕ → List ℕ
rest begun place left = text (after_run begun (segments place left))

pub after-more : (bs : List ℕ) (b : ℕ) (s : List Segment) → after_run (bs ++ b ∷ []) s ≡ after_run bs (begin_run b s)
after-more [] b s = refl
after-more (c ∷ bs) b s = ap (begin_run c) (after-more bs b s)

-- an open run before a byte that is kept is a run
pub after-kept : (b : ℕ) (bs : List ℕ) (c : ℕ) (s : List Segment) → after_run (b ∷ bs) (kept c ∷ s) ≡ run (b ∷ bs) ∷ kept c ∷ s
after-kept b [] c s = refl
after-kept b (d ∷ bs) c s = rw (after-kept d bs c s) refl

pub after-none : (b : ℕ) (bs : List ℕ) → after_run (b ∷ bs) [] ≡ run (b ∷ bs) ∷ []
after-none b [] = refl
after-none b (d ∷ bs) = rw (after-none d bs) refl

-- what is written of an open run before a byte that is kept
pub text-kept : (begun : List ℕ) (c : ℕ) (s : List Segment) → text (after_run begun (kept c ∷ s)) ≡ whole_number begun ++ c ∷ text s
unfolding whole_number
text-kept [] c s = refl
text-kept (b ∷ bs) c s = ap text (after-kept b bs c s)

pub text-none : (begun : List ℕ) → text (after_run begun []) ≡ whole_number begun
unfolding whole_number
text-none [] = refl
text-none (b ∷ bs) = ap text (after-none b bs) ∙ append-nil _

-- ---- the loop

false≢true : false ≡ true → ⊥
false≢true e = cc

by_run : (b : ℕ) (s t : List Segment) (v : Bool) → is_of_numbers b ≡ v → v ≡ true → cond v s t ≡ s
by_run b s t true e h = refl
by_run b s t false e h = absurd (false≢true h)

by_kept : (b : ℕ) (s t : List Segment) (v : Bool) → is_of_numbers b ≡ v → v ≡ false → cond v s t ≡ t
by_kept b s t true e h = absurd (false≢true (sym h))
by_kept b s t false e h = refl

-- a byte of a run lengthens the one that is open
grows_by : (p : Place) (front : List ℕ) (b : ℕ) (left : List ℕ) → is_in_run p b ≡ true → rest front p (b ∷ left) ≡ rest (front ++ b ∷ []) p left
grows_by Outside front b left h =
    ap (λ s. text (after_run front s)) (by_run b (begin_run b (segments Outside left)) (kept b ∷ segments (place_after Outside b) left) (is_of_numbers b) refl h)
    ∙ ap text (sym (after-more front b (segments Outside left)))
grows_by Inside front b left h = absurd (false≢true h)
grows_by Escaped front b left h = absurd (false≢true h)

-- any other ends it
ends_by : (p : Place) (front : List ℕ) (b : ℕ) (left : List ℕ) → is_in_run p b ≡ false → rest front p (b ∷ left) ≡ whole_number front ++ b ∷ rest [] (place_after p b) left
ends_by Outside front b left h =
    ap (λ s. text (after_run front s)) (by_kept b (begin_run b (segments Outside left)) (kept b ∷ segments (place_after Outside b) left) (is_of_numbers b) refl h)
    ∙ text-kept front b (segments (place_after Outside b) left)
ends_by Inside front b left h = text-kept front b (segments (place_after Inside b) left)
ends_by Escaped front b left h = text-kept front b (segments Inside left)

at_index : (bytes : List ℕ) (i : ℕ) → i < length bytes → drop i bytes ≡ get_or bytes i 0 ∷ drop (i + 1) bytes
at_index bytes i h = drop-cons bytes i 0 h ∙ ap (λ n. get_or bytes i 0 ∷ drop n bytes) (let e : suc i ≡ i + 1 = omega arith in e)

longer : (bytes : List ℕ) (s i : ℕ) → s ≤ i → i < length bytes → take (i + 1 - s) (drop s bytes) ≡ take (i - s) (drop s bytes) ++ get_or bytes i 0 ∷ []
longer bytes s i le lt =
    let e : i + 1 - s ≡ suc (i - s) = omega arith in
    let k : i - s < length (drop s bytes) = omega (arith, length-drop s bytes) in
    let n : s + (i - s) ≡ i = omega arith in
    ap (λ m. take m (drop s bytes)) e ∙ take-suc (drop s bytes) (i - s) 0 k
    ∙ ap (λ b. take (i - s) (drop s bytes) ++ b ∷ []) (get_or-drop s bytes (i - s) 0 ∙ ap (λ m. get_or bytes m 0) n)

pub starts : (bytes done : List ℕ) → done ≡ [] → whole bytes ≡ done ++ rest [] Outside bytes
unfolding whole
starts bytes done e = sym (ap (λ d. d ++ rest [] Outside bytes) e)

pub grows : (bytes done : List ℕ) (s i : ℕ) (p : Place) → s ≤ i → i < length bytes → is_in_run p (get_or bytes i 0) ≡ true
    → whole bytes ≡ done ++ rest (take (i - s) (drop s bytes)) p (drop i bytes)
    → whole bytes ≡ done ++ rest (take (i + 1 - s) (drop s bytes)) p (drop (i + 1) bytes)
grows bytes done s i p le lt run_goes h =
    h ∙ ap (λ r. done ++ rest (take (i - s) (drop s bytes)) p r) (at_index bytes i lt)
    ∙ ap (λ t. done ++ t) (grows_by p (take (i - s) (drop s bytes)) (get_or bytes i 0) (drop (i + 1) bytes) run_goes)
    ∙ ap (λ f. done ++ rest f p (drop (i + 1) bytes)) (sym (longer bytes s i le lt))

pub ends : (bytes done extended pushed number : List ℕ) (s i : ℕ) (p q : Place) → s ≤ i → i < length bytes → is_in_run p (get_or bytes i 0) ≡ false
    → number ≡ whole_number (take (i - s) (drop s bytes)) → extended ≡ done ++ number → pushed ≡ extended ++ get_or bytes i 0 ∷ []
    → q ≡ place_after p (get_or bytes i 0)
    → whole bytes ≡ done ++ rest (take (i - s) (drop s bytes)) p (drop i bytes)
    → whole bytes ≡ pushed ++ rest (take (i + 1 - (i + 1)) (drop (i + 1) bytes)) q (drop (i + 1) bytes)
ends bytes done extended pushed number s i p q le lt run_ends n e u a h =
    let b : ℕ = get_or bytes i 0 in
    let left : List ℕ = drop (i + 1) bytes in
    let none : i + 1 - (i + 1) ≡ 0 = omega arith in
    let all : pushed ≡ (done ++ whole_number (take (i - s) (drop s bytes))) ++ b ∷ [] = u ∙ ap (λ x. x ++ b ∷ []) (e ∙ ap (λ x. done ++ x) n) in
    h ∙ ap (λ r. done ++ rest (take (i - s) (drop s bytes)) p r) (at_index bytes i lt)
    ∙ ap (λ t. done ++ t) (ends_by p (take (i - s) (drop s bytes)) b left run_ends)
    ∙ ap (λ x. done ++ (whole_number (take (i - s) (drop s bytes)) ++ b ∷ rest [] x left)) (sym a)
    ∙ sym (append_assoc done (whole_number (take (i - s) (drop s bytes))) (b ∷ rest [] q left))
    ∙ sym (append_assoc (done ++ whole_number (take (i - s) (drop s bytes))) (b ∷ []) (rest [] q left))
    ∙ ap (λ x. x ++ rest [] q left) (sym all)
    ∙ ap (λ m. pushed ++ rest (take m left) q left) (sym none)

segments-nil : (p : Place) → segments p [] ≡ []
segments-nil Outside = refl
segments-nil Inside = refl
segments-nil Escaped = refl

pub finishes : (bytes done extended number : List ℕ) (s i : ℕ) (p : Place) → length bytes ≤ i
    → number ≡ whole_number (take (length bytes - s) (drop s bytes)) → extended ≡ done ++ number
    → whole bytes ≡ done ++ rest (take (i - s) (drop s bytes)) p (drop i bytes)
    → extended ≡ whole bytes
finishes bytes done extended number s i p le n e h =
    let k : length (drop s bytes) ≤ i - s = omega (arith, length-drop s bytes) in
    let m : length (drop s bytes) ≤ length bytes - s = omega (arith, length-drop s bytes) in
    e ∙ ap (λ x. done ++ x) (n ∙ ap whole_number (take_all (length bytes - s) (drop s bytes) m))
    ∙ sym (h ∙ ap (λ r. done ++ rest (take (i - s) (drop s bytes)) p r) (drop_all i bytes le)
    ∙ ap (λ r. done ++ text (after_run (take (i - s) (drop s bytes)) r)) (segments-nil p)
    ∙ ap (λ f. done ++ text (after_run f [])) (take_all (i - s) (drop s bytes) k)
    ∙ ap (λ t. done ++ t) (text-none (drop s bytes)))
