-- Segments are the bytes, cut so that each run is as long as can be.
use Rattle.std.proofs.Common.{◌≡◌, ◌∙◌, ℕ, ◌∷◌, [], List, Bool, true, false, refl, ap, cond, ◌&&◌}
use Rattle.std.specs.List.{list_all, flat_map}
use Rattle.whole_numbers.specs.declared.place.Place.{Place}
use Rattle.whole_numbers.specs.declared.place.Place.TheVariants.{Outside, Inside, Escaped}
use Rattle.whole_numbers.specs.Whole.{Segment, run, kept, begin_run, segments, place_after, is_of_numbers}
use Rattle.whole_numbers.specs.Laws.{bytes_of, AreLongest}

abbrev pub and_true : (a b : Bool) → a ≡ true → b ≡ true → (a && b) ≡ true
and_true true b p q = q
and_true false b p q = p

abbrev pub begin_longest : (b : ℕ) (s : List Segment) → is_of_numbers b ≡ true → AreLongest Outside s → AreLongest Outside (begin_run b s)
begin_longest b [] e h = (tt, and_true (is_of_numbers b) true e refl, tt, tt)
begin_longest b (kept c ∷ s) e h = (tt, and_true (is_of_numbers b) true e refl, tt, h)
begin_longest b (run [] ∷ s) e h = absurd h
begin_longest b (run (c ∷ cs) ∷ s) e h = (tt, and_true (is_of_numbers b) (list_all is_of_numbers (c ∷ cs)) e h.1, h.2, h.3)

step_longest : (b : ℕ) (s t : List Segment) (v : Bool) → is_of_numbers b ≡ v → AreLongest Outside s → AreLongest (place_after Outside b) t → AreLongest Outside (cond v (begin_run b s) (kept b ∷ t))
step_longest b s t true e h k = begin_longest b s e h
step_longest b s t false e h k = (e, k)

pub longest : (p : Place) (bytes : List ℕ) → AreLongest p (segments p bytes)
longest Outside [] = tt
longest Inside [] = tt
longest Escaped [] = tt
longest Outside (b ∷ bs) = step_longest b (segments Outside bs) (segments (place_after Outside b) bs) (is_of_numbers b) refl (longest Outside bs) (longest (place_after Outside b) bs)
longest Inside (b ∷ bs) = (tt, longest (place_after Inside b) bs)
longest Escaped (b ∷ bs) = (tt, longest Inside bs)

begin_bytes : (b : ℕ) (s : List Segment) → flat_map bytes_of (begin_run b s) ≡ b ∷ flat_map bytes_of s
begin_bytes b [] = refl
begin_bytes b (kept c ∷ s) = refl
begin_bytes b (run bs ∷ s) = refl

step_bytes : (b : ℕ) (s t : List Segment) (bs : List ℕ) (v : Bool) → flat_map bytes_of s ≡ bs → flat_map bytes_of t ≡ bs → flat_map bytes_of (cond v (begin_run b s) (kept b ∷ t)) ≡ b ∷ bs
step_bytes b s t bs true h k = begin_bytes b s ∙ ap (λ r. b ∷ r) h
step_bytes b s t bs false h k = ap (λ r. b ∷ r) k

pub same_bytes : (p : Place) (bytes : List ℕ) → flat_map bytes_of (segments p bytes) ≡ bytes
same_bytes Outside [] = refl
same_bytes Inside [] = refl
same_bytes Escaped [] = refl
same_bytes Outside (b ∷ bs) = step_bytes b (segments Outside bs) (segments (place_after Outside b) bs) bs (is_of_numbers b) (same_bytes Outside bs) (same_bytes (place_after Outside b) bs)
same_bytes Inside (b ∷ bs) = ap (λ r. b ∷ r) (same_bytes (place_after Inside b) bs)
same_bytes Escaped (b ∷ bs) = ap (λ r. b ∷ r) (same_bytes Inside bs)
