-- Laws on segments, and on how bytes are rewritten.
use Rattle.std.specs.Prelude.{◌≡◌, ◌≤◌, ℕ, List, [], ◌∷◌, length, IsTrue, IsFalse}
use Rattle.std.specs.List.{list_all, flat_map}
use Rattle.whole_numbers.specs.declared.place.Place.{Place}
use Rattle.whole_numbers.specs.declared.place.Place.TheVariants.{Outside, Inside, Escaped}
use Rattle.whole_numbers.specs.Whole.{Segment, run, kept, segments, place_after, is_of_numbers, whole}

abbrev pub bytes_of : Segment → List ℕ
bytes_of (run bs) = bs
bytes_of (kept b) = b ∷ []

-- outside strings a byte that is kept is none of the characters of numbers
abbrev pub IsKeptAt : Place → ℕ → Type 0
IsKeptAt Outside b = IsFalse (is_of_numbers b)
IsKeptAt Inside b = Unit {0}
IsKeptAt Escaped b = Unit {0}

abbrev pub IsOutside : Place → Type 0
IsOutside Outside = Unit {0}
IsOutside Inside = ⊥
IsOutside Escaped = ⊥

abbrev pub BeginsWithNoRun : List Segment → Type 0
BeginsWithNoRun [] = Unit {0}
BeginsWithNoRun (run bs ∷ s) = ⊥
BeginsWithNoRun (kept b ∷ s) = Unit {0}

-- each run stands outside strings, isn't empty, has characters of numbers alone, and no other run follows it
abbrev pub AreLongest : Place → List Segment → Type 0
AreLongest p [] = Unit {0}
AreLongest p (kept b ∷ s) = IsKeptAt p b × AreLongest (place_after p b) s
AreLongest p (run [] ∷ s) = ⊥
AreLongest p (run (b ∷ bs) ∷ s) = IsOutside p × IsTrue (list_all is_of_numbers (b ∷ bs)) × BeginsWithNoRun s × AreLongest Outside s

-- the segments are the bytes, cut so that each run is as long as can be
pub record CutsLongest : Type 0 where
  pub same : (bytes : List ℕ) → flat_map bytes_of (segments Outside bytes) ≡ bytes
  pub longest : (bytes : List ℕ) → AreLongest Outside (segments Outside bytes)

-- what is rewritten once stays as it is
abbrev pub IsSettled : Type 0
IsSettled = (bytes : List ℕ) → whole (whole bytes) ≡ whole bytes

abbrev pub NeverGrows : Type 0
NeverGrows = (bytes : List ℕ) → length (whole bytes) ≤ length bytes
