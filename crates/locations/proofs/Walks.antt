-- The last place of a walk is the last element of its list.
use Rattle.std.proofs.Common.{◌≡◌, ◌-◌, List, [], ◌∷◌, length, Some, ap, sym, ◌∙◌, arith}
use Rattle.std.specs.List.{slice_get}
use Rattle.schema_defs.specs.Location.{Location}
use Rattle.locations.specs.Walk.{last_of_walk}

last_from : (l : Location) (ls : List Location) (m : Location) → slice_get (l ∷ ls) (length ls) ≡ Some m → last_of_walk (l ∷ ls) ≡ m
last_from l [] m h = cc
last_from l (k ∷ ls) m h = last_from k ls m h

pub last_is_end : (ls : List Location) (m : Location) → slice_get ls (length ls - 1) ≡ Some m → last_of_walk ls ≡ m
last_is_end [] m h = cc
last_is_end (l ∷ ls) m h =
    let n : length (l ∷ ls) - 1 ≡ length ls = omega arith in
    last_from l ls m (ap (slice_get (l ∷ ls)) (sym n) ∙ h)
