-- What is said where nothing is left to read.
use Rattle.std.proofs.Common.{◌≡◌, ℕ, List, [], ◌∷◌, ◌++◌, length, refl, arith}
use Rattle.std.specs.Prelude.{codes}
use Rattle.fault_texts.specs.Explained.{line}
use Rattle.fault_places.specs.Stops.{stop_said}

pub at_the_end : (start next : List ℕ) (n : ℕ) → length next ≡ 0
    → start ++ line (codes "reading") (codes "stops at the end, where a group is open") ≡ start ++ line (codes "reading") (stop_said n next)
at_the_end start [] n e = refl
at_the_end start (c ∷ cs) n e = absurd (omega (arith, e))
