-- Paths of two and more segments.
use Rattle.std.proofs.Common.{ℕ, ◌≤◌, List, [], ◌∷◌, length, Bool, map, arith}
use Rattle.syntax_trees.specs.Syntax.{SegmentD, segments_of, IsLone}

pub not_lone : {X : Type 0} → (f : X → SegmentD) (leading : Bool) (n : List ℕ) (ss : List X) → 2 ≤ length ss → IsLone leading n (segments_of (map f ss)) → ⊥
not_lone f leading n [] h k = absurd (omega arith)
not_lone f leading n (s ∷ []) h k = absurd (omega arith)
not_lone f leading n (s ∷ t ∷ ss) h k = k
