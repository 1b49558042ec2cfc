-- The arguments of the last of a list of segments.
use Rattle.std.proofs.Common.{◌≡◌, ◌-◌, List, [], ◌∷◌, Some, map, length, ap, sym, ◌∙◌, arith}
use Rattle.std.specs.Prelude.{not}
use Rattle.std.specs.List.{slice_get}
use Rattle.syntax_trees.specs.Syntax.{SegmentD, segments_of, has_no_arguments}
use Rattle.container_defs.specs.Checks.{last_has_arguments}

arguments_from : {X : Type 0} → (f : X → SegmentD) (x : X) (xs : List X) (l : X) → slice_get (x ∷ xs) (length xs) ≡ Some l → last_has_arguments (segments_of (map f (x ∷ xs))) ≡ not (has_no_arguments (f l))
arguments_from f x [] l h = let e : x ≡ l = cc in ap (λ z. not (has_no_arguments (f z))) e
arguments_from f x (y ∷ ys) l h = arguments_from f y ys l h

pub arguments_at : {X : Type 0} → (f : X → SegmentD) (xs : List X) (l : X) → slice_get xs (length xs - 1) ≡ Some l → last_has_arguments (segments_of (map f xs)) ≡ not (has_no_arguments (f l))
arguments_at f [] l h = cc
arguments_at f (x ∷ xs) l h =
    let n : length (x ∷ xs) - 1 ≡ length xs = omega arith in
    arguments_from f x xs l (ap (slice_get (x ∷ xs)) (sym n) ∙ h)
