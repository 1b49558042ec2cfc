-- The places of a trail's walk.
use Rattle.std.proofs.Common.{◌≡◌, ◌+◌, List, [], ◌∷◌, length, arith}
use Rattle.std.proofs.lemmas.List.{length-append}
use Rattle.row_findings.specs.declared.part.Steps.{Steps}
use Rattle.row_findings.specs.View.{steps_view}
use Rattle.merge_walks.specs.Carried.{Walk, to_child}
use Rattle.merged_rows.specs.Starts.{walk_by}

one_more : (w : Walk) (k : Steps) → length (to_child w (steps_view k)) ≡ length w + 1
one_more w k = length-append w _

pub counts : (w : Walk) (ks : List Steps) → length (walk_by w ks) ≡ length w + length ks
counts w [] = omega (arith)
counts w (k ∷ ks) = let a = counts (to_child w (steps_view k)) ks in let b = one_more w k in omega (arith, a, b)
