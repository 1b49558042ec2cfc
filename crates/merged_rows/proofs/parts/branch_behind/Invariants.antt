use Rattle.std.proofs.Common.{◌≡◌, drop, map}
use Rattle.convert_walks.specs.Spot.{branch_at}
use Rattle.row_findings.specs.View.{branch_view, steps_view}
use Rattle.merged_rows.proofs.parts.branch_behind.Given as goal

abbrev pub invariant-loop-branch : goal.invariant-loop-branch
invariant-loop-branch l = branch_at (steps_view l.steps) (map branch_view (drop l.branch-index l.branch-items)) ≡ branch_at (steps_view l.steps) (map branch_view l.branch-items)
