use Rattle.std.proofs.Common.{◌≡◌, ◌++◌, drop}
use Rattle.merged_rows.specs.Starts.{trail_steps}
use Rattle.merged_rows.proofs.places.behind.Given as goal

abbrev pub invariant-loop-steps : goal.invariant-loop-steps
invariant-loop-steps l = l.place ++ trail_steps (drop l.steps-index l.steps-items) ≡ l.fn.location ++ trail_steps l.steps-items
