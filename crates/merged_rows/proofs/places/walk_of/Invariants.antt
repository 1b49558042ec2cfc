use Rattle.std.proofs.Common.{◌≡◌, drop}
use Rattle.merged_rows.specs.Starts.{walk_by}
use Rattle.merged_rows.proofs.places.walk_of.Given as goal

abbrev pub invariant-loop-steps : goal.invariant-loop-steps
invariant-loop-steps l = walk_by l.walk (drop l.steps-index l.steps-items) ≡ walk_by l.start.walk l.steps-items
