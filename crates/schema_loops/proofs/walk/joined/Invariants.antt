use Rattle.std.proofs.Common.{◌≡◌, ◌++◌, map, drop, string_bytes}
use Rattle.schema_loops.proofs.walk.joined.Given as goal

abbrev pub invariant-loop-step : goal.invariant-loop-step
invariant-loop-step l = l.longer ++ map string_bytes (drop l.step-index l.step-items) ≡ l.fn.place ++ l.fn.steps
