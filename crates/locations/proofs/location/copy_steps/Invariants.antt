use Rattle.std.proofs.Common.{◌≡◌, take, map, string_bytes}
use Rattle.locations.proofs.location.copy_steps.Given as goal

abbrev pub invariant-loop-step : goal.invariant-loop-step
invariant-loop-step l = map string_bytes l.copies.items ≡ map string_bytes (take l.step-index l.step-items)
