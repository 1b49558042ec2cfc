use Rattle.std.proofs.Common.{◌≡◌, ◌++◌, ◌∷◌, drop, map, string_bytes}
use Rattle.schema_defs.specs.Location.{steps_text}
use Rattle.locations.proofs.location.Location.text.Given as goal

abbrev pub invariant-loop-step : goal.invariant-loop-step
invariant-loop-step l = 35 ∷ steps_text l.self ≡ string_bytes l.text ++ steps_text (map string_bytes (drop l.step-index l.step-items))
