use Rattle.std.proofs.Common.{ℕ, ◌<◌}
use Rattle.example_parts.specs.SettingView.{conversions_of, models_of}
use Rattle.example_values.specs.Causes.{IsMarkedOdd}
use Rattle.example_values.proofs.outside.first_odd.Given as goal

abbrev pub invariant-loop-place : goal.invariant-loop-place
invariant-loop-place l = (j : ℕ) → j < l.place → IsMarkedOdd (models_of l.setting) (conversions_of l.setting) l.flags j → ⊥
