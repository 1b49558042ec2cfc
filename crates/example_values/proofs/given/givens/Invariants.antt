use Rattle.std.proofs.Common.{◌≡◌, ◌++◌, drop}
use Rattle.example_parts.specs.SettingView.{conversions_of, models_of}
use Rattle.example_values.proofs.Settled.{givens_left}
use Rattle.example_values.proofs.given.givens.Given as goal

abbrev pub invariant-loop-container : goal.invariant-loop-container
invariant-loop-container l =
    l.given.items ++ givens_left (models_of l.setting) (conversions_of l.setting) (drop l.container-index l.containers) ≡ givens_left (models_of l.setting) (conversions_of l.setting) l.containers
