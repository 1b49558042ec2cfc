-- The work that is left: defaults that may still be entered, a value's size, items that may still be entered, and a step's rank.
use Rattle.std.proofs.Common.{ℕ, ◌+◌, List, [], ◌∷◌}
use Rattle.json_value.specs.Value.{Value, value_size}
use Rattle.model_defs.specs.Reads.{allowed}
use Rattle.conversion_table.specs.Conversions.{conversions_view}
use Rattle.value_models.specs.ContainersView.{containers_in}
use Rattle.value_parts.specs.declared.setting.Setting.{Setting}
use Rattle.value_reading.proofs.Order.{pack}

abbrev pub defaults_size : List Value → ℕ
defaults_size [] = 1
defaults_size (v ∷ vs) = value_size v + defaults_size vs

-- as many items as may be entered at one value
abbrev pub items_in : Setting → ℕ
items_in s = allowed (containers_in s.containers.now)

abbrev pub sizes_in : Setting → ℕ
sizes_in s = defaults_size (conversions_view s.conversions.now).defaults

abbrev pub work : Setting → ℕ → ℕ → ℕ → ℕ
work s x y r = pack (sizes_in s) (items_in s) s.more x y r
