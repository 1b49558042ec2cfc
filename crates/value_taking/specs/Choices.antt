-- Whether a value is read as an enum, once it is known as which variant.
use Rattle.std.specs.Prelude.{ℕ, Bool}
use Rattle.json_value.specs.Value.{Value}
use Rattle.model_defs.specs.Layer.{variant_content}
use Rattle.model_defs.specs.Reads.{allowed}
use Rattle.reading_defs.specs.Laws.{is_taken}
use Rattle.value_parts.specs.Choice.{Choice, settled, inside, beside, in_turn}
use Rattle.value_taking.specs.At.{Tables, content_at, members_at, untagged_at}

-- with so many items that may still be entered at the value
abbrev pub choice_at : Tables → ℕ → Bool → Value → Choice → Bool
choice_at s k closed v (settled r) = is_taken r
choice_at s k closed v (inside i w e) = content_at s (allowed s.models) (variant_content closed w) e.1
choice_at s k closed v (beside i fs es) = members_at s closed fs es
choice_at s k closed v (in_turn ws) = untagged_at s k closed ws v
