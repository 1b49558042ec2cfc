use Rattle.std.proofs.Common.{◌≡◌, ◌≤◌, drop, length, map}
use Rattle.conversion_table.specs.Conversions.{conversions_view}
use Rattle.value_models.specs.ContainerView.{containers_view}
use Rattle.describe_defs.specs.Description.{in_order}
use Rattle.describe_defs.specs.Written.{definition_value}
use Rattle.described_values.specs.Seen.{kept_entries}
use Rattle.described_values.proofs.table.definitions.Given as goal

abbrev pub invariant-loop-left : goal.invariant-loop-left
invariant-loop-left l =
    (l.left ≤ length l.containers) × (kept_entries l.members.entries ≡ in_order (map (definition_value (conversions_view l.conversions)) (containers_view (drop l.left l.containers))))

abbrev pub decreases-loop-left : goal.decreases-loop-left
decreases-loop-left l = l.left
