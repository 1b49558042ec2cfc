use Rattle.std.proofs.Common.{◌+◌, ◌*◌}
use Rattle.value_parts.proofs.missing.+absent.Given as goal

abbrev pub decreases-absent : goal.decreases-absent
decreases-absent l = 3 * l.left + 1

abbrev pub decreases-item_absent : goal.decreases-item_absent
decreases-item_absent l = 3 * l.left

abbrev pub decreases-container_absent : goal.decreases-container_absent
decreases-container_absent l = 3 * l.left + 2
