use Rattle.std.proofs.Common.{◌+◌, ◌*◌}
use Rattle.plain_tables.proofs.leading.+leading.Given as goal

abbrev pub decreases-type_leads : goal.decreases-type_leads
decreases-type_leads l = 3 * l.left + 1

abbrev pub decreases-item_leads : goal.decreases-item_leads
decreases-item_leads l = 3 * l.left

abbrev pub decreases-container_leads : goal.decreases-container_leads
decreases-container_leads l = 3 * l.left + 2
