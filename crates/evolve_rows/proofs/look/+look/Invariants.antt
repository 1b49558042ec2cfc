use Rattle.std.proofs.Common.{◌+◌, ◌*◌}
use Rattle.evolve_rows.proofs.look.+look.Given as goal

abbrev pub decreases-look_type : goal.decreases-look_type
decreases-look_type l = 3 * l.left + 1

abbrev pub decreases-look_item : goal.decreases-look_item
decreases-look_item l = 3 * l.left

abbrev pub decreases-look_container : goal.decreases-look_container
decreases-look_container l = 3 * l.left + 2
