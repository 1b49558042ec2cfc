use Rattle.std.proofs.Common.{◌+◌, ◌*◌}
use Rattle.example_tries.proofs.making.+making.Given as goal

abbrev pub decreases-type_made : goal.decreases-type_made
decreases-type_made l = 6 * l.left + 0

abbrev pub decreases-places_made : goal.decreases-places_made
decreases-places_made l = 6 * l.left + 1

abbrev pub decreases-fields_made : goal.decreases-fields_made
decreases-fields_made l = 6 * l.left + 1

abbrev pub decreases-content_made : goal.decreases-content_made
decreases-content_made l = 6 * l.left + 2

abbrev pub decreases-variant_made : goal.decreases-variant_made
decreases-variant_made l = 6 * l.left + 3

abbrev pub decreases-enum_made : goal.decreases-enum_made
decreases-enum_made l = 6 * l.left + 4

abbrev pub decreases-item_made : goal.decreases-item_made
decreases-item_made l = 6 * l.left + 5
