use Rattle.std.proofs.Common.{◌+◌, ◌*◌, ◌≤◌, drop, length, map}
use Rattle.json_value.specs.View.{kept_view}
use Rattle.conversion_table.specs.Conversions.{conversions_view}
use Rattle.value_models.specs.ContainersView.{containers_in}
use Rattle.value_models.specs.TypeView.{type_view, types_view}
use Rattle.value_models.specs.VariantView.{fields_in}
use Rattle.value_writing.specs.Seen.{kept_members}
use Rattle.example_values.proofs.Lists.{Copied, SoFar, places_view}
use Rattle.example_values.proofs.Members.{From}
use Rattle.example_values.proofs.making.+making.Given as goal

abbrev pub decreases-type_made : goal.decreases-type_made
decreases-type_made l = 9 * l.levels + 0

abbrev pub decreases-types_made : goal.decreases-types_made
decreases-types_made l = 9 * l.levels + 1

abbrev pub decreases-copies_made : goal.decreases-copies_made
decreases-copies_made l = 9 * l.levels + 1

abbrev pub decreases-places_made : goal.decreases-places_made
decreases-places_made l = 9 * l.levels + 1

abbrev pub decreases-newtype_made : goal.decreases-newtype_made
decreases-newtype_made l = 9 * l.levels + 1

abbrev pub decreases-put_field : goal.decreases-put_field
decreases-put_field l = 9 * l.levels + 1

abbrev pub decreases-members_made : goal.decreases-members_made
decreases-members_made l = 9 * l.levels + 2

abbrev pub decreases-content_made : goal.decreases-content_made
decreases-content_made l = 9 * l.levels + 3

abbrev pub decreases-variant_made : goal.decreases-variant_made
decreases-variant_made l = 9 * l.levels + 4

abbrev pub decreases-enum_made : goal.decreases-enum_made
decreases-enum_made l = 9 * l.levels + 5

abbrev pub decreases-body_made : goal.decreases-body_made
decreases-body_made l = 9 * l.levels + 6

abbrev pub decreases-container_made : goal.decreases-container_made
decreases-container_made l = 9 * l.levels + 7

abbrev pub decreases-item_made : goal.decreases-item_made
decreases-item_made l = 9 * l.levels + 8

abbrev pub invariant-types_made-loop-ty : goal.invariant-types_made-loop-ty
invariant-types_made-loop-ty l = SoFar (containers_in l.counted.places.containers.now) (conversions_view l.counted.conversions.now) (types_view l.tys) (map kept_view l.values.items) (types_view (drop l.ty-index l.tys))

abbrev pub invariant-copies_made-loop-copy : goal.invariant-copies_made-loop-copy
invariant-copies_made-loop-copy l = Copied (containers_in l.counted.places.containers.now) (conversions_view l.counted.conversions.now) (type_view l.ty) l._copy (map kept_view l.values.items)

abbrev pub invariant-places_made-loop-field : goal.invariant-places_made-loop-field
invariant-places_made-loop-field l = SoFar (containers_in l.counted.places.containers.now) (conversions_view l.counted.conversions.now) (places_view (containers_in l.counted.places.containers.now) (conversions_view l.counted.conversions.now) l.list) (map kept_view l.values.items) (places_view (containers_in l.counted.places.containers.now) (conversions_view l.counted.conversions.now) (drop l.field-index l.list))

abbrev pub invariant-members_made-loop-left : goal.invariant-members_made-loop-left
invariant-members_made-loop-left l = (l.left ≤ length l.list) × From (containers_in l.counted.places.containers.now) (conversions_view l.counted.conversions.now) (fields_in l.fields) l.left (drop l.left l.list) (kept_members l.members.entries)

abbrev pub decreases-members_made-loop-left : goal.decreases-members_made-loop-left
decreases-members_made-loop-left l = l.left
