use Rattle.std.proofs.Common.{◌≡◌, ◌+◌, ◌*◌, map, drop}
use Rattle.json_value.specs.View.{kept_view}
use Rattle.value_models.specs.TypeView.{type_view}
use Rattle.value_models.specs.VariantView.{variants_view, fields_in}
use Rattle.value_parts.specs.Entries.{demand_view, entries_view}
use Rattle.value_parts.specs.Slots.{entries_at, entries_without_place}
use Rattle.value_parts.specs.SortedView.{sorted_entries, sorted_names}
use Rattle.value_taking.specs.At.{demanded_from, pairs_at, untagged_at, fields_from}
use Rattle.value_taking.specs.SettingView.{tables_view}
use Rattle.value_taking.proofs.taking.+takes.Given as goal

abbrev pub decreases-takes_part : goal.decreases-takes_part
decreases-takes_part l = 16 * l.setting.now.levels + 1

abbrev pub decreases-takes_type : goal.decreases-takes_type
decreases-takes_type l = 16 * l.setting.now.levels + 0

abbrev pub decreases-takes_leaf : goal.decreases-takes_leaf
decreases-takes_leaf l = 16 * l.setting.now.levels + 15

abbrev pub decreases-takes_list : goal.decreases-takes_list
decreases-takes_list l = 16 * l.setting.now.levels + 4

abbrev pub decreases-takes_items : goal.decreases-takes_items
decreases-takes_items l = 16 * l.setting.now.levels + 3

abbrev pub decreases-takes_map : goal.decreases-takes_map
decreases-takes_map l = 16 * l.setting.now.levels + 4

abbrev pub decreases-takes_pairs : goal.decreases-takes_pairs
decreases-takes_pairs l = 16 * l.setting.now.levels + 3

abbrev pub decreases-takes_pair : goal.decreases-takes_pair
decreases-takes_pair l = 16 * l.setting.now.levels + 2

abbrev pub decreases-takes_item : goal.decreases-takes_item
decreases-takes_item l = 16 * l.setting.now.levels + 14

abbrev pub decreases-takes_container : goal.decreases-takes_container
decreases-takes_container l = 16 * l.setting.now.levels + 13

abbrev pub decreases-takes_body : goal.decreases-takes_body
decreases-takes_body l = 16 * l.setting.now.levels + 12

abbrev pub decreases-takes_only : goal.decreases-takes_only
decreases-takes_only l = 16 * l.setting.now.levels + 1

abbrev pub decreases-takes_enum : goal.decreases-takes_enum
decreases-takes_enum l = 16 * l.setting.now.levels + 11

abbrev pub decreases-takes_content : goal.decreases-takes_content
decreases-takes_content l = 16 * l.setting.now.levels + 9

abbrev pub decreases-takes_untagged : goal.decreases-takes_untagged
decreases-takes_untagged l = 16 * l.setting.now.levels + 10

abbrev pub decreases-takes_struct : goal.decreases-takes_struct
decreases-takes_struct l = 16 * l.setting.now.levels + 8

abbrev pub decreases-takes_members : goal.decreases-takes_members
decreases-takes_members l = 16 * l.setting.now.levels + 7

abbrev pub decreases-takes_fields : goal.decreases-takes_fields
decreases-takes_fields l = 16 * l.setting.now.levels + 6

abbrev pub decreases-takes_field : goal.decreases-takes_field
decreases-takes_field l = 16 * l.setting.now.levels + 5

abbrev pub decreases-takes_rest : goal.decreases-takes_rest
decreases-takes_rest l = 16 * l.setting.now.levels + 4

abbrev pub decreases-takes_present : goal.decreases-takes_present
decreases-takes_present l = 16 * l.setting.now.levels + 2

abbrev pub invariant-takes_items-loop-place : goal.invariant-takes_items-loop-place
invariant-takes_items-loop-place l =
    demanded_from (tables_view l.setting) (demand_view l.demand) l.place (map kept_view (drop l.place l.values)) ≡ demanded_from (tables_view l.setting) (demand_view l.demand) 0 (map kept_view l.values)

abbrev pub invariant-takes_pairs-loop-at : goal.invariant-takes_pairs-loop-at
invariant-takes_pairs-loop-at l =
    pairs_at (tables_view l.setting) (type_view l.key) (type_view l.held) (entries_view (drop l.at l.members)) ≡ pairs_at (tables_view l.setting) (type_view l.key) (type_view l.held) (entries_view l.members)

abbrev pub invariant-takes_untagged-loop-variant : goal.invariant-takes_untagged-loop-variant
invariant-takes_untagged-loop-variant l =
    untagged_at (tables_view l.setting) l.left l.closed (variants_view (drop l.variant-index l.variants)) (kept_view l.value) ≡ untagged_at (tables_view l.setting) l.left l.closed (variants_view l.variants) (kept_view l.value)

abbrev pub invariant-takes_fields-loop-place : goal.invariant-takes_fields-loop-place
invariant-takes_fields-loop-place l =
    fields_from (tables_view l.setting) (λ i. entries_at i (sorted_names l.sorted) (sorted_entries l.sorted)) (entries_without_place (sorted_names l.sorted) (sorted_entries l.sorted)) l.place (drop l.place (fields_in l.sorted.fields.now))
    ≡ fields_from (tables_view l.setting) (λ i. entries_at i (sorted_names l.sorted) (sorted_entries l.sorted)) (entries_without_place (sorted_names l.sorted) (sorted_entries l.sorted)) 0 (fields_in l.sorted.fields.now)
