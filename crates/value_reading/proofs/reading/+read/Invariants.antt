use Rattle.std.proofs.Common.{◌≡◌, ◌≤◌, ◌+◌, map, drop}
use Rattle.json_value.specs.Value.{value_size}
use Rattle.json_value.specs.View.{kept_view}
use Rattle.value_models.specs.FieldView.{fields_view}
use Rattle.value_models.specs.TypeView.{type_view}
use Rattle.value_models.specs.TypedView.{typeds_view, pairs_view}
use Rattle.value_models.specs.VariantView.{variants_view, fields_in}
use Rattle.value_parts.specs.At.{demanded_from, pairs_at, untagged_at}
use Rattle.value_parts.specs.Entries.{demand_view, entry_view, entries_view}
use Rattle.value_parts.specs.SettingView.{setting_view}
use Rattle.value_parts.specs.Slots.{entries_size, entries_at, entries_without_place, fields_from}
use Rattle.value_parts.specs.SortedView.{sorted_entries, sorted_names}
use Rattle.value_reading.proofs.Prefixes.{prefixed}
use Rattle.value_reading.proofs.Sizes.{values_size}
use Rattle.value_reading.proofs.Work.{work, items_in, sizes_in}
use Rattle.value_reading.proofs.reading.+read.Given as goal

abbrev pub decreases-read_part : goal.decreases-read_part
decreases-read_part g l = work l.setting.now (value_size (kept_view l.value.now)) (items_in l.setting.now) 10

abbrev pub decreases-read_type : goal.decreases-read_type
decreases-read_type g l = work l.setting.now (value_size (kept_view l.value.now)) l.left 9

abbrev pub decreases-read_leaf : goal.decreases-read_leaf
decreases-read_leaf g l = work l.setting.now (value_size (kept_view l.value.now)) l.left 8

abbrev pub decreases-read_list : goal.decreases-read_list
decreases-read_list g l = work l.setting.now (value_size (kept_view l.value.now)) 0 7

abbrev pub decreases-read_items : goal.decreases-read_items
decreases-read_items g l = work l.setting.now (values_size (map kept_view l.values.now)) (items_in l.setting.now) 21

abbrev pub decreases-read_at_place : goal.decreases-read_at_place
decreases-read_at_place g l = work l.setting.now (value_size (kept_view l.value.now)) (items_in l.setting.now) 18

abbrev pub decreases-read_map : goal.decreases-read_map
decreases-read_map g l = work l.setting.now (value_size (kept_view l.value.now)) 0 7

abbrev pub decreases-read_pairs : goal.decreases-read_pairs
decreases-read_pairs g l = work l.setting.now (entries_size (entries_view l.members.now)) (items_in l.setting.now) 23

abbrev pub decreases-read_pair : goal.decreases-read_pair
decreases-read_pair g l = work l.setting.now (1 + value_size (entry_view l.member).1) (items_in l.setting.now) 22

abbrev pub decreases-read_item : goal.decreases-read_item
decreases-read_item g l = work l.setting.now (value_size (kept_view l.value.now)) l.left 7

abbrev pub decreases-read_container : goal.decreases-read_container
decreases-read_container g l = work l.setting.now (value_size (kept_view l.value.now)) l.left 16

abbrev pub decreases-read_body : goal.decreases-read_body
decreases-read_body g l = work l.setting.now (value_size (kept_view l.value.now)) l.left 15

abbrev pub decreases-read_newtype : goal.decreases-read_newtype
decreases-read_newtype g l = work l.setting.now (value_size (kept_view l.value.now)) l.left 10

abbrev pub decreases-read_enum : goal.decreases-read_enum
decreases-read_enum g l = work l.setting.now (value_size (kept_view l.value.now)) l.left 14

abbrev pub decreases-read_inside : goal.decreases-read_inside
decreases-read_inside g l = work l.setting.now (value_size (entry_view l.member).1) (items_in l.setting.now) 13

abbrev pub decreases-read_content : goal.decreases-read_content
decreases-read_content g l = work l.setting.now (value_size (kept_view l.value.now)) l.left 11

abbrev pub decreases-read_only : goal.decreases-read_only
decreases-read_only g l = work l.setting.now (value_size (kept_view l.value.now)) l.left 10

abbrev pub decreases-read_untagged : goal.decreases-read_untagged
decreases-read_untagged g l = work l.setting.now (value_size (kept_view l.value.now)) l.left 13

abbrev pub decreases-read_variant : goal.decreases-read_variant
decreases-read_variant g l = work l.setting.now (value_size (kept_view l.value.now)) l.left 12

abbrev pub decreases-read_struct : goal.decreases-read_struct
decreases-read_struct g l = work l.setting.now (value_size (kept_view l.value.now)) 0 7

abbrev pub decreases-read_members : goal.decreases-read_members
decreases-read_members g l = work l.setting.now (entries_size (entries_view l.members.now)) (items_in l.setting.now) 27

abbrev pub decreases-read_fields : goal.decreases-read_fields
decreases-read_fields g l = work l.setting.now (entries_size (sorted_entries l.sorted.now)) (items_in l.setting.now) 26

abbrev pub decreases-read_field : goal.decreases-read_field
decreases-read_field g l = work l.setting.now (entries_size (sorted_entries l.sorted.now)) (items_in l.setting.now) 25

abbrev pub decreases-read_rest : goal.decreases-read_rest
decreases-read_rest g l = work l.setting.now (entries_size (entries_view l.members.now)) (items_in l.setting.now) 24

abbrev pub decreases-read_present : goal.decreases-read_present
decreases-read_present g l = work l.setting.now (1 + value_size (entry_view l.member).1) (items_in l.setting.now) 24

abbrev pub decreases-read_helped : goal.decreases-read_helped
decreases-read_helped g l = work l.setting.now (value_size (kept_view l.value.now)) (items_in l.setting.now) 20

abbrev pub decreases-read_inner : goal.decreases-read_inner
decreases-read_inner g l = work l.setting.now (value_size (kept_view l.value.now)) (items_in l.setting.now) 19

abbrev pub decreases-read_missing : goal.decreases-read_missing
decreases-read_missing g l = work l.setting.now 0 0 20

abbrev pub decreases-read_default : goal.decreases-read_default
decreases-read_default g l = work l.setting.now 0 0 19

abbrev pub decreases-read_stated : goal.decreases-read_stated
decreases-read_stated g l = work l.setting.now (sizes_in l.setting.now) (items_in l.setting.now) 30

abbrev pub invariant-read_items-loop-place : goal.invariant-read_items-loop-place
invariant-read_items-loop-place g l = record {
  read : demanded_from (setting_view l.setting (g.T.Texts.relations l.initial.texts)) (demand_view l.demand) 0 (map kept_view l.values) ≡ prefixed (typeds_view l.taken.items) (demanded_from (setting_view l.setting (g.T.Texts.relations l.initial.texts)) (demand_view l.demand) l.place (map kept_view (drop l.place l.values)));
  small : values_size (map kept_view (drop l.place l.values)) ≤ values_size (map kept_view l.values);
  keeps : g.T.Texts.relations l.texts ≡ g.T.Texts.relations l.initial.texts;
  counts : g.T.Texts.faults l.initial.texts ≤ g.T.Texts.faults l.texts;
}

abbrev pub invariant-read_pairs-loop-at : goal.invariant-read_pairs-loop-at
invariant-read_pairs-loop-at g l = record {
  read : pairs_at (setting_view l.setting (g.T.Texts.relations l.initial.texts)) (type_view l.key) (type_view l.held) (entries_view l.members) ≡ prefixed (pairs_view l.taken.items) (pairs_at (setting_view l.setting (g.T.Texts.relations l.initial.texts)) (type_view l.key) (type_view l.held) (entries_view (drop l.at l.members)));
  small : entries_size (entries_view (drop l.at l.members)) ≤ entries_size (entries_view l.members);
  keeps : g.T.Texts.relations l.texts ≡ g.T.Texts.relations l.initial.texts;
  counts : g.T.Texts.faults l.initial.texts ≤ g.T.Texts.faults l.texts;
}

abbrev pub invariant-read_untagged-loop-place : goal.invariant-read_untagged-loop-place
invariant-read_untagged-loop-place g l = record {
  read : untagged_at (setting_view l.setting (g.T.Texts.relations l.initial.texts)) l.left l.closed 0 (variants_view l.variants) (kept_view l.value) ≡ untagged_at (setting_view l.setting (g.T.Texts.relations l.initial.texts)) l.left l.closed l.place (variants_view (drop l.place l.variants)) (kept_view l.value);
  keeps : g.T.Texts.relations l.texts ≡ g.T.Texts.relations l.initial.texts;
  counts : g.T.Texts.faults l.initial.texts ≤ g.T.Texts.faults l.texts;
}

abbrev pub invariant-read_fields-loop-place : goal.invariant-read_fields-loop-place
invariant-read_fields-loop-place g l = record {
  read : fields_from (setting_view l.setting (g.T.Texts.relations l.initial.texts)) (λ i. entries_at i (sorted_names l.sorted) (sorted_entries l.sorted)) (entries_without_place (sorted_names l.sorted) (sorted_entries l.sorted)) 0 (fields_in l.sorted.fields.now) ≡ prefixed (typeds_view l.taken.items) (fields_from (setting_view l.setting (g.T.Texts.relations l.initial.texts)) (λ i. entries_at i (sorted_names l.sorted) (sorted_entries l.sorted)) (entries_without_place (sorted_names l.sorted) (sorted_entries l.sorted)) l.place (drop l.place (fields_in l.sorted.fields.now)));
  keeps : g.T.Texts.relations l.texts ≡ g.T.Texts.relations l.initial.texts;
  counts : g.T.Texts.faults l.initial.texts ≤ g.T.Texts.faults l.texts;
}
