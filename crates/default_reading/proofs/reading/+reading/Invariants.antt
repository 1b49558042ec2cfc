use Rattle.std.proofs.Common.{◌≡◌, ◌≤◌, ◌+◌, ℕ, drop, length, option_map}
use Rattle.serde_json.specs.View.{items_view, members_view}
use Rattle.json_value.specs.Value.{value_size, items_size, members_size}
use Rattle.json_value.specs.View.{items_of, members_of, kept_view}
use Rattle.entry_defs.specs.Entry.{entries_of, fields_of, rest_of}
use Rattle.row_findings.specs.View.{state_view}
use Rattle.tree_types.specs.View.{table_view, tree_view}
use Rattle.default_defs.specs.Found.{both}
use Rattle.default_reading.specs.Seen.{contents_in, fields_in, found_view, listed, places_in}
use Rattle.default_reading.specs.Steps.{setting, items_come, places_come, members_come, fields_come, others_come, first_comes}
use Rattle.default_reading.proofs.Order.{most}
use Rattle.default_reading.proofs.Measure.{work, anew}
use Rattle.default_reading.proofs.Weights.{tree_weight, part_weight, parts_weight, maybe_weight, cases_weight, state_weight}
use Rattle.default_reading.proofs.reading.+reading.Given as goal

abbrev pub decreases-read : goal.decreases-read
decreases-read g l = work l.table.now l.room.inside (value_size (kept_view l.value.now)) l.left (tree_weight l.tree.now)

abbrev pub decreases-atom_read : goal.decreases-atom_read
decreases-atom_read g l = work l.table.now l.room.inside (value_size (kept_view l.value.now)) l.left 2

abbrev pub decreases-follow : goal.decreases-follow
decreases-follow g l = work l.table.now l.room.inside (value_size (kept_view l.value.now)) l.left 0

abbrev pub decreases-one_read : goal.decreases-one_read
decreases-one_read g l = work l.table.now l.room.inside (value_size (kept_view l.value.now)) l.left (4 + tree_weight l.held.now)

abbrev pub decreases-option_read : goal.decreases-option_read
decreases-option_read g l = work l.table.now l.room.inside (value_size (kept_view l.value.now)) l.left (2 + tree_weight l.held.now)

abbrev pub decreases-ruled_read : goal.decreases-ruled_read
decreases-ruled_read g l = work l.table.now l.room.inside (value_size (kept_view l.value.now)) l.left (2 + tree_weight l.held.now)

abbrev pub decreases-each_read : goal.decreases-each_read
decreases-each_read g l = work l.table.now l.room.inside (value_size (kept_view l.value.now)) 0 (2 + tree_weight l.held.now)

abbrev pub decreases-array_read : goal.decreases-array_read
decreases-array_read g l = work l.table.now l.room.inside (value_size (kept_view l.value.now)) 0 (2 + tree_weight l.held.now)

abbrev pub decreases-items_read : goal.decreases-items_read
decreases-items_read g l = anew l.table.now l.room.inside (items_size (items_of (items_view l.values.now.items))) (2 + tree_weight l.held.now)

abbrev pub decreases-also : goal.decreases-also
decreases-also g l = anew l.table.now l.room.inside (value_size (kept_view l.value.now)) (1 + tree_weight l.tree.now)

abbrev pub decreases-also_part : goal.decreases-also_part
decreases-also_part g l = anew l.table.now l.room.inside (value_size (kept_view l.value.now)) (maybe_weight (option_map (λ x. x.now) l.tree))

abbrev pub decreases-map_read : goal.decreases-map_read
decreases-map_read g l = work l.table.now l.room.inside (value_size (kept_view l.value.now)) 0 (4 + (tree_weight l.keys.now + tree_weight l.held.now))

abbrev pub decreases-members_read : goal.decreases-members_read
decreases-members_read g l = anew l.table.now l.room.inside (members_size (members_of (members_view l.members.now.entries))) (4 + (tree_weight l.keys.now + tree_weight l.held.now))

abbrev pub decreases-member_read : goal.decreases-member_read
decreases-member_read g l = anew l.table.now l.room.inside (1 + value_size (kept_view l.value.now)) (2 + (tree_weight l.keys.now + tree_weight l.held.now))

abbrev pub decreases-places_read : goal.decreases-places_read
decreases-places_read g l = work l.table.now l.room.inside (value_size (kept_view l.value.now)) 0 (2 + parts_weight l.places.now)

abbrev pub decreases-by_places : goal.decreases-by_places
decreases-by_places g l = anew l.table.now l.room.inside (items_size (items_of (items_view l.values.now.items))) (2 + parts_weight l.places.now)

abbrev pub decreases-struct_read : goal.decreases-struct_read
decreases-struct_read g l = work l.table.now l.room.inside (value_size (kept_view l.value.now)) 0 (4 + (parts_weight l.fields.now + maybe_weight (option_map (λ x. x.now) l.rest)))

abbrev pub decreases-struct_members : goal.decreases-struct_members
decreases-struct_members g l = anew l.table.now l.room.inside (members_size (members_of (members_view l.members.now.entries))) (4 + (parts_weight l.fields.now + maybe_weight (option_map (λ x. x.now) l.rest)))

abbrev pub decreases-fields_read : goal.decreases-fields_read
decreases-fields_read g l = anew l.table.now l.room.inside (members_size (members_of (members_view l.members.now.entries))) (3 + (parts_weight l.fields.now + maybe_weight (option_map (λ x. x.now) l.rest)))

abbrev pub decreases-field_read : goal.decreases-field_read
decreases-field_read g l = anew l.table.now l.room.inside (members_size (members_of (members_view l.members.now.entries))) (1 + most (part_weight l.field.now) (maybe_weight (option_map (λ x. x.now) l.tree)))

abbrev pub decreases-left_out : goal.decreases-left_out
decreases-left_out g l = work l.table.now l.room.inside 0 0 (part_weight l.field.now)

abbrev pub decreases-state_read : goal.decreases-state_read
decreases-state_read g l = work l.table.now l.room.inside 0 0 (4 + (state_weight (state_view l.state) + tree_weight l.tree.now))

abbrev pub decreases-default_read : goal.decreases-default_read
decreases-default_read g l = work l.table.now l.room.inside 0 0 (2 + (value_size (kept_view l.value.now) + tree_weight l.tree.now))

abbrev pub decreases-others_read : goal.decreases-others_read
decreases-others_read g l = anew l.table.now l.room.inside (members_size (members_of (members_view l.members.now.entries))) (3 + (parts_weight l.fields.now + maybe_weight (option_map (λ x. x.now) l.rest)))

abbrev pub decreases-other_read : goal.decreases-other_read
decreases-other_read g l = anew l.table.now l.room.inside (value_size (kept_view l.value.now)) (1 + maybe_weight (option_map (λ x. x.now) l.rest))

abbrev pub decreases-enum_read : goal.decreases-enum_read
decreases-enum_read g l = work l.table.now l.room.inside (value_size (kept_view l.value.now)) l.left (6 + cases_weight l.variants.now)

abbrev pub decreases-external_read : goal.decreases-external_read
decreases-external_read g l = work l.table.now l.room.inside (value_size (kept_view l.value.now)) 0 (4 + cases_weight l.variants.now)

abbrev pub decreases-external_member : goal.decreases-external_member
decreases-external_member g l = anew l.table.now l.room.inside (members_size (members_of (members_view l.members.now.entries))) (3 + cases_weight l.variants.now)

abbrev pub decreases-named_read : goal.decreases-named_read
decreases-named_read g l = anew l.table.now l.room.inside (value_size (kept_view l.value.now)) (2 + cases_weight l.variants.now)

abbrev pub decreases-content_read : goal.decreases-content_read
decreases-content_read g l = anew l.table.now l.room.inside (value_size (kept_view l.value.now)) (8 + parts_weight l.parts.now)

abbrev pub decreases-contents_read : goal.decreases-contents_read
decreases-contents_read g l = work l.table.now l.room.inside (value_size (kept_view l.value.now)) l.left (7 + parts_weight l.parts.now)

abbrev pub decreases-front_read : goal.decreases-front_read
decreases-front_read g l = work l.table.now l.room.inside (value_size (kept_view l.value.now)) l.left (3 + parts_weight l.parts.now)

abbrev pub decreases-internal_read : goal.decreases-internal_read
decreases-internal_read g l = work l.table.now l.room.inside (value_size (kept_view l.value.now)) 0 (4 + cases_weight l.variants.now)

abbrev pub decreases-internal_members : goal.decreases-internal_members
decreases-internal_members g l = anew l.table.now l.room.inside (members_size (members_of (members_view l.members.now.entries))) (3 + cases_weight l.variants.now)

abbrev pub decreases-beside_read : goal.decreases-beside_read
decreases-beside_read g l = anew l.table.now l.room.inside (members_size (members_of (members_view l.members.now.entries))) (9 + parts_weight l.parts.now)

abbrev pub decreases-adjacent_read : goal.decreases-adjacent_read
decreases-adjacent_read g l = work l.table.now l.room.inside (value_size (kept_view l.value.now)) 0 (4 + cases_weight l.variants.now)

abbrev pub decreases-adjacent_members : goal.decreases-adjacent_members
decreases-adjacent_members g l = anew l.table.now l.room.inside (members_size (members_of (members_view l.members.now.entries))) (3 + cases_weight l.variants.now)

abbrev pub decreases-adjacent_content : goal.decreases-adjacent_content
decreases-adjacent_content g l = anew l.table.now l.room.inside (members_size (members_of (members_view l.members.now.entries))) (9 + parts_weight l.variant.now.1.items)

abbrev pub decreases-first_read : goal.decreases-first_read
decreases-first_read g l = work l.table.now l.room.inside (value_size (kept_view l.value.now)) l.left (4 + cases_weight l.variants.now)

abbrev pub invariant-items_read-loop-value : goal.invariant-items_read-loop-value
invariant-items_read-loop-value g l =
    let r = g.T.Texts.relations l.initial.texts in
    let s = setting (table_view l.table) l.room.inside in
    let rest = items_of (items_view (drop l.value-index l.values.items)) in
    let whole = items_of (items_view l.values.items) in record {
      done : both (found_view l.found) (items_come s r (tree_view l.held) rest) ≡ items_come s r (tree_view l.held) whole;
      small : items_size rest ≤ items_size whole;
      keeps : g.T.Texts.relations l.texts ≡ r;
      counts : g.T.Texts.faults l.initial.texts ≤ g.T.Texts.faults l.texts;
    }

abbrev pub invariant-members_read-loop-name : goal.invariant-members_read-loop-name
invariant-members_read-loop-name g l =
    let r = g.T.Texts.relations l.initial.texts in
    let s = setting (table_view l.table) l.room.inside in
    let rest = members_of (members_view l.name-iterator) in
    let whole = members_of (members_view l.members.entries) in record {
      done : both (found_view l.found) (members_come s r (tree_view l.keys) (tree_view l.held) rest) ≡ members_come s r (tree_view l.keys) (tree_view l.held) whole;
      small : members_size rest ≤ members_size whole;
      keeps : g.T.Texts.relations l.texts ≡ r;
      counts : g.T.Texts.faults l.initial.texts ≤ g.T.Texts.faults l.texts;
    }

abbrev pub invariant-by_places-loop-place : goal.invariant-by_places-loop-place
invariant-by_places-loop-place g l =
    let r = g.T.Texts.relations l.initial.texts in
    let s = setting (table_view l.table) l.room.inside in
    let rest = items_of (items_view (drop l.place l.values.items)) in
    let whole = items_of (items_view l.values.items) in record {
      done : length l.values.items ≡ length l.places → both (found_view l.found) (places_come s r (entries_of (places_in (drop l.place l.places))) rest) ≡ places_come s r (entries_of (places_in l.places)) whole;
      small : items_size rest ≤ items_size whole;
      keeps : g.T.Texts.relations l.texts ≡ r;
      counts : g.T.Texts.faults l.initial.texts ≤ g.T.Texts.faults l.texts;
    }

abbrev pub invariant-fields_read-loop-place : goal.invariant-fields_read-loop-place
invariant-fields_read-loop-place g l =
    let r = g.T.Texts.relations l.initial.texts in
    let s = setting (table_view l.table) l.room.inside in
    let o = option_map (λ x. x.now) l.rest in
    let p = option_map (λ x. x.now) l.passed in
    let ms = members_of (members_view l.members.entries) in record {
      done : both (found_view l.found) (fields_come s r p (listed (drop l.place l.fields) o) ms) ≡ fields_come s r p (listed l.fields o) ms;
      keeps : g.T.Texts.relations l.texts ≡ r;
      counts : g.T.Texts.faults l.initial.texts ≤ g.T.Texts.faults l.texts;
    }

abbrev pub invariant-others_read-loop-name : goal.invariant-others_read-loop-name
invariant-others_read-loop-name g l =
    let r = g.T.Texts.relations l.initial.texts in
    let s = setting (table_view l.table) l.room.inside in
    let fs = fields_in l.fields (option_map (λ x. x.now) l.rest) in
    let p = option_map (λ x. x.now) l.passed in
    let rest = members_of (members_view l.name-iterator) in
    let whole = members_of (members_view l.members.entries) in record {
      done : both (found_view l.found) (others_come s r p (fields_of fs) (rest_of fs) rest) ≡ both (found_view l.fn.before) (others_come s r p (fields_of fs) (rest_of fs) whole);
      small : members_size rest ≤ members_size whole;
      keeps : g.T.Texts.relations l.texts ≡ r;
      counts : g.T.Texts.faults l.initial.texts ≤ g.T.Texts.faults l.texts;
    }

abbrev pub invariant-first_read-loop-variant : goal.invariant-first_read-loop-variant
invariant-first_read-loop-variant g l =
    let r = g.T.Texts.relations l.initial.texts in
    let s = setting (table_view l.table) l.room.inside in
    let v = kept_view l.value in record {
      done : (m : ℕ) → first_comes s r (l.left + m) l.closed (contents_in (drop l.variant-index l.variants)) v ≡ first_comes s r (l.left + m) l.closed (contents_in l.variants) v;
      keeps : g.T.Texts.relations l.texts ≡ r;
      counts : g.T.Texts.faults l.initial.texts ≤ g.T.Texts.faults l.texts;
    }
