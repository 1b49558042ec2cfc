use Rattle.std.proofs.Common.{ℕ, ◌≡◌, ◌-◌, ◌<◌, ◌+◌, length, drop, not, option_map, string_bytes, sym, ap, ◌∙◌, refl, arith, rules, Some, None, subst}
use Rattle.serde_json.specs.View.{items_view, members_view}
use Rattle.json_value.specs.Value.{value_size, items_size, members_size, text}
use Rattle.json_value.specs.View.{items_of, members_of, kept_view}
use Rattle.entry_defs.specs.Entry.{any_entry, entries_of, enum_shape, fields_of, item, rest_of}
use Rattle.entry_defs.specs.Layer.{contents_entry, rule_holds}
use Rattle.row_findings.specs.View.{state_view, tag_view}
use Rattle.tree_types.specs.View.{contents_view, first_part, label_view, parts_of, rule_view, table_view, target_view, tree_view, wrapped}
use Rattle.default_defs.specs.Found.{both}
use Rattle.default_defs.specs.Layer.{left_out}
use Rattle.default_reading.specs.Seen.{content, case_named, entry_of, fields_in, first_tree, found_view, front_tree, listed, places_in, rest_tree, variants_in}
use Rattle.default_reading.specs.Steps.{setting, missed, comes, comes_in, only_of, is_other, others_come, content_comes, named_comes, by_only}
use Rattle.default_reading.proofs.Arms.{front_entry, left_none, none_left, other_kept, rest_entry, supplied_left}
use Rattle.default_reading.proofs.Enums.{external_object, external_refused, external_text, internal_object, internal_refused, adjacent_object, adjacent_refused, untagged_come}
use Rattle.default_reading.proofs.Forms.{each_come, each_refused, set_same, array_come, array_other, array_refused, map_come, map_refused, places_come_of, places_other, places_refused, any_comes, null_comes, option_passed, rule_asked, rule_unasked, unit_comes}
use Rattle.default_reading.proofs.Joined.{both_alone, both_along, goes_on, where_not, where_so}
use Rattle.default_reading.proofs.Levels.{comes_known, any_level, one_followed, none_followed, none_inside, one_inside}
use Rattle.default_reading.proofs.Loops.{field_own, field_turn, fields_next, others_next, place_turn, places_next}
use Rattle.default_reading.proofs.Measure.{work, anew, led_fits, fits}
use Rattle.default_reading.proofs.Order.{most, most-first, most-second, most-least, by_default, by_value, by_reference, by_tree}
use Rattle.default_reading.proofs.Owned.{list_smaller, object_smaller, member_smaller, member_smaller_given, only_smaller, sized}
use Rattle.default_reading.proofs.Structs.{struct_come, struct_refused}
use Rattle.default_reading.proofs.Trees.{atom_comes, atom_tree, one_tree, map_tree, tuple_tree, struct_tree, enum_tree}
use Rattle.default_reading.proofs.Turns.{field_of, items_turn, items_counted, places_counted}
use Rattle.default_reading.proofs.Weights.{tree_weight, part_weight, parts_weight, maybe_weight, cases_weight, state_weight, atom_weighs, one_weighs, map_weighs, tuple_weighs, struct_weighs, enum_weighs, some_weighs, part_weighs, part_in, first_from, from_or_rest, some_parts, front_in, case_in, case_in_list, tagged_in}
use Rattle.default_reading.proofs.reading.+reading.Goals as goal

-- ---- the measure falls

pub read-atom_read-requires : goal.read-atom_read-requires
read-atom_read-requires g t c =
    let x = c.args.table.now in
    let e : work x c.args.room.inside (value_size (kept_view c.args.value.now)) c.args.left (tree_weight c.args.tree.now) ≡ t = c.decreases in
    let h = atom_weighs c.args.tree.now c.in-Atom.atom c.in-Atom.is in
    λ κs within. (by_tree _ _ _ _ _ _ _ _ _ _ _ e (omega arith) (omega arith) (omega arith) (omega (arith, h)), within)

pub read-one_read-requires : goal.read-one_read-requires
read-one_read-requires g t c =
    let x = c.args.table.now in
    let e : work x c.args.room.inside (value_size (kept_view c.args.value.now)) c.args.left (tree_weight c.args.tree.now) ≡ t = c.decreases in
    let h = one_weighs c.args.tree.now c.in-One.wrap c.in-One.held c.in-One.is in
    let d : tree_weight c.deref.result.now ≡ tree_weight c.in-One.held.value = ap tree_weight c.deref.ensures in
    λ κs within. (by_tree _ _ _ _ _ _ _ _ _ _ _ e (omega arith) (omega arith) (omega arith) (omega (arith, h, d)), within)

pub read-map_read-requires : goal.read-map_read-requires
read-map_read-requires g t c =
    let x = c.args.table.now in
    let e : work x c.args.room.inside (value_size (kept_view c.args.value.now)) c.args.left (tree_weight c.args.tree.now) ≡ t = c.decreases in
    let h = map_weighs c.args.tree.now c.in-Map.keys c.in-Map.held c.in-Map.is in
    let d : tree_weight c.deref-in-Map.result.now ≡ tree_weight c.in-Map.keys.value = ap tree_weight c.deref-in-Map.ensures in
    let d2 : tree_weight c.deref-in-Map-2.result.now ≡ tree_weight c.in-Map.held.value = ap tree_weight c.deref-in-Map-2.ensures in
    λ κs within. (by_tree _ _ _ _ _ _ _ _ _ _ _ e (omega arith) (omega arith) (omega arith) (omega (arith, h, d, d2)), within)

pub read-places_read-requires : goal.read-places_read-requires
read-places_read-requires g t c =
    let x = c.args.table.now in
    let e : work x c.args.room.inside (value_size (kept_view c.args.value.now)) c.args.left (tree_weight c.args.tree.now) ≡ t = c.decreases in
    let h = tuple_weighs c.args.tree.now c.in-Tuple.places c.in-Tuple.is in
    let d : parts_weight c.deref-in-Tuple.result.now ≡ parts_weight c.in-Tuple.places.items = ap parts_weight c.deref-in-Tuple.ensures.value in
    λ κs within. (by_tree _ _ _ _ _ _ _ _ _ _ _ e (omega arith) (omega arith) (omega arith) (omega (arith, h, d)), within)

pub read-struct_read-requires : goal.read-struct_read-requires
read-struct_read-requires g t c =
    let x = c.args.table.now in
    let e : work x c.args.room.inside (value_size (kept_view c.args.value.now)) c.args.left (tree_weight c.args.tree.now) ≡ t = c.decreases in
    let h = struct_weighs c.args.tree.now c.in-Struct.name c.in-Struct.closed c.in-Struct.fields c.in-Struct.rest c.in-Struct.is in
    let d : parts_weight c.deref-in-Struct.result.now ≡ parts_weight c.in-Struct.fields.items = ap parts_weight c.deref-in-Struct.ensures.value in
    let o : maybe_weight (option_map (λ x. x.now) c.rest_tree-rest.result) ≡ maybe_weight (rest_tree c.in-Struct.rest) = ap maybe_weight c.rest_tree-rest.ensures in
    λ κs within. (by_tree _ _ _ _ _ _ _ _ _ _ _ e (omega arith) (omega arith) (omega arith) (omega (arith, h, d, o)), within)

pub read-enum_read-requires : goal.read-enum_read-requires
read-enum_read-requires g t c =
    let x = c.args.table.now in
    let e : work x c.args.room.inside (value_size (kept_view c.args.value.now)) c.args.left (tree_weight c.args.tree.now) ≡ t = c.decreases in
    let h = enum_weighs c.args.tree.now c.in-Enum.name c.in-Enum.closed c.in-Enum.tag c.in-Enum.variants c.in-Enum.is in
    let d : cases_weight c.deref-in-Enum.result.now ≡ cases_weight c.in-Enum.variants.items = ap cases_weight c.deref-in-Enum.ensures.value in
    λ κs within. (by_tree _ _ _ _ _ _ _ _ _ _ _ e (omega arith) (omega arith) (omega arith) (omega (arith, h, d)), within)

pub atom_read-follow-requires : goal.atom_read-follow-requires
atom_read-follow-requires g t c =
    let x = c.args.table.now in
    let e : work x c.args.room.inside (value_size (kept_view c.args.value.now)) c.args.left 2 ≡ t = c.decreases in
    λ κs within. (by_tree _ _ _ _ _ _ _ _ _ _ _ e (omega arith) (omega arith) (omega arith) (omega arith), within)

pub follow-read-requires : goal.follow-read-requires
follow-read-requires g t c =
    let x = c.args.table.now in
    let e : work x c.args.room.inside (value_size (kept_view c.args.value.now)) c.args.left 0 ≡ t = c.decreases in
    λ κs within. (by_reference _ _ _ _ _ _ _ _ _ _ _ e (omega (arith, c.deeper.ensures)) (omega arith) (omega (arith, c.if-left-eq0.false)) (led_fits c.in-Some.tree.now x.targets.items 0 (search rules)), within)

pub one_read-option_read-requires : goal.one_read-option_read-requires
one_read-option_read-requires g t c =
    let x = c.args.table.now in
    let e : work x c.args.room.inside (value_size (kept_view c.args.value.now)) c.args.left (4 + tree_weight c.args.held.now) ≡ t = c.decreases in
    λ κs within. (by_tree _ _ _ _ _ _ _ _ _ _ _ e (omega arith) (omega arith) (omega arith) (omega arith), within)

pub one_read-each_read-requires : goal.one_read-each_read-requires
one_read-each_read-requires g t c =
    let x = c.args.table.now in
    let e : work x c.args.room.inside (value_size (kept_view c.args.value.now)) c.args.left (4 + tree_weight c.args.held.now) ≡ t = c.decreases in
    λ κs within. (by_tree _ _ _ _ _ _ _ _ _ _ _ e (omega arith) (omega arith) (omega arith) (omega arith), within)

pub one_read-each_read-requires-in-Set : goal.one_read-each_read-requires-in-Set
one_read-each_read-requires-in-Set g t c =
    let x = c.args.table.now in
    let e : work x c.args.room.inside (value_size (kept_view c.args.value.now)) c.args.left (4 + tree_weight c.args.held.now) ≡ t = c.decreases in
    λ κs within. (by_tree _ _ _ _ _ _ _ _ _ _ _ e (omega arith) (omega arith) (omega arith) (omega arith), within)

pub one_read-array_read-requires : goal.one_read-array_read-requires
one_read-array_read-requires g t c =
    let x = c.args.table.now in
    let e : work x c.args.room.inside (value_size (kept_view c.args.value.now)) c.args.left (4 + tree_weight c.args.held.now) ≡ t = c.decreases in
    λ κs within. (by_tree _ _ _ _ _ _ _ _ _ _ _ e (omega arith) (omega arith) (omega arith) (omega arith), within)

pub one_read-ruled_read-requires : goal.one_read-ruled_read-requires
one_read-ruled_read-requires g t c =
    let x = c.args.table.now in
    let e : work x c.args.room.inside (value_size (kept_view c.args.value.now)) c.args.left (4 + tree_weight c.args.held.now) ≡ t = c.decreases in
    λ κs within. (by_tree _ _ _ _ _ _ _ _ _ _ _ e (omega arith) (omega arith) (omega arith) (omega arith), within)

pub option_read-read-requires : goal.option_read-read-requires
option_read-read-requires g t c =
    let x = c.args.table.now in
    let e : work x c.args.room.inside (value_size (kept_view c.args.value.now)) c.args.left (2 + tree_weight c.args.held.now) ≡ t = c.decreases in
    λ κs within. (by_tree _ _ _ _ _ _ _ _ _ _ _ e (omega arith) (omega arith) (omega arith) (omega arith), within)

pub ruled_read-read-requires : goal.ruled_read-read-requires
ruled_read-read-requires g t c =
    let x = c.args.table.now in
    let e : work x c.args.room.inside (value_size (kept_view c.args.value.now)) c.args.left (2 + tree_weight c.args.held.now) ≡ t = c.decreases in
    λ κs within. (by_tree _ _ _ _ _ _ _ _ _ _ _ e (omega arith) (omega arith) (omega arith) (omega arith), within)

pub each_read-items_read-requires : goal.each_read-items_read-requires
each_read-items_read-requires g t c =
    let x = c.args.table.now in
    let e : work x c.args.room.inside (value_size (kept_view c.args.value.now)) 0 (2 + tree_weight c.args.held.now) ≡ t = c.decreases in
    λ κs within. (by_value _ _ _ _ _ _ _ _ _ _ _ e (omega arith) (list_smaller (kept_view c.args.value.now) _ (search rules)) (omega arith) (fits x.targets.items _ _ (omega arith)), within)

pub array_read-items_read-requires : goal.array_read-items_read-requires
array_read-items_read-requires g t c =
    let x = c.args.table.now in
    let e : work x c.args.room.inside (value_size (kept_view c.args.value.now)) 0 (2 + tree_weight c.args.held.now) ≡ t = c.decreases in
    λ κs within. (by_value _ _ _ _ _ _ _ _ _ _ _ e (omega arith) (list_smaller (kept_view c.args.value.now) _ (search rules)) (omega arith) (fits x.targets.items _ _ (omega arith)), within)

pub items_read-also-requires : goal.items_read-also-requires
items_read-also-requires g t c =
    let x = c.args.table.now in
    let e : anew x c.args.room.inside (items_size (items_of (items_view c.args.values.now.items))) (2 + tree_weight c.args.held.now) ≡ t = c.decreases in
    let turn = items_turn c.deref-value-items.result.now c.args.values.now.items c.loop-value.value-index c.value-item.result c.deref-value-items.ensures.value (omega arith) c.value-item.is in
    λ κs within. (by_tree _ _ _ _ _ _ _ _ _ _ _ e (omega arith) (omega (arith, ap items_size turn, c.loop-value.invariant.small)) (omega arith) (omega arith), within)

pub also-read-requires : goal.also-read-requires
also-read-requires g t c =
    let x = c.args.table.now in
    let e : anew x c.args.room.inside (value_size (kept_view c.args.value.now)) (1 + tree_weight c.args.tree.now) ≡ t = c.decreases in
    let h : c.len-left.result ≡ length x.targets.items = search rules in
    λ κs within. (by_tree _ _ _ _ _ _ _ _ _ _ _ e (omega (arith, c.deeper.ensures)) (omega arith) (omega (arith, h)) (omega arith), within)

pub also_part-also-requires : goal.also_part-also-requires
also_part-also-requires g t c =
    let x = c.args.table.now in
    let e : anew x c.args.room.inside (value_size (kept_view c.args.value.now)) (maybe_weight (option_map (λ x. x.now) c.args.tree)) ≡ t = c.decreases in
    let h : maybe_weight (option_map (λ x. x.now) c.args.tree) ≡ 2 + tree_weight c.in-Some.tree.now = some_weighs _ _ (search rules) in
    λ κs within. (by_tree _ _ _ _ _ _ _ _ _ _ _ e (omega arith) (omega arith) (omega arith) (omega (arith, h)), within)

pub map_read-members_read-requires : goal.map_read-members_read-requires
map_read-members_read-requires g t c =
    let x = c.args.table.now in
    let e : work x c.args.room.inside (value_size (kept_view c.args.value.now)) 0 (4 + (tree_weight c.args.keys.now + tree_weight c.args.held.now)) ≡ t = c.decreases in
    λ κs within. (by_value _ _ _ _ _ _ _ _ _ _ _ e (omega arith) (object_smaller (kept_view c.args.value.now) _ (search rules)) (omega arith) (fits x.targets.items _ _ (omega arith)), within)

pub members_read-member_read-requires : goal.members_read-member_read-requires
members_read-member_read-requires g t c =
    let x = c.args.table.now in
    let e : anew x c.args.room.inside (members_size (members_of (members_view c.args.members.now.entries))) (4 + (tree_weight c.args.keys.now + tree_weight c.args.held.now)) ≡ t = c.decreases in
    let s : members_size (members_of (members_view c.loop-name.name-iterator)) ≡ 1 + value_size (kept_view c.in-Some.value.now) + members_size (members_of (members_view c.next.new.self)) = ap (λ es. members_size (members_of (members_view es))) c.in-Some.ensures.steps in
    λ κs within. (by_tree _ _ _ _ _ _ _ _ _ _ _ e (omega arith) (omega (arith, s, c.loop-name.invariant.small)) (omega arith) (omega arith), within)

pub member_read-also-requires : goal.member_read-also-requires
member_read-also-requires g t c =
    let x = c.args.table.now in
    let e : anew x c.args.room.inside (1 + value_size (kept_view c.args.value.now)) (2 + (tree_weight c.args.keys.now + tree_weight c.args.held.now)) ≡ t = c.decreases in
    let one : value_size (kept_view c.in_ok-text.text) ≡ 1 = ap value_size c.in_ok-text.ensures.answer in
    let p = sized (kept_view c.args.value.now) in
    λ κs within. (by_value _ _ _ _ _ _ _ _ _ _ _ e (omega arith) (omega (arith, one, p)) (omega arith) (fits x.targets.items _ _ (omega arith)), within)

pub member_read-also-requires-2 : goal.member_read-also-requires-2
member_read-also-requires-2 g t c =
    let x = c.args.table.now in
    let e : anew x c.args.room.inside (1 + value_size (kept_view c.args.value.now)) (2 + (tree_weight c.args.keys.now + tree_weight c.args.held.now)) ≡ t = c.decreases in
    λ κs within. (by_value _ _ _ _ _ _ _ _ _ _ _ e (omega arith) (omega arith) (omega arith) (fits x.targets.items _ _ (omega arith)), within)

pub places_read-by_places-requires : goal.places_read-by_places-requires
places_read-by_places-requires g t c =
    let x = c.args.table.now in
    let e : work x c.args.room.inside (value_size (kept_view c.args.value.now)) 0 (2 + parts_weight c.args.places.now) ≡ t = c.decreases in
    λ κs within. (by_value _ _ _ _ _ _ _ _ _ _ _ e (omega arith) (list_smaller (kept_view c.args.value.now) _ (search rules)) (omega arith) (fits x.targets.items _ _ (omega arith)), within)

pub by_places-also_part-requires : goal.by_places-also_part-requires
by_places-also_part-requires g t c =
    let x = c.args.table.now in
    let e : anew x c.args.room.inside (items_size (items_of (items_view c.args.values.now.items))) (2 + parts_weight c.args.places.now) ≡ t = c.decreases in
    let turn = items_turn c.deref-value-items.result.now c.args.values.now.items c.loop-place.place c.value-item.result c.deref-value-items.ensures.value (omega arith) c.value-item.is in
    let h = first_from c.loop-place.place c.args.places.now in
    let f = ap maybe_weight c.tree_from-tree.ensures in
    λ κs within. (by_tree _ _ _ _ _ _ _ _ _ _ _ e (omega arith) (omega (arith, ap items_size turn, c.loop-place.invariant.small)) (omega arith) (omega (arith, h, f)), within)

pub struct_read-struct_members-requires : goal.struct_read-struct_members-requires
struct_read-struct_members-requires g t c =
    let x = c.args.table.now in
    let e : work x c.args.room.inside (value_size (kept_view c.args.value.now)) 0 (4 + (parts_weight c.args.fields.now + maybe_weight (option_map (λ x. x.now) c.args.rest))) ≡ t = c.decreases in
    λ κs within. (by_value _ _ _ _ _ _ _ _ _ _ _ e (omega arith) (object_smaller (kept_view c.args.value.now) _ (search rules)) (omega arith) (fits x.targets.items _ _ (omega arith)), within)

pub struct_members-fields_read-requires : goal.struct_members-fields_read-requires
struct_members-fields_read-requires g t c =
    let x = c.args.table.now in
    let e : anew x c.args.room.inside (members_size (members_of (members_view c.args.members.now.entries))) (4 + (parts_weight c.args.fields.now + maybe_weight (option_map (λ x. x.now) c.args.rest))) ≡ t = c.decreases in
    λ κs within. (by_tree _ _ _ _ _ _ _ _ _ _ _ e (omega arith) (omega arith) (omega arith) (omega arith), within)

pub struct_members-others_read-requires : goal.struct_members-others_read-requires
struct_members-others_read-requires g t c =
    let x = c.args.table.now in
    let e : anew x c.args.room.inside (members_size (members_of (members_view c.args.members.now.entries))) (4 + (parts_weight c.args.fields.now + maybe_weight (option_map (λ x. x.now) c.args.rest))) ≡ t = c.decreases in
    λ κs within. (by_tree _ _ _ _ _ _ _ _ _ _ _ e (omega arith) (omega arith) (omega arith) (omega arith), within)

pub fields_read-field_read-requires : goal.fields_read-field_read-requires
fields_read-field_read-requires g t c =
    let x = c.args.table.now in
    let e : anew x c.args.room.inside (members_size (members_of (members_view c.args.members.now.entries))) (3 + (parts_weight c.args.fields.now + maybe_weight (option_map (λ x. x.now) c.args.rest))) ≡ t = c.decreases in
    let h = part_in c.args.fields.now c.loop-place.place c.index-fields-place.result (omega arith) c.index-fields-place.is in
    let f = ap maybe_weight c.field_tree-tree.ensures in
    let q = from_or_rest c.loop-place.place c.args.fields.now (option_map (λ x. x.now) c.args.rest) in
    let k = most-least (part_weight c.index-fields-place.result) (maybe_weight (option_map (λ x. x.now) c.field_tree-tree.result)) (1 + (parts_weight c.args.fields.now + maybe_weight (option_map (λ x. x.now) c.args.rest))) (omega (arith, h)) (omega (arith, f, q)) in
    λ κs within. (by_tree _ _ _ _ _ _ _ _ _ _ _ e (omega arith) (omega arith) (omega arith) (omega (arith, k)), within)

pub field_read-also_part-requires : goal.field_read-also_part-requires
field_read-also_part-requires g t c =
    let x = c.args.table.now in
    let e : anew x c.args.room.inside (members_size (members_of (members_view c.args.members.now.entries))) (1 + most (part_weight c.args.field.now) (maybe_weight (option_map (λ x. x.now) c.args.tree))) ≡ t = c.decreases in
    let h = most-second (part_weight c.args.field.now) (maybe_weight (option_map (λ x. x.now) c.args.tree)) in
    λ κs within. (by_value _ _ _ _ _ _ _ _ _ _ _ e (omega arith) (member_smaller_given (option_map (λ p. p.now) c.args.passed) c.args.field.now.0.label.wanted.now _ _ (search rules)) (omega arith) (fits x.targets.items _ _ (omega (arith, h))), within)

pub field_read-left_out-requires : goal.field_read-left_out-requires
field_read-left_out-requires g t c =
    let x = c.args.table.now in
    let e : anew x c.args.room.inside (members_size (members_of (members_view c.args.members.now.entries))) (1 + most (part_weight c.args.field.now) (maybe_weight (option_map (λ x. x.now) c.args.tree))) ≡ t = c.decreases in
    let h = most-first (part_weight c.args.field.now) (maybe_weight (option_map (λ x. x.now) c.args.tree)) in
    λ κs within. (by_tree _ _ _ _ _ _ _ _ _ _ _ e (omega arith) (omega arith) (omega arith) (omega (arith, h)), within)

pub left_out-state_read-requires : goal.left_out-state_read-requires
left_out-state_read-requires g t c =
    let x = c.args.table.now in
    let e : work x c.args.room.inside 0 0 (part_weight c.args.field.now) ≡ t = c.decreases in
    let h = part_weighs c.args.field.now c.in-Some.tree c.in-Some.is in
    λ κs within. (by_tree _ _ _ _ _ _ _ _ _ _ _ e (omega arith) (omega arith) (omega arith) (omega (arith, h)), within)

pub state_read-default_read-requires : goal.state_read-default_read-requires
state_read-default_read-requires g t c =
    let x = c.args.table.now in
    let e : work x c.args.room.inside 0 0 (4 + (state_weight (state_view c.args.state) + tree_weight c.args.tree.now)) ≡ t = c.decreases in
    let h = ap (λ z. state_weight (state_view z)) c.in-Stated.is in
    λ κs within. (by_tree _ _ _ _ _ _ _ _ _ _ _ e (omega arith) (omega arith) (omega arith) (omega (arith, h)), within)

pub default_read-also-requires : goal.default_read-also-requires
default_read-also-requires g t c =
    let x = c.args.table.now in
    let e : work x c.args.room.inside 0 0 (2 + (value_size (kept_view c.args.value.now) + tree_weight c.args.tree.now)) ≡ t = c.decreases in
    λ κs within. (by_default _ _ _ _ _ _ _ _ _ _ _ e (omega (arith, c.further.ensures, c.if-room-eq0.false)) (fits x.targets.items _ _ (omega arith)) (omega arith) (fits x.targets.items _ _ (omega arith)), within)

pub others_read-other_read-requires : goal.others_read-other_read-requires
others_read-other_read-requires g t c =
    let x = c.args.table.now in
    let e : anew x c.args.room.inside (members_size (members_of (members_view c.args.members.now.entries))) (3 + (parts_weight c.args.fields.now + maybe_weight (option_map (λ x. x.now) c.args.rest))) ≡ t = c.decreases in
    let s : members_size (members_of (members_view c.loop-name.name-iterator)) ≡ 1 + value_size (kept_view c.in-Some.value.now) + members_size (members_of (members_view c.next.new.self)) = ap (λ es. members_size (members_of (members_view es))) c.in-Some.ensures.steps in
    let h = some_parts c.args.fields.now in
    λ κs within. (by_tree _ _ _ _ _ _ _ _ _ _ _ e (omega arith) (omega (arith, s, c.loop-name.invariant.small)) (omega arith) (omega (arith, h)), within)

pub other_read-also_part-requires : goal.other_read-also_part-requires
other_read-also_part-requires g t c =
    let x = c.args.table.now in
    let e : anew x c.args.room.inside (value_size (kept_view c.args.value.now)) (1 + maybe_weight (option_map (λ x. x.now) c.args.rest)) ≡ t = c.decreases in
    λ κs within. (by_tree _ _ _ _ _ _ _ _ _ _ _ e (omega arith) (omega arith) (omega arith) (omega arith), within)

pub enum_read-external_read-requires : goal.enum_read-external_read-requires
enum_read-external_read-requires g t c =
    let x = c.args.table.now in
    let e : work x c.args.room.inside (value_size (kept_view c.args.value.now)) c.args.left (6 + cases_weight c.args.variants.now) ≡ t = c.decreases in
    λ κs within. (by_tree _ _ _ _ _ _ _ _ _ _ _ e (omega arith) (omega arith) (omega arith) (omega arith), within)

pub enum_read-internal_read-requires : goal.enum_read-internal_read-requires
enum_read-internal_read-requires g t c =
    let x = c.args.table.now in
    let e : work x c.args.room.inside (value_size (kept_view c.args.value.now)) c.args.left (6 + cases_weight c.args.variants.now) ≡ t = c.decreases in
    λ κs within. (by_tree _ _ _ _ _ _ _ _ _ _ _ e (omega arith) (omega arith) (omega arith) (omega arith), within)

pub enum_read-adjacent_read-requires : goal.enum_read-adjacent_read-requires
enum_read-adjacent_read-requires g t c =
    let x = c.args.table.now in
    let e : work x c.args.room.inside (value_size (kept_view c.args.value.now)) c.args.left (6 + cases_weight c.args.variants.now) ≡ t = c.decreases in
    λ κs within. (by_tree _ _ _ _ _ _ _ _ _ _ _ e (omega arith) (omega arith) (omega arith) (omega arith), within)

pub enum_read-first_read-requires : goal.enum_read-first_read-requires
enum_read-first_read-requires g t c =
    let x = c.args.table.now in
    let e : work x c.args.room.inside (value_size (kept_view c.args.value.now)) c.args.left (6 + cases_weight c.args.variants.now) ≡ t = c.decreases in
    λ κs within. (by_tree _ _ _ _ _ _ _ _ _ _ _ e (omega arith) (omega arith) (omega arith) (omega arith), within)

pub external_read-external_member-requires : goal.external_read-external_member-requires
external_read-external_member-requires g t c =
    let x = c.args.table.now in
    let e : work x c.args.room.inside (value_size (kept_view c.args.value.now)) 0 (4 + cases_weight c.args.variants.now) ≡ t = c.decreases in
    λ κs within. (by_value _ _ _ _ _ _ _ _ _ _ _ e (omega arith) (object_smaller (kept_view c.args.value.now) _ (search rules)) (omega arith) (fits x.targets.items _ _ (omega arith)), within)

pub named_read-content_read-requires : goal.named_read-content_read-requires
named_read-content_read-requires g t c =
    let x = c.args.table.now in
    let e : anew x c.args.room.inside (value_size (kept_view c.args.value.now)) (2 + cases_weight c.args.variants.now) ≡ t = c.decreases in
    let h : 11 + parts_weight c.in-Some.variant.now.1.items < cases_weight c.args.variants.now = case_in (string_bytes c.args.name.now) c.args.variants.now c.in-Some.variant.now (search rules) in
    let d : parts_weight c.deref-in-Some.result.now ≡ parts_weight c.in-Some.variant.now.1.items = ap parts_weight c.deref-in-Some.ensures.value in
    λ κs within. (by_tree _ _ _ _ _ _ _ _ _ _ _ e (omega arith) (omega arith) (omega arith) (omega (arith, h, d)), within)

pub content_read-contents_read-requires : goal.content_read-contents_read-requires
content_read-contents_read-requires g t c =
    let x = c.args.table.now in
    let e : anew x c.args.room.inside (value_size (kept_view c.args.value.now)) (8 + parts_weight c.args.parts.now) ≡ t = c.decreases in
    let h : c.len-left.result ≡ length x.targets.items = search rules in
    λ κs within. (by_tree _ _ _ _ _ _ _ _ _ _ _ e (omega arith) (omega arith) (omega (arith, h)) (omega arith), within)

pub contents_read-front_read-requires : goal.contents_read-front_read-requires
contents_read-front_read-requires g t c =
    let x = c.args.table.now in
    let e : work x c.args.room.inside (value_size (kept_view c.args.value.now)) c.args.left (7 + parts_weight c.args.parts.now) ≡ t = c.decreases in
    λ κs within. (by_tree _ _ _ _ _ _ _ _ _ _ _ e (omega arith) (omega arith) (omega arith) (omega arith), within)

pub contents_read-places_read-requires : goal.contents_read-places_read-requires
contents_read-places_read-requires g t c =
    let x = c.args.table.now in
    let e : work x c.args.room.inside (value_size (kept_view c.args.value.now)) c.args.left (7 + parts_weight c.args.parts.now) ≡ t = c.decreases in
    λ κs within. (by_tree _ _ _ _ _ _ _ _ _ _ _ e (omega arith) (omega arith) (omega arith) (omega arith), within)

pub contents_read-struct_read-requires : goal.contents_read-struct_read-requires
contents_read-struct_read-requires g t c =
    let x = c.args.table.now in
    let e : work x c.args.room.inside (value_size (kept_view c.args.value.now)) c.args.left (7 + parts_weight c.args.parts.now) ≡ t = c.decreases in
    λ κs within. (by_tree _ _ _ _ _ _ _ _ _ _ _ e (omega arith) (omega arith) (omega arith) (omega arith), within)

pub front_read-read-requires : goal.front_read-read-requires
front_read-read-requires g t c =
    let x = c.args.table.now in
    let e : work x c.args.room.inside (value_size (kept_view c.args.value.now)) c.args.left (3 + parts_weight c.args.parts.now) ≡ t = c.decreases in
    let h = front_in c.args.parts.now in
    let k : maybe_weight (front_tree c.args.parts.now) ≡ 2 + tree_weight c.in-Some.tree.now = some_weighs _ _ (search rules) in
    λ κs within. (by_tree _ _ _ _ _ _ _ _ _ _ _ e (omega arith) (omega arith) (omega arith) (omega (arith, h, k)), within)

pub internal_read-internal_members-requires : goal.internal_read-internal_members-requires
internal_read-internal_members-requires g t c =
    let x = c.args.table.now in
    let e : work x c.args.room.inside (value_size (kept_view c.args.value.now)) 0 (4 + cases_weight c.args.variants.now) ≡ t = c.requires.1.0 in
    λ κs within. (by_value _ _ _ _ _ _ _ _ _ _ _ e (omega arith) (object_smaller (kept_view c.args.value.now) _ (search rules)) (omega arith) (fits x.targets.items _ _ (omega arith)), within)

pub internal_members-beside_read-requires : goal.internal_members-beside_read-requires
internal_members-beside_read-requires g t c =
    let x = c.args.table.now in
    let e : anew x c.args.room.inside (members_size (members_of (members_view c.args.members.now.entries))) (3 + cases_weight c.args.variants.now) ≡ t = c.requires.1.0 in
    let h : 11 + parts_weight c.in-Some.variant.now.1.items < cases_weight c.args.variants.now = tagged_in c.args.tag.now c.args.variants.now (members_of (members_view c.args.members.now.entries)) c.in-Some.variant.now (search rules) in
    let d : parts_weight c.deref.result.now ≡ parts_weight c.in-Some.variant.now.1.items = ap parts_weight c.deref.ensures.value in
    λ κs within. (by_tree _ _ _ _ _ _ _ _ _ _ _ e (omega arith) (omega arith) (omega arith) (omega (arith, h, d)), within)

pub beside_read-struct_members-requires : goal.beside_read-struct_members-requires
beside_read-struct_members-requires g t c =
    let x = c.args.table.now in
    let e : anew x c.args.room.inside (members_size (members_of (members_view c.args.members.now.entries))) (9 + parts_weight c.args.parts.now) ≡ t = c.requires.1.0 in
    λ κs within. (by_tree _ _ _ _ _ _ _ _ _ _ _ e (omega arith) (omega arith) (omega arith) (omega arith), within)

pub adjacent_read-adjacent_members-requires : goal.adjacent_read-adjacent_members-requires
adjacent_read-adjacent_members-requires g t c =
    let x = c.args.table.now in
    let e : work x c.args.room.inside (value_size (kept_view c.args.value.now)) 0 (4 + cases_weight c.args.variants.now) ≡ t = c.requires.1.0 in
    λ κs within. (by_value _ _ _ _ _ _ _ _ _ _ _ e (omega arith) (object_smaller (kept_view c.args.value.now) _ (search rules)) (omega arith) (fits x.targets.items _ _ (omega arith)), within)

pub adjacent_members-adjacent_content-requires : goal.adjacent_members-adjacent_content-requires
adjacent_members-adjacent_content-requires g t c =
    let x = c.args.table.now in
    let e : anew x c.args.room.inside (members_size (members_of (members_view c.args.members.now.entries))) (3 + cases_weight c.args.variants.now) ≡ t = c.requires.1.0 in
    let h : 11 + parts_weight c.in-Some.variant.now.1.items < cases_weight c.args.variants.now = tagged_in c.args.tag.now c.args.variants.now (members_of (members_view c.args.members.now.entries)) c.in-Some.variant.now (search rules) in
    λ κs within. (by_tree _ _ _ _ _ _ _ _ _ _ _ e (omega arith) (omega arith) (omega arith) (omega (arith, h)), within)

pub adjacent_content-content_read-requires : goal.adjacent_content-content_read-requires
adjacent_content-content_read-requires g t c =
    let x = c.args.table.now in
    let e : anew x c.args.room.inside (members_size (members_of (members_view c.args.members.now.entries))) (9 + parts_weight c.args.variant.now.1.items) ≡ t = c.requires.1.0 in
    let d : parts_weight c.deref.result.now ≡ parts_weight c.args.variant.now.1.items = ap parts_weight c.deref.ensures.value in
    λ κs within. (by_value _ _ _ _ _ _ _ _ _ _ _ e (omega arith) (member_smaller c.args.content.now _ _ (search rules)) (omega arith) (fits x.targets.items _ _ (omega (arith, d))), within)

pub first_read-contents_read-requires : goal.first_read-contents_read-requires
first_read-contents_read-requires g t c =
    let x = c.args.table.now in
    let e : work x c.args.room.inside (value_size (kept_view c.args.value.now)) c.args.left (4 + cases_weight c.args.variants.now) ≡ t = c.decreases in
    let h = case_in_list c.args.variants.now c.loop-variant.variant-index c.variant-item.result (omega arith) c.variant-item.is in
    let d : parts_weight c.deref.result.now ≡ parts_weight c.variant-item.result.1.items = ap parts_weight c.deref.ensures.value in
    λ κs within. (by_tree _ _ _ _ _ _ _ _ _ _ _ e (omega arith) (omega arith) (omega arith) (omega (arith, h, d)), within)

pub external_member-named_read-requires : goal.external_member-named_read-requires
external_member-named_read-requires g t c =
    let x = c.args.table.now in
    let e : anew x c.args.room.inside (members_size (members_of (members_view c.args.members.now.entries))) (3 + cases_weight c.args.variants.now) ≡ t = c.decreases in
    λ κs within. (by_value _ _ _ _ _ _ _ _ _ _ _ e (omega arith) (only_smaller (members_of (members_view c.args.members.now.entries)) (string_bytes c.in-Some.name.now) (kept_view c.in-Some.value.now) (search rules)) (omega arith) (fits x.targets.items _ _ (omega arith)), within)

-- ---- what is read

pub read-returns-in_ok-found-in-Atom-clause-read : goal.read-returns-in_ok-found-in-Atom-clause-read
read-returns-in_ok-found-in-Atom-clause-read g t c =
    λ m. atom_tree (setting (table_view c.args.table.now) c.args.room.inside) (g.T.Texts.relations c.args.texts.now) (kept_view c.args.value.now) (c.args.left + m) c.args.tree.now c.in-Atom.atom _ c.in-Atom.is (c.in_ok-found-in-Atom.ensures.read m)

pub read-returns-in_ok-found-in-One-clause-read : goal.read-returns-in_ok-found-in-One-clause-read
read-returns-in_ok-found-in-One-clause-read g t c =
    λ m. one_tree (setting (table_view c.args.table.now) c.args.room.inside) (g.T.Texts.relations c.args.texts.now) (kept_view c.args.value.now) (c.args.left + m) c.args.tree.now c.in-One.wrap c.in-One.held _ _ c.in-One.is c.deref.ensures (c.in_ok-found-in-One.ensures.read m)

pub read-returns-in_ok-found-in-Map-clause-read : goal.read-returns-in_ok-found-in-Map-clause-read
read-returns-in_ok-found-in-Map-clause-read g t c =
    λ m. map_tree (setting (table_view c.args.table.now) c.args.room.inside) (g.T.Texts.relations c.args.texts.now) (kept_view c.args.value.now) (c.args.left + m) c.args.tree.now c.in-Map.keys c.in-Map.held _ _ _ c.in-Map.is c.deref-in-Map.ensures c.deref-in-Map-2.ensures (c.in_ok-found-in-Map.ensures.read (c.args.left + m))

pub read-returns-in_ok-found-in-Tuple-clause-read : goal.read-returns-in_ok-found-in-Tuple-clause-read
read-returns-in_ok-found-in-Tuple-clause-read g t c =
    λ m. tuple_tree (setting (table_view c.args.table.now) c.args.room.inside) (g.T.Texts.relations c.args.texts.now) (kept_view c.args.value.now) (c.args.left + m) c.args.tree.now c.in-Tuple.places _ _ c.in-Tuple.is c.deref-in-Tuple.ensures.value (c.in_ok-found-in-Tuple.ensures.read (c.args.left + m))

pub read-returns-in_ok-found-in-Struct-clause-read : goal.read-returns-in_ok-found-in-Struct-clause-read
read-returns-in_ok-found-in-Struct-clause-read g t c =
    λ m. struct_tree (setting (table_view c.args.table.now) c.args.room.inside) (g.T.Texts.relations c.args.texts.now) (kept_view c.args.value.now) (c.args.left + m) c.args.tree.now c.in-Struct.name c.in-Struct.closed c.in-Struct.fields c.in-Struct.rest _ _ _ c.in-Struct.is c.deref-in-Struct.ensures.value c.rest_tree-rest.ensures (c.in_ok-found-in-Struct.ensures.read (c.args.left + m))

pub read-returns-in_ok-found-in-Enum-clause-read : goal.read-returns-in_ok-found-in-Enum-clause-read
read-returns-in_ok-found-in-Enum-clause-read g t c =
    λ m. enum_tree (setting (table_view c.args.table.now) c.args.room.inside) (g.T.Texts.relations c.args.texts.now) (kept_view c.args.value.now) (c.args.left + m) c.args.tree.now c.in-Enum.name c.in-Enum.closed c.in-Enum.tag c.in-Enum.variants _ _ c.in-Enum.is c.deref-in-Enum.ensures.value (c.in_ok-found-in-Enum.ensures.read m)

pub atom_read-returns-clause-read : goal.atom_read-returns-clause-read
atom_read-returns-clause-read g t c =
    λ m. atom_comes (setting (table_view c.args.table.now) c.args.room.inside) (g.T.Texts.relations c.args.texts.now) (kept_view c.args.value.now) (c.args.left + m) c.args.atom.now c.in_ok-taken.taken _ c.in_ok-taken.ensures.taken c.told.ensures

pub follow-returns-in_ok-found-in-Some-clause-read : goal.follow-returns-in_ok-found-in-Some-clause-read
follow-returns-in_ok-found-in-Some-clause-read g t c =
    let known = subst (λ (k : ℕ). (m : ℕ) → comes_in (setting (table_view c.args.table.now) k) (g.T.Texts.relations c.args.texts.now) (c.args.left - 1 + m) (tree_view c.in-Some.tree.now) (kept_view c.args.value.now) ≡ found_view c.in_ok-found-in-Some.found) c.deeper.ensures c.in_ok-found-in-Some.ensures.read in
    one_followed (setting (table_view c.args.table.now) c.args.room.inside) (g.T.Texts.relations c.args.texts.now) (kept_view c.args.value.now) (target_view c.args.target.now) c.in-Some.tree.now c.args.left _ (λ e. absurd (omega (arith, e, c.if-left-eq0.false))) (search rules) known

pub follow-returns-in-None-clause-read : goal.follow-returns-in-None-clause-read
follow-returns-in-None-clause-read g t c =
    none_followed (setting (table_view c.args.table.now) c.args.room.inside) (g.T.Texts.relations c.args.texts.now) (kept_view c.args.value.now) (target_view c.args.target.now) c.args.left (λ e. absurd (omega (arith, e, c.if-left-eq0.false))) (search rules)

pub one_read-returns-in_ok-found-in-Option-clause-read : goal.one_read-returns-in_ok-found-in-Option-clause-read
one_read-returns-in_ok-found-in-Option-clause-read g t c =
    λ m. ap (λ w. comes_in (setting (table_view c.args.table.now) c.args.room.inside) (g.T.Texts.relations c.args.texts.now) (c.args.left + m) (wrapped w (tree_view c.args.held.now)) (kept_view c.args.value.now)) c.in-Option.is ∙ c.in_ok-found-in-Option.ensures.read m

pub one_read-returns-in_ok-found-in-Newtype-clause-read : goal.one_read-returns-in_ok-found-in-Newtype-clause-read
one_read-returns-in_ok-found-in-Newtype-clause-read g t c =
    λ m. ap (λ w. comes_in (setting (table_view c.args.table.now) c.args.room.inside) (g.T.Texts.relations c.args.texts.now) (c.args.left + m) (wrapped w (tree_view c.args.held.now)) (kept_view c.args.value.now)) c.in-Newtype.is ∙ c.in_ok-found-in-Newtype.ensures.read m (label_view c.in-Newtype.name)

pub one_read-returns-in_ok-found-in-Vec-clause-read : goal.one_read-returns-in_ok-found-in-Vec-clause-read
one_read-returns-in_ok-found-in-Vec-clause-read g t c =
    λ m. ap (λ w. comes_in (setting (table_view c.args.table.now) c.args.room.inside) (g.T.Texts.relations c.args.texts.now) (c.args.left + m) (wrapped w (tree_view c.args.held.now)) (kept_view c.args.value.now)) c.in-Vec.is ∙ c.in_ok-found-in-Vec.ensures.read (c.args.left + m)

pub one_read-returns-in_ok-found-in-Set-clause-read : goal.one_read-returns-in_ok-found-in-Set-clause-read
one_read-returns-in_ok-found-in-Set-clause-read g t c =
    λ m. ap (λ w. comes_in (setting (table_view c.args.table.now) c.args.room.inside) (g.T.Texts.relations c.args.texts.now) (c.args.left + m) (wrapped w (tree_view c.args.held.now)) (kept_view c.args.value.now)) c.in-Set.is ∙ set_same (setting (table_view c.args.table.now) c.args.room.inside) (g.T.Texts.relations c.args.texts.now) (c.args.left + m) (tree_view c.args.held.now) (kept_view c.args.value.now) ∙ c.in_ok-found-in-Set.ensures.read (c.args.left + m)

pub one_read-returns-in_ok-found-in-Array-clause-read : goal.one_read-returns-in_ok-found-in-Array-clause-read
one_read-returns-in_ok-found-in-Array-clause-read g t c =
    λ m. ap (λ w. comes_in (setting (table_view c.args.table.now) c.args.room.inside) (g.T.Texts.relations c.args.texts.now) (c.args.left + m) (wrapped w (tree_view c.args.held.now)) (kept_view c.args.value.now)) c.in-Array.is ∙ c.in_ok-found-in-Array.ensures.read (c.args.left + m)

pub each_read-returns-in_ok-found-in-Some-clause-read : goal.each_read-returns-in_ok-found-in-Some-clause-read
each_read-returns-in_ok-found-in-Some-clause-read g t c =
    each_come (setting (table_view c.args.table.now) c.args.room.inside) (g.T.Texts.relations c.args.texts.now) (kept_view c.args.value.now) _ (tree_view c.args.held.now) _ (search rules) c.in_ok-found-in-Some.ensures.read

pub each_read-returns-in-None-clause-read : goal.each_read-returns-in-None-clause-read
each_read-returns-in-None-clause-read g t c =
    each_refused (setting (table_view c.args.table.now) c.args.room.inside) (g.T.Texts.relations c.args.texts.now) (kept_view c.args.value.now) (tree_view c.args.held.now) (search rules)

pub array_read-returns-in_ok-found-in-Some-clause-read : goal.array_read-returns-in_ok-found-in-Some-clause-read
array_read-returns-in_ok-found-in-Some-clause-read g t c =
    array_come (setting (table_view c.args.table.now) c.args.room.inside) (g.T.Texts.relations c.args.texts.now) (kept_view c.args.value.now) (items_of (items_view c.in-Some.values.now.items)) c.args.count (tree_view c.args.held.now) _ (search rules) (sym (items_counted c.in-Some.values.now.items) ∙ search rules) c.in_ok-found-in-Some.ensures.read

pub array_read-returns-in-None-clause-read : goal.array_read-returns-in-None-clause-read
array_read-returns-in-None-clause-read g t c =
    array_refused (setting (table_view c.args.table.now) c.args.room.inside) (g.T.Texts.relations c.args.texts.now) (kept_view c.args.value.now) c.args.count (tree_view c.args.held.now) (search rules)

pub map_read-returns-in_ok-found-in-Some-clause-read : goal.map_read-returns-in_ok-found-in-Some-clause-read
map_read-returns-in_ok-found-in-Some-clause-read g t c =
    map_come (setting (table_view c.args.table.now) c.args.room.inside) (g.T.Texts.relations c.args.texts.now) (kept_view c.args.value.now) _ (tree_view c.args.keys.now) (tree_view c.args.held.now) _ (search rules) c.in_ok-found-in-Some.ensures.read

pub map_read-returns-in-None-clause-read : goal.map_read-returns-in-None-clause-read
map_read-returns-in-None-clause-read g t c =
    map_refused (setting (table_view c.args.table.now) c.args.room.inside) (g.T.Texts.relations c.args.texts.now) (kept_view c.args.value.now) (tree_view c.args.keys.now) (tree_view c.args.held.now) (search rules)

pub member_read-returns-clause-read : goal.member_read-returns-clause-read
member_read-returns-clause-read g t c =
    let r = (g.T.Texts.relations c.args.texts.now) in
    let s = (setting (table_view c.args.table.now) c.args.room.inside) in
    let named = ap (λ n. both (found_view c.args.before) (comes s r (tree_view c.args.keys.now) n)) (sym c.in_ok-text.ensures.answer) ∙ c.in_ok-named.ensures.read in
    let held = ap (λ q. both (found_view c.in_ok-named.named) (comes s q (tree_view c.args.held.now) (kept_view c.args.value.now))) (sym c.in_ok-named.ensures.keeps) ∙ c.in_ok-found.ensures.read in
    sym (both_along (found_view c.args.before) (comes s r (tree_view c.args.keys.now) (text (string_bytes c.args.name.now))) (comes s r (tree_view c.args.held.now) (kept_view c.args.value.now))) ∙ ap (λ z. both z (comes s r (tree_view c.args.held.now) (kept_view c.args.value.now))) named ∙ held

pub struct_read-returns-in_ok-found-in-Some-clause-read : goal.struct_read-returns-in_ok-found-in-Some-clause-read
struct_read-returns-in_ok-found-in-Some-clause-read g t c =
    struct_come (setting (table_view c.args.table.now) c.args.room.inside) (g.T.Texts.relations c.args.texts.now) (kept_view c.args.value.now) _ c.args.closed _ _ (search rules) (search rules) c.in_ok-found-in-Some.ensures.read

pub struct_read-returns-in-None-clause-read : goal.struct_read-returns-in-None-clause-read
struct_read-returns-in-None-clause-read g t c =
    struct_refused (setting (table_view c.args.table.now) c.args.room.inside) (g.T.Texts.relations c.args.texts.now) (kept_view c.args.value.now) c.args.closed _ (search rules)

pub content_read-returns-clause-read : goal.content_read-returns-clause-read
content_read-returns-clause-read g t c =
    where_so _ _ (ap not (sym (c.is_unit.ensures (parts_of c.args.parts.now)) ∙ c.if-is_unit.false)) ∙ comes_known c.args.table.now c.args.room.inside (g.T.Texts.relations c.args.texts.now) (contents_entry c.args.closed (contents_view c.args.kind (parts_of c.args.parts.now))) (kept_view c.args.value.now) c.len-left.result _ (search rules) c.in_ok-found.ensures.read

pub internal_read-returns-in_ok-found-in-Some-clause-read : goal.internal_read-returns-in_ok-found-in-Some-clause-read
internal_read-returns-in_ok-found-in-Some-clause-read g t c =
    internal_object (setting (table_view c.args.table.now) c.args.room.inside) (g.T.Texts.relations c.args.texts.now) (kept_view c.args.value.now) _ c.args.tag.now c.args.variants.now _ c.args.closed (search rules) (search rules) c.in_ok-found-in-Some.ensures.read

pub internal_read-returns-in-None-clause-read : goal.internal_read-returns-in-None-clause-read
internal_read-returns-in-None-clause-read g t c =
    internal_refused (setting (table_view c.args.table.now) c.args.room.inside) (g.T.Texts.relations c.args.texts.now) (kept_view c.args.value.now) c.args.tag.now c.args.variants.now c.args.closed (search rules)

pub adjacent_read-returns-in_ok-found-in-Some-clause-read : goal.adjacent_read-returns-in_ok-found-in-Some-clause-read
adjacent_read-returns-in_ok-found-in-Some-clause-read g t c =
    adjacent_object (setting (table_view c.args.table.now) c.args.room.inside) (g.T.Texts.relations c.args.texts.now) (kept_view c.args.value.now) _ c.args.tag.now c.args.content.now c.args.variants.now _ c.args.closed (search rules) c.in_ok-found-in-Some.ensures.read

pub adjacent_read-returns-in-None-clause-read : goal.adjacent_read-returns-in-None-clause-read
adjacent_read-returns-in-None-clause-read g t c =
    adjacent_refused (setting (table_view c.args.table.now) c.args.room.inside) (g.T.Texts.relations c.args.texts.now) (kept_view c.args.value.now) c.args.tag.now c.args.content.now c.args.variants.now c.args.closed (search rules)

pub also-returns-clause-read : goal.also-returns-clause-read
also-returns-clause-read g t c =
    let known = subst (λ (k : ℕ). (m : ℕ) → comes_in (setting (table_view c.args.table.now) k) (g.T.Texts.relations c.args.texts.now) (c.len-left.result + m) (tree_view c.args.tree.now) (kept_view c.args.value.now) ≡ found_view c.in_ok-found.found) c.deeper.ensures c.in_ok-found.ensures.read in
    goes_on (found_view c.args.before) _ (sym c.is_ended.ensures ∙ c.if-not-is_ended.false)
    ∙ comes_known c.args.table.now c.args.room.inside (g.T.Texts.relations c.args.texts.now) (tree_view c.args.tree.now) (kept_view c.args.value.now) c.len-left.result _ (search rules) known

pub option_read-returns-then-is_null-clause-read : goal.option_read-returns-then-is_null-clause-read
option_read-returns-then-is_null-clause-read g t c =
    λ m. null_comes (setting (table_view c.args.table.now) c.args.room.inside) (g.T.Texts.relations c.args.texts.now) (kept_view c.args.value.now) (sym c.if-is_null.true ∙ c.is_null.ensures) (tree_view c.args.held.now) (c.args.left + m)

pub option_read-returns-clause-read : goal.option_read-returns-clause-read
option_read-returns-clause-read g t c =
    λ m. option_passed (setting (table_view c.args.table.now) c.args.room.inside) (g.T.Texts.relations c.args.texts.now) (kept_view c.args.value.now) (sym c.if-is_null.false ∙ c.is_null.ensures) (tree_view c.args.held.now) (c.args.left + m) ∙ c.in_ok-found.ensures.read m

pub ruled_read-returns-then-not-is_ended-clause-read : goal.ruled_read-returns-then-not-is_ended-clause-read
ruled_read-returns-then-not-is_ended-clause-read g t c =
    λ m n. rule_unasked (setting (table_view c.args.table.now) c.args.room.inside) (g.T.Texts.relations c.args.texts.now) (kept_view c.args.value.now) (option_map rule_view c.args.rule.now) (tree_view c.args.held.now) (c.args.left + m) _ (c.in_ok-found.ensures.read m) (sym c.is_ended.ensures ∙ c.if-not-is_ended.true) n

pub ruled_read-returns-clause-read : goal.ruled_read-returns-clause-read
ruled_read-returns-clause-read g t c =
    let holds = c.in_ok-holds.ensures.answer ∙ ap (λ q. rule_holds q (kept_view c.args.value.now) (option_map rule_view c.args.rule.now)) c.in_ok-found.ensures.keeps in
    λ m n. rule_asked (setting (table_view c.args.table.now) c.args.room.inside) (g.T.Texts.relations c.args.texts.now) (kept_view c.args.value.now) (option_map rule_view c.args.rule.now) (tree_view c.args.held.now) (c.args.left + m) _ c.in_ok-holds.holds _ (c.in_ok-found.ensures.read m) (sym c.is_ended.ensures ∙ c.if-not-is_ended.false) holds c.told.ensures n

pub places_read-returns-in_ok-found-in-Some-clause-read : goal.places_read-returns-in_ok-found-in-Some-clause-read
places_read-returns-in_ok-found-in-Some-clause-read g t c =
    places_come_of (setting (table_view c.args.table.now) c.args.room.inside) (g.T.Texts.relations c.args.texts.now) (kept_view c.args.value.now) (items_of (items_view c.in-Some.values.now.items)) (places_in c.args.places.now) _ (search rules) (sym (items_counted c.in-Some.values.now.items) ∙ search rules ∙ sym (places_counted c.args.places.now)) (c.in_ok-found-in-Some.ensures.read (search rules))

pub places_read-returns-in-None-clause-read : goal.places_read-returns-in-None-clause-read
places_read-returns-in-None-clause-read g t c =
    places_refused (setting (table_view c.args.table.now) c.args.room.inside) (g.T.Texts.relations c.args.texts.now) (kept_view c.args.value.now) (places_in c.args.places.now) (search rules)

pub by_places-loop-place-preserved : goal.by_places-loop-place-preserved
by_places-loop-place-preserved g t c =
    let l = c.loop-place in
    let ps = c.args.places.now in
    let turn = items_turn c.deref-value-items.result.now c.args.values.now.items l.place c.value-item.result c.deref-value-items.ensures.value (omega arith) c.value-item.is in
    let read = ap (λ o. both (found_view l.found) (comes (setting (table_view c.args.table.now) c.args.room.inside) (g.T.Texts.relations l.texts) (entry_of o) (kept_view c.value-item.result))) (sym c.tree_from-tree.ensures) ∙ c.in_ok-found.ensures.read in record {
      done = λ h. places_next (setting (table_view c.args.table.now) c.args.room.inside) (g.T.Texts.relations c.args.texts.now) _ l.invariant.keeps _ _ _ _ (entries_of (places_in (drop (l.place + 1) ps))) (entry_of (first_tree (drop l.place ps))) (kept_view c.value-item.result) _ _
          (place_turn ps l.place (l.place + 1) refl (omega (arith, h, ap length c.deref-value-items.ensures.value))) turn (l.invariant.done h) read;
      small = omega (arith, ap items_size turn, l.invariant.small);
      keeps = c.in_ok-found.ensures.keeps ∙ l.invariant.keeps;
      counts = omega (arith, c.in_ok-found.ensures.counts, l.invariant.counts);
    }

pub fields_read-loop-place-preserved : goal.fields_read-loop-place-preserved
fields_read-loop-place-preserved g t c =
    let l = c.loop-place in
    let fs = c.args.fields.now in
    let o = (option_map (λ x. x.now) c.args.rest) in
    let t = option_map (λ x. x.now) c.field_tree-tree.result in
    let own = field_own fs l.place c.index-fields-place.result o t (omega arith) c.index-fields-place.is c.field_tree-tree.ensures in record {
      done = fields_next (setting (table_view c.args.table.now) c.args.room.inside) (g.T.Texts.relations c.args.texts.now) _ l.invariant.keeps _ _ _ (option_map (λ p. p.now) c.args.passed) (members_of (members_view c.args.members.now.entries)) _ (listed (drop (l.place + 1) fs) o) (field_of c.index-fields-place.result t)
          (field_turn fs l.place c.index-fields-place.result o t (omega arith) c.index-fields-place.is c.field_tree-tree.ensures) l.invariant.done (c.in_ok-found.ensures.read own);
      keeps = c.in_ok-found.ensures.keeps ∙ l.invariant.keeps;
      counts = omega (arith, c.in_ok-found.ensures.counts, l.invariant.counts);
    }

pub others_read-loop-name-preserved : goal.others_read-loop-name-preserved
others_read-loop-name-preserved g t c =
    let l = c.loop-name in
    let fs = (fields_in c.args.fields.now (option_map (λ x. x.now) c.args.rest)) in
    let turn = ap (λ es. members_of (members_view es)) c.in-Some.ensures.steps in record {
      done = others_next (setting (table_view c.args.table.now) c.args.room.inside) (g.T.Texts.relations c.args.texts.now) _ l.invariant.keeps _ _ _ (option_map (λ p. p.now) c.args.passed) (fields_of fs) (rest_of fs) (string_bytes c.in-Some.name.now) (kept_view c.in-Some.value.now) _ _ turn l.invariant.done c.in_ok-found.ensures.read;
      small = omega (arith, ap members_size turn, l.invariant.small);
      keeps = c.in_ok-found.ensures.keeps ∙ l.invariant.keeps;
      counts = omega (arith, c.in_ok-found.ensures.counts, l.invariant.counts);
    }

pub struct_members-returns-then-has_unnamed-clause-read : goal.struct_members-returns-then-has_unnamed-clause-read
struct_members-returns-then-has_unnamed-clause-read g t c =
    where_not _ _ (ap not (sym (c.has_unnamed.ensures (option_map (λ x. x.now) c.args.rest)) ∙ c.if-has_unnamed.true))

pub struct_members-returns-clause-read : goal.struct_members-returns-clause-read
struct_members-returns-clause-read g t c =
    where_so _ _ (ap not (sym (c.has_unnamed.ensures (option_map (λ x. x.now) c.args.rest)) ∙ c.if-has_unnamed.false))
    ∙ (λ i. both (c.in_ok-named.ensures.read i) (others_come (setting (table_view c.args.table.now) c.args.room.inside) (sym c.in_ok-named.ensures.keeps i) (option_map (λ p. p.now) c.args.passed) (fields_of (fields_in c.args.fields.now (option_map (λ x. x.now) c.args.rest))) (rest_of (fields_in c.args.fields.now (option_map (λ x. x.now) c.args.rest))) (members_of (members_view c.args.members.now.entries)))) ∙ c.in_ok-found.ensures.read

pub left_out-returns-in-None-clause-read : goal.left_out-returns-in-None-clause-read
left_out-returns-in-None-clause-read g t c =
    left_none (setting (table_view c.args.table.now) c.args.room.inside) (g.T.Texts.relations c.args.texts.now) c.args.field.now _ _ c.in-None.is c.both.ensures

pub state_read-returns-in-Required-clause-read : goal.state_read-returns-in-Required-clause-read
state_read-returns-in-Required-clause-read g t c =
    ap (λ w. both (found_view c.args.before) (left_out (missed (setting (table_view c.args.table.now) c.args.room.inside) (g.T.Texts.relations c.args.texts.now)) (state_view w) (tree_view c.args.tree.now))) c.in-Required.is ∙ sym c.both.ensures

pub state_read-returns-in_ok-found-in-Stated-clause-read : goal.state_read-returns-in_ok-found-in-Stated-clause-read
state_read-returns-in_ok-found-in-Stated-clause-read g t c =
    supplied_left (setting (table_view c.args.table.now) c.args.room.inside) (g.T.Texts.relations c.args.texts.now) (state_view c.args.state) (tree_view c.args.tree.now) (kept_view c.in-Stated.value.now) _ _ (ap state_view c.in-Stated.is) c.in_ok-found-in-Stated.ensures.read

pub default_read-returns-then-room-eq0-clause-read : goal.default_read-returns-then-room-eq0-clause-read
default_read-returns-then-room-eq0-clause-read g t c =
    goes_on (found_view c.args.before) _ (sym c.is_ended.ensures ∙ c.if-not-is_ended.false)
    ∙ none_inside (table_view c.args.table.now) (g.T.Texts.relations c.args.texts.now) (tree_view c.args.tree.now) (kept_view c.args.value.now) c.args.room.inside c.if-room-eq0.true

pub default_read-returns-clause-read : goal.default_read-returns-clause-read
default_read-returns-clause-read g t c =
    goes_on (found_view c.args.before) _ (sym c.is_ended.ensures ∙ c.if-not-is_ended.false)
    ∙ one_inside (table_view c.args.table.now) (g.T.Texts.relations c.args.texts.now) (tree_view c.args.tree.now) (kept_view c.args.value.now) c.args.room.inside _ _ _ (λ e. absurd (omega (arith, e, c.if-room-eq0.false))) c.further.ensures c.in_ok-found.ensures.read c.given.ensures

pub other_read-returns-clause-read : goal.other_read-returns-clause-read
other_read-returns-clause-read g t c =
    other_kept (setting (table_view c.args.table.now) c.args.room.inside) (g.T.Texts.relations c.args.texts.now) (is_other (option_map (λ p. p.now) c.args.passed) (listed c.args.fields.now (option_map (λ x. x.now) c.args.rest)) (string_bytes c.args.name.now)) _ _ (found_view c.args.before) _ (ap (is_other (option_map (λ p. p.now) c.args.passed) (listed c.args.fields.now (option_map (λ x. x.now) c.args.rest))) (sym c.deref.ensures) ∙ sym (c.is_other.ensures (option_map (λ x. x.now) c.args.rest)) ∙ c.if-not-is_other.false)
    (rest_entry (setting (table_view c.args.table.now) c.args.room.inside) (g.T.Texts.relations c.args.texts.now) c.args.fields.now (option_map (λ x. x.now) c.args.rest) (kept_view c.args.value.now)) c.in_ok-found.ensures.read

pub enum_read-returns-in_ok-found-in-Untagged-clause-read : goal.enum_read-returns-in_ok-found-in-Untagged-clause-read
enum_read-returns-in_ok-found-in-Untagged-clause-read g t c =
    λ m n. ap (λ z. comes_in (setting (table_view c.args.table.now) c.args.room.inside) (g.T.Texts.relations c.args.texts.now) (c.args.left + m) (item n (enum_shape c.args.closed (tag_view z) (variants_in (tag_view z) c.args.variants.now))) (kept_view c.args.value.now)) c.in-Untagged.is
    ∙ untagged_come (setting (table_view c.args.table.now) c.args.room.inside) (g.T.Texts.relations c.args.texts.now) (kept_view c.args.value.now) (c.args.left + m) c.args.closed c.args.variants.now n ∙ c.in_ok-found-in-Untagged.ensures.read m

pub external_read-returns-in-Some-clause-read : goal.external_read-returns-in-Some-clause-read
external_read-returns-in-Some-clause-read g t c =
    λ m n. external_text (setting (table_view c.args.table.now) c.args.room.inside) (g.T.Texts.relations c.args.texts.now) (kept_view c.args.value.now) c.in-Some.text.now c.args.variants.now _ _ (search rules) c.names_unit.ensures c.told.ensures c.args.closed m n

pub external_read-returns-in-None-clause-read : goal.external_read-returns-in-None-clause-read
external_read-returns-in-None-clause-read g t c =
    external_refused (setting (table_view c.args.table.now) c.args.room.inside) (g.T.Texts.relations c.args.texts.now) (kept_view c.args.value.now) c.args.variants.now c.args.closed (search rules) (search rules)

pub contents_read-returns-in-Unit-clause-read : goal.contents_read-returns-in-Unit-clause-read
contents_read-returns-in-Unit-clause-read g t c =
    λ m. ap (λ z. comes_in (setting (table_view c.args.table.now) c.args.room.inside) (g.T.Texts.relations c.args.texts.now) (c.args.left + m) (contents_entry c.args.closed (contents_view z (parts_of c.args.parts.now))) (kept_view c.args.value.now)) c.in-Unit.is ∙ unit_comes (setting (table_view c.args.table.now) c.args.room.inside) (g.T.Texts.relations c.args.texts.now) (kept_view c.args.value.now) _ _ c.is_null.ensures c.told.ensures (c.args.left + m)

pub front_read-returns-in-None-clause-read : goal.front_read-returns-in-None-clause-read
front_read-returns-in-None-clause-read g t c =
    let e : first_part (parts_of c.args.parts.now) ≡ any_entry = front_entry c.args.parts.now ∙ ap entry_of (sym c.in-None.ensures) in
    λ m. ap (λ e. comes_in (setting (table_view c.args.table.now) c.args.room.inside) (g.T.Texts.relations c.args.texts.now) (c.args.left + m) e (kept_view c.args.value.now)) e ∙ any_comes (setting (table_view c.args.table.now) c.args.room.inside) (g.T.Texts.relations c.args.texts.now) (kept_view c.args.value.now) (c.args.left + m)

pub array_read-returns-then-len-count-clause-read : goal.array_read-returns-then-len-count-clause-read
array_read-returns-then-len-count-clause-read g t c =
    λ m. array_other (setting (table_view c.args.table.now) c.args.room.inside) (g.T.Texts.relations c.args.texts.now) (kept_view c.args.value.now) (items_of (items_view c.in-Some.values.now.items)) c.args.count (tree_view c.args.held.now) (search rules) (λ q. absurd (omega (arith, items_counted c.in-Some.values.now.items, q, c.len.ensures, c.if-len-count.true))) m

pub places_read-returns-then-len-places-clause-read : goal.places_read-returns-then-len-places-clause-read
places_read-returns-then-len-places-clause-read g t c =
    λ m. places_other (setting (table_view c.args.table.now) c.args.room.inside) (g.T.Texts.relations c.args.texts.now) (kept_view c.args.value.now) (items_of (items_view c.in-Some.values.now.items)) (places_in c.args.places.now) (search rules) (λ q. absurd (omega (arith, items_counted c.in-Some.values.now.items, places_counted c.args.places.now, q, c.len.ensures, c.if-len-places.true))) m

pub external_read-returns-in_ok-found-in-Some-object_of-clause-read : goal.external_read-returns-in_ok-found-in-Some-object_of-clause-read
external_read-returns-in_ok-found-in-Some-object_of-clause-read g t c =
    external_object (setting (table_view c.args.table.now) c.args.room.inside) (g.T.Texts.relations c.args.texts.now) (kept_view c.args.value.now) _ c.args.variants.now _ c.args.closed (search rules) c.in_ok-found-in-Some-object_of.ensures.read

pub also_part-returns-in_ok-found-in-Some-clause-read : goal.also_part-returns-in_ok-found-in-Some-clause-read
also_part-returns-in_ok-found-in-Some-clause-read g t c =
    ap (λ o. both (found_view c.args.before) (comes (setting (table_view c.args.table.now) c.args.room.inside) (g.T.Texts.relations c.args.texts.now) (entry_of (option_map (λ x. x.now) o)) (kept_view c.args.value.now))) c.in-Some.is ∙ c.in_ok-found-in-Some.ensures.read

pub also_part-returns-in-None-clause-read : goal.also_part-returns-in-None-clause-read
also_part-returns-in-None-clause-read g t c =
    ap (λ o. both (found_view c.args.before) (comes (setting (table_view c.args.table.now) c.args.room.inside) (g.T.Texts.relations c.args.texts.now) (entry_of (option_map (λ x. x.now) o)) (kept_view c.args.value.now))) c.in-None.is ∙ ap (both (found_view c.args.before)) (any_level (setting (table_view c.args.table.now) c.args.room.inside) (g.T.Texts.relations c.args.texts.now) (kept_view c.args.value.now)) ∙ both_alone (found_view c.args.before)

pub external_member-returns-in_ok-found-in-Some-clause-read : goal.external_member-returns-in_ok-found-in-Some-clause-read
external_member-returns-in_ok-found-in-Some-clause-read g t c =
    let h : only_of (members_of (members_view c.args.members.now.entries)) ≡ Some (string_bytes c.in-Some.name.now, kept_view c.in-Some.value.now) = search rules in
    ap (by_only (setting (table_view c.args.table.now) c.args.room.inside) (g.T.Texts.relations c.args.texts.now) c.args.closed c.args.variants.now) h ∙ c.in_ok-found-in-Some.ensures.read

pub external_member-returns-in-None-clause-read : goal.external_member-returns-in-None-clause-read
external_member-returns-in-None-clause-read g t c =
    let h : only_of (members_of (members_view c.args.members.now.entries)) ≡ None = search rules in
    ap (by_only (setting (table_view c.args.table.now) c.args.room.inside) (g.T.Texts.relations c.args.texts.now) c.args.closed c.args.variants.now) h

pub named_read-returns-in_ok-found-in-Some-clause-read : goal.named_read-returns-in_ok-found-in-Some-clause-read
named_read-returns-in_ok-found-in-Some-clause-read g t c =
    let h : case_named (string_bytes c.args.name.now) c.args.variants.now ≡ Some c.in-Some.variant.now = search rules in
    ap (λ o. named_comes (setting (table_view c.args.table.now) c.args.room.inside) (g.T.Texts.relations c.args.texts.now) c.args.closed (option_map content o) (kept_view c.args.value.now)) h
    ∙ ap (λ ps. content_comes (setting (table_view c.args.table.now) c.args.room.inside) (g.T.Texts.relations c.args.texts.now) c.args.closed (contents_view c.in-Some.variant.now.0.kind (parts_of ps)) (kept_view c.args.value.now)) (sym c.deref-in-Some.ensures.value) ∙ c.in_ok-found-in-Some.ensures.read

pub named_read-returns-in-None-clause-read : goal.named_read-returns-in-None-clause-read
named_read-returns-in-None-clause-read g t c =
    let h : case_named (string_bytes c.args.name.now) c.args.variants.now ≡ None = search rules in
    ap (λ o. named_comes (setting (table_view c.args.table.now) c.args.room.inside) (g.T.Texts.relations c.args.texts.now) c.args.closed (option_map content o) (kept_view c.args.value.now)) h

pub others_read-returns-then-is_none-clause-read : goal.others_read-returns-then-is_none-clause-read
others_read-returns-then-is_none-clause-read g t c =
    none_left (setting (table_view c.args.table.now) c.args.room.inside) (g.T.Texts.relations c.args.texts.now) (option_map (λ p. p.now) c.args.passed) c.args.fields.now (option_map (λ x. x.now) c.args.rest) (members_of (members_view c.args.members.now.entries)) (found_view c.args.before)
    (search rules)
