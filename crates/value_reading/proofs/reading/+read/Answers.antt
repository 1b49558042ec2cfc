use Rattle.std.proofs.Common.{◌≡◌, ℕ, zero, suc, ◌+◌, ◌-◌, ◌<◌, ◌≤◌, ◌||◌, List, [], ◌∷◌, ◌++◌, map, drop, length, get_or, refl, sym, ap, ◌∙◌, arith, rules, Some, None, true, false, not}
use Rattle.serde_json.specs.declared.value.Value.TheVariants as json'
use Rattle.json_value.specs.Value.{value_size, entries}
use Rattle.schema_defs.specs.Location.{place}
use Rattle.conversion_table.specs.Conversions.{conversions_view}
use Rattle.json_value.specs.View.{kept_view}
use Rattle.model_defs.specs.Model.{rule_of}
use Rattle.model_defs.specs.Layer.{given_rule_agrees}
use Rattle.reading_defs.specs.Reading.{taken, under, or_next, kept_if}
use Rattle.value_models.specs.ContainersView.{containers_in}
use Rattle.value_models.specs.ContainerView.{tag_view, variants_in, body_view, container_view}
use Rattle.value_models.specs.FieldView.{field_view, fields_view, helper_view, style_view}
use Rattle.value_models.specs.TypeView.{type_view, types_view}
use Rattle.value_models.specs.TypedView.{typed_view, typeds_view, pairs_view}
use Rattle.value_models.specs.VariantView.{variant_view, variants_view, fields_in}
use Rattle.value_parts.specs.At.{Setting, demanded_from, pairs_at, untagged_at, body_at, container_at}
use Rattle.value_parts.specs.Entries.{demand_view, entry_view, entries_view, choice_view, slot_view}
use Rattle.value_parts.specs.Seen.{one_view, several_view, pairs_read_view, pair_view}
use Rattle.value_parts.specs.SettingView.{setting_view}
use Rattle.value_parts.specs.Slots.{entries_size, entries_at, entries_without_place, field_at, fields_from}
use Rattle.value_parts.specs.SortedView.{sorted_entries, sorted_names}
use Rattle.value_parts.proofs.TypedViews.{none_seen}
use Rattle.value_reading.specs.Steps.{part_at, place_at, pair_at, newtype_at, helped_at, variant_at}
use Rattle.value_reading.proofs.Order.{by_default, by_value, by_item, by_rank}
use Rattle.value_reading.proofs.Sizes.{values_size}
use Rattle.value_reading.proofs.Work.{work, items_in, sizes_in}
use Rattle.value_reading.proofs.Small.{array_small, object_small, item_small, rest_small, member_small, members_small, default_small, some_size, inside_small, beside_small, fields_there, view-Null}
use Rattle.value_reading.proofs.Prefixes.{prefixed, begun, turn, stop, halt, finish}
use Rattle.value_reading.proofs.Levels.{part_here, absent_level, present_level, tuple_level, item_there, item_nowhere, items_spent, newtype_is}
use Rattle.value_reading.proofs.ListLevels.{fitting, not_fitting, object_level, struct_level}
use Rattle.value_reading.proofs.Contents.{settled_enum, inside_enum, beside_enum, turn_enum, inside_here, struct_content, tuple_content, only_content, unit_content, unit_variant, other_variant}
use Rattle.value_reading.proofs.FieldSteps.{unknown_there, none_unknown, rest_field, empty_field, one_field, two_field, helped_here, inner_here}
use Rattle.value_reading.proofs.LoopSteps.{item_step, item_unasked, items_end, pairs_end, variant_step, variants_end, field_step, fields_end, typeds_more, pair_taken, pair_stopped, pair_unsound}
use Rattle.value_reading.proofs.PairTurns.{pairs_turn, pairs_stop, pairs_halt}
use Rattle.value_reading.proofs.Defaults.{spent, entered_already, inside_default, stated_there, stated_nowhere}
use Rattle.value_reading.proofs.reading.+read.Goals as goal

pub read_type-read_leaf-requires : goal.read_type-read_leaf-requires
read_type-read_leaf-requires g t c =
    let e : work c.args.setting.now (value_size (kept_view c.args.value.now)) c.args.left 9 ≡ t = c.decreases in
    λ κs within. (by_rank _ _ _ _ _ _ _ _ _ _ _ e (omega arith) (omega arith) (omega arith) (omega arith), within)

pub read_leaf-read_list-requires : goal.read_leaf-read_list-requires
read_leaf-read_list-requires g t c =
    let e : work c.args.setting.now (value_size (kept_view c.args.value.now)) c.args.left 8 ≡ t = c.decreases in
    λ κs within. (by_rank _ _ _ _ _ _ _ _ _ _ _ e (omega arith) (omega arith) (omega arith) (omega arith), within)

pub read_leaf-read_list-requires-in-Set : goal.read_leaf-read_list-requires-in-Set
read_leaf-read_list-requires-in-Set g t c =
    let e : work c.args.setting.now (value_size (kept_view c.args.value.now)) c.args.left 8 ≡ t = c.decreases in
    λ κs within. (by_rank _ _ _ _ _ _ _ _ _ _ _ e (omega arith) (omega arith) (omega arith) (omega arith), within)

pub read_leaf-read_map-requires : goal.read_leaf-read_map-requires
read_leaf-read_map-requires g t c =
    let e : work c.args.setting.now (value_size (kept_view c.args.value.now)) c.args.left 8 ≡ t = c.decreases in
    λ κs within. (by_rank _ _ _ _ _ _ _ _ _ _ _ e (omega arith) (omega arith) (omega arith) (omega arith), within)

pub read_leaf-read_list-requires-in-Tuple : goal.read_leaf-read_list-requires-in-Tuple
read_leaf-read_list-requires-in-Tuple g t c =
    let e : work c.args.setting.now (value_size (kept_view c.args.value.now)) c.args.left 8 ≡ t = c.decreases in
    λ κs within. (by_rank _ _ _ _ _ _ _ _ _ _ _ e (omega arith) (omega arith) (omega arith) (omega arith), within)

pub read_leaf-read_list-requires-in-Array : goal.read_leaf-read_list-requires-in-Array
read_leaf-read_list-requires-in-Array g t c =
    let e : work c.args.setting.now (value_size (kept_view c.args.value.now)) c.args.left 8 ≡ t = c.decreases in
    λ κs within. (by_rank _ _ _ _ _ _ _ _ _ _ _ e (omega arith) (omega arith) (omega arith) (omega arith), within)

pub read_leaf-read_item-requires : goal.read_leaf-read_item-requires
read_leaf-read_item-requires g t c =
    let e : work c.args.setting.now (value_size (kept_view c.args.value.now)) c.args.left 8 ≡ t = c.decreases in
    λ κs within. (by_rank _ _ _ _ _ _ _ _ _ _ _ e (omega arith) (omega arith) (omega arith) (omega arith), within)

pub read_list-read_items-requires : goal.read_list-read_items-requires
read_list-read_items-requires g t c =
    let e : work c.args.setting.now (value_size (kept_view c.args.value.now)) 0 7 ≡ t = c.decreases in
    λ κs within. (by_value _ _ _ _ _ _ _ _ _ _ _ e (omega arith) (array_small c.args.value.now c.in-Array.values c.deref.result.now c.in-Array.is c.deref.ensures.value) (omega arith) (omega arith), within)

pub read_items-read_at_place-requires : goal.read_items-read_at_place-requires
read_items-read_at_place-requires g t c =
    let e : work c.args.setting.now (values_size (map kept_view c.args.values.now)) (items_in c.args.setting.now) 21 ≡ t = c.decreases in
    λ κs within. (by_rank _ _ _ _ _ _ _ _ _ _ _ e (omega arith) (item_small c.args.values.now c.loop-place.place c.index-values-place.result (values_size (map kept_view c.args.values.now)) (omega arith) c.index-values-place.is c.loop-place.invariant.small) (omega arith) (omega arith), within)

pub read_part-read_type-requires : goal.read_part-read_type-requires
read_part-read_type-requires g t c =
    let e : work c.args.setting.now (value_size (kept_view c.args.value.now)) (items_in c.args.setting.now) 10 ≡ t = c.decreases in
    λ κs within. (by_rank _ _ _ _ _ _ _ _ _ _ _ e (omega arith) (omega arith) (omega (arith, c.allowed-left.ensures)) (omega arith), within)

pub read_at_place-read_part-requires : goal.read_at_place-read_part-requires
read_at_place-read_part-requires g t c =
    let e : work c.args.setting.now (value_size (kept_view c.args.value.now)) (items_in c.args.setting.now) 18 ≡ t = c.decreases in
    λ κs within. (by_rank _ _ _ _ _ _ _ _ _ _ _ e (omega arith) (omega arith) (omega arith) (omega arith), within)

pub read_map-read_pairs-requires : goal.read_map-read_pairs-requires
read_map-read_pairs-requires g t c =
    let e : work c.args.setting.now (value_size (kept_view c.args.value.now)) 0 7 ≡ t = c.decreases in
    λ κs within. (by_value _ _ _ _ _ _ _ _ _ _ _ e (omega arith) (object_small c.args.value.now c.in-Object.object (entries_view c.deref.result.now) c.in-Object.is (ap entries_view c.deref.ensures.value ∙ c.in_ok-members-in-Object.ensures.answer)) (omega arith) (omega arith), within)

pub read_pairs-read_pair-requires : goal.read_pairs-read_pair-requires
read_pairs-read_pair-requires g t c =
    let e : work c.args.setting.now (entries_size (entries_view c.args.members.now)) (items_in c.args.setting.now) 23 ≡ t = c.decreases in
    λ κs within. (by_rank _ _ _ _ _ _ _ _ _ _ _ e (omega arith) (member_small c.args.members.now c.loop-at.at c.index-members-at.result (entries_size (entries_view c.args.members.now)) (omega arith) c.index-members-at.is c.loop-at.invariant.small) (omega arith) (omega arith), within)

pub read_pair-read_part-requires : goal.read_pair-read_part-requires
read_pair-read_part-requires g t c =
    let e : work c.args.setting.now (1 + value_size (entry_view c.args.member).1) (items_in c.args.setting.now) 22 ≡ t = c.decreases in
    λ κs within. (by_rank _ _ _ _ _ _ _ _ _ _ _ e (omega arith) (omega (arith, ap value_size c.in_ok-name.ensures.answer)) (omega arith) (omega arith), within)

pub read_pair-read_part-requires-in-Taken : goal.read_pair-read_part-requires-in-Taken
read_pair-read_part-requires-in-Taken g t c =
    let e : work c.args.setting.now (1 + value_size (entry_view c.args.member).1) (items_in c.args.setting.now) 22 ≡ t = c.decreases in
    λ κs within. (by_rank _ _ _ _ _ _ _ _ _ _ _ e (omega arith) (omega arith) (omega arith) (omega arith), within)

pub read_item-read_container-requires : goal.read_item-read_container-requires
read_item-read_container-requires g t c =
    let e : work c.args.setting.now (value_size (kept_view c.args.value.now)) c.args.left 7 ≡ t = first_of (assumption c.requires, cc) in
    λ κs within. (by_item _ _ _ _ _ _ _ _ _ _ _ e (omega arith) (omega arith) (omega (arith, c.if-left-eq0.false)) (omega arith), within)

pub read_container-read_body-requires : goal.read_container-read_body-requires
read_container-read_body-requires g t c =
    let e : work c.args.setting.now (value_size (kept_view c.args.value.now)) c.args.left 16 ≡ t = c.decreases in
    λ κs within. (by_rank _ _ _ _ _ _ _ _ _ _ _ e (omega arith) (omega arith) (omega arith) (omega arith), within)

pub read_body-read_struct-requires : goal.read_body-read_struct-requires
read_body-read_struct-requires g t c =
    let e : work c.args.setting.now (value_size (kept_view c.args.value.now)) c.args.left 15 ≡ t = c.decreases in
    λ κs within. (by_rank _ _ _ _ _ _ _ _ _ _ _ e (omega arith) (omega arith) (omega arith) (omega arith), within)

pub read_body-read_newtype-requires : goal.read_body-read_newtype-requires
read_body-read_newtype-requires g t c =
    let e : work c.args.setting.now (value_size (kept_view c.args.value.now)) c.args.left 15 ≡ t = c.decreases in
    λ κs within. (by_rank _ _ _ _ _ _ _ _ _ _ _ e (omega arith) (omega arith) (omega arith) (omega arith), within)

pub read_body-read_enum-requires : goal.read_body-read_enum-requires
read_body-read_enum-requires g t c =
    let e : work c.args.setting.now (value_size (kept_view c.args.value.now)) c.args.left 15 ≡ t = c.decreases in
    λ κs within. (by_rank _ _ _ _ _ _ _ _ _ _ _ e (omega arith) (omega arith) (omega arith) (omega arith), within)

pub read_newtype-read_type-requires : goal.read_newtype-read_type-requires
read_newtype-read_type-requires g t c =
    let e : work c.args.setting.now (value_size (kept_view c.args.value.now)) c.args.left 10 ≡ t = c.decreases in
    λ κs within. (by_rank _ _ _ _ _ _ _ _ _ _ _ e (omega arith) (omega arith) (omega arith) (omega arith), within)

pub read_enum-read_inside-requires : goal.read_enum-read_inside-requires
read_enum-read_inside-requires g t c =
    let e : work c.args.setting.now (value_size (kept_view c.args.value.now)) c.args.left 14 ≡ t = c.decreases in
    λ κs within. (by_value _ _ _ _ _ _ _ _ _ _ _ e (omega arith) (inside_small c.args.closed (tag_view c.args.tag.now) (variants_in c.args.variants.now) (kept_view c.args.value.now) c.in-Inside.found.place (variant_view c.in-Inside.found.variant.now) (entry_view c.in-Inside.member) (ap choice_view (sym c.in-Inside.is) ∙ c.in_ok-choice.ensures.answer)) (omega arith) (omega arith), within)

pub read_enum-read_members-requires : goal.read_enum-read_members-requires
read_enum-read_members-requires g t c =
    let e : work c.args.setting.now (value_size (kept_view c.args.value.now)) c.args.left 14 ≡ t = c.decreases in
    λ κs within. (by_value _ _ _ _ _ _ _ _ _ _ _ e (omega arith) (omega (arith, ap (λ ms. entries_size (entries_view ms)) c.deref.ensures.value, beside_small c.args.closed (tag_view c.args.tag.now) (variants_in c.args.variants.now) (kept_view c.args.value.now) c.in-Beside.place (fields_in c.in-Beside.fields.now) (entries_view c.in-Beside.members.items) (ap choice_view (sym c.in-Beside.is) ∙ c.in_ok-choice.ensures.answer))) (omega arith) (omega arith), within)

pub read_enum-read_untagged-requires : goal.read_enum-read_untagged-requires
read_enum-read_untagged-requires g t c =
    let e : work c.args.setting.now (value_size (kept_view c.args.value.now)) c.args.left 14 ≡ t = c.decreases in
    λ κs within. (by_rank _ _ _ _ _ _ _ _ _ _ _ e (omega arith) (omega arith) (omega arith) (omega arith), within)

pub read_inside-read_content-requires : goal.read_inside-read_content-requires
read_inside-read_content-requires g t c =
    let e : work c.args.setting.now (value_size (entry_view c.args.member).1) (items_in c.args.setting.now) 13 ≡ t = c.decreases in
    λ κs within. (by_rank _ _ _ _ _ _ _ _ _ _ _ e (omega arith) (omega arith) (omega (arith, c.allowed-left.ensures)) (omega arith), within)

pub read_content-read_struct-requires : goal.read_content-read_struct-requires
read_content-read_struct-requires g t c =
    let e : work c.args.setting.now (value_size (kept_view c.args.value.now)) c.args.left 11 ≡ t = c.decreases in
    λ κs within. (by_rank _ _ _ _ _ _ _ _ _ _ _ e (omega arith) (omega arith) (omega arith) (omega arith), within)

pub read_content-read_list-requires : goal.read_content-read_list-requires
read_content-read_list-requires g t c =
    let e : work c.args.setting.now (value_size (kept_view c.args.value.now)) c.args.left 11 ≡ t = c.decreases in
    λ κs within. (by_rank _ _ _ _ _ _ _ _ _ _ _ e (omega arith) (omega arith) (omega arith) (omega arith), within)

pub read_content-read_only-requires : goal.read_content-read_only-requires
read_content-read_only-requires g t c =
    let e : work c.args.setting.now (value_size (kept_view c.args.value.now)) c.args.left 11 ≡ t = c.decreases in
    λ κs within. (by_rank _ _ _ _ _ _ _ _ _ _ _ e (omega arith) (omega arith) (omega arith) (omega arith), within)

pub read_only-read_type-requires : goal.read_only-read_type-requires
read_only-read_type-requires g t c =
    let e : work c.args.setting.now (value_size (kept_view c.args.value.now)) c.args.left 10 ≡ t = c.decreases in
    λ κs within. (by_rank _ _ _ _ _ _ _ _ _ _ _ e (omega arith) (omega arith) (omega arith) (omega arith), within)

pub read_untagged-read_variant-requires : goal.read_untagged-read_variant-requires
read_untagged-read_variant-requires g t c =
    let e : work c.args.setting.now (value_size (kept_view c.args.value.now)) c.args.left 13 ≡ t = c.decreases in
    λ κs within. (by_rank _ _ _ _ _ _ _ _ _ _ _ e (omega arith) (omega arith) (omega arith) (omega arith), within)

pub read_variant-read_content-requires : goal.read_variant-read_content-requires
read_variant-read_content-requires g t c =
    let e : work c.args.setting.now (value_size (kept_view c.args.value.now)) c.args.left 12 ≡ t = c.decreases in
    λ κs within. (by_rank _ _ _ _ _ _ _ _ _ _ _ e (omega arith) (omega arith) (omega arith) (omega arith), within)

pub read_struct-read_members-requires : goal.read_struct-read_members-requires
read_struct-read_members-requires g t c =
    let e : work c.args.setting.now (value_size (kept_view c.args.value.now)) 0 7 ≡ t = c.decreases in
    λ κs within. (by_value _ _ _ _ _ _ _ _ _ _ _ e (omega arith) (object_small c.args.value.now c.in-Object.object (entries_view c.deref.result.now) c.in-Object.is (ap entries_view c.deref.ensures.value ∙ c.in_ok-members-in-Object.ensures.answer)) (omega arith) (omega arith), within)

pub read_members-read_fields-requires : goal.read_members-read_fields-requires
read_members-read_fields-requires g t c =
    let e : work c.args.setting.now (entries_size (entries_view c.args.members.now)) (items_in c.args.setting.now) 27 ≡ t = c.decreases in
    λ κs within. (by_rank _ _ _ _ _ _ _ _ _ _ _ e (omega arith) (omega (arith, ap entries_size c.in_ok-sorted.ensures.members)) (omega arith) (omega arith), (within, c.in_ok-sorted.ensures.sorted))

pub read_fields-read_field-requires : goal.read_fields-read_field-requires
read_fields-read_field-requires g t c =
    let e : work c.args.setting.now (entries_size (sorted_entries c.args.sorted.now)) (items_in c.args.setting.now) 26 ≡ t = c.decreases in
    λ κs within. (by_rank _ _ _ _ _ _ _ _ _ _ _ e (omega arith) (omega arith) (omega arith) (omega arith), (within, (omega (arith, fields_there c.args.sorted.now c.fields-field-items.result.now c.fields-field-items.ensures), c.requires)))

pub read_field-read_rest-requires : goal.read_field-read_rest-requires
read_field-read_rest-requires g t c =
    let e : work c.args.setting.now (entries_size (sorted_entries c.args.sorted.now)) (items_in c.args.setting.now) 25 ≡ t = c.decreases in
    λ κs within. (by_rank _ _ _ _ _ _ _ _ _ _ _ e (omega arith) c.unnamed.ensures.small (omega arith) (omega arith), within)

pub read_field-read_missing-requires : goal.read_field-read_missing-requires
read_field-read_missing-requires g t c =
    let e : work c.args.setting.now (entries_size (sorted_entries c.args.sorted.now)) (items_in c.args.setting.now) 25 ≡ t = c.decreases in
    λ κs within. (by_rank _ _ _ _ _ _ _ _ _ _ _ e (omega arith) (omega arith) (omega arith) (omega arith), within)

pub read_field-read_present-requires : goal.read_field-read_present-requires
read_field-read_present-requires g t c =
    let e : work c.args.setting.now (entries_size (sorted_entries c.args.sorted.now)) (items_in c.args.setting.now) 25 ≡ t = c.decreases in
    λ κs within. (by_rank _ _ _ _ _ _ _ _ _ _ _ e (omega arith) (omega (arith, ap (λ q. entries_size (slot_view q)) c.in-One.is, c.slot.ensures.small)) (omega arith) (omega arith), within)

pub read_rest-read_pairs-requires : goal.read_rest-read_pairs-requires
read_rest-read_pairs-requires g t c =
    let e : work c.args.setting.now (entries_size (entries_view c.args.members.now)) (items_in c.args.setting.now) 24 ≡ t = c.decreases in
    λ κs within. (by_rank _ _ _ _ _ _ _ _ _ _ _ e (omega arith) (omega arith) (omega arith) (omega arith), within)

pub read_present-read_helped-requires : goal.read_present-read_helped-requires
read_present-read_helped-requires g t c =
    let e : work c.args.setting.now (1 + value_size (entry_view c.args.member).1) (items_in c.args.setting.now) 24 ≡ t = c.decreases in
    λ κs within. (by_rank _ _ _ _ _ _ _ _ _ _ _ e (omega arith) (omega arith) (omega arith) (omega arith), within)

pub read_helped-read_inner-requires : goal.read_helped-read_inner-requires
read_helped-read_inner-requires g t c =
    let e : work c.args.setting.now (value_size (kept_view c.args.value.now)) (items_in c.args.setting.now) 20 ≡ t = c.decreases in
    λ κs within. (by_rank _ _ _ _ _ _ _ _ _ _ _ e (omega arith) (omega arith) (omega arith) (omega arith), within)

pub read_helped-read_part-requires : goal.read_helped-read_part-requires
read_helped-read_part-requires g t c =
    let e : work c.args.setting.now (value_size (kept_view c.args.value.now)) (items_in c.args.setting.now) 20 ≡ t = c.decreases in
    λ κs within. (by_rank _ _ _ _ _ _ _ _ _ _ _ e (omega arith) (omega arith) (omega arith) (omega arith), within)

pub read_inner-read_part-requires : goal.read_inner-read_part-requires
read_inner-read_part-requires g t c =
    let e : work c.args.setting.now (value_size (kept_view c.args.value.now)) (items_in c.args.setting.now) 19 ≡ t = c.decreases in
    λ κs within. (by_rank _ _ _ _ _ _ _ _ _ _ _ e (omega arith) (omega arith) (omega arith) (omega arith), within)

pub read_missing-read_default-requires : goal.read_missing-read_default-requires
read_missing-read_default-requires g t c =
    let e : work c.args.setting.now 0 0 20 ≡ t = c.decreases in
    λ κs within. (by_rank _ _ _ _ _ _ _ _ _ _ _ e (omega arith) (omega arith) (omega arith) (omega arith), within)

pub read_default-read_stated-requires : goal.read_default-read_stated-requires
read_default-read_stated-requires g t c =
    let e : work c.args.setting.now 0 0 19 ≡ t = c.decreases in
    λ κs within. (by_default _ _ _ _ _ _ _ _ _ _ _ e (omega (arith, c.if-setting-eq0.false)) (omega arith) (omega arith) (omega arith), within)

pub read_stated-read_part-requires : goal.read_stated-read_part-requires
read_stated-read_part-requires g t c =
    let e : work c.args.setting.now (sizes_in c.args.setting.now) (items_in c.args.setting.now) 30 ≡ t = c.decreases in
    λ κs within. (by_rank _ _ _ _ _ _ _ _ _ _ _ e (omega arith) (default_small (conversions_view c.args.setting.now.conversions.now).defaults c.args.place (kept_view c.in-Some.value.now) c.in-Some.ensures) (omega arith) (omega arith), within)

pub read_stated-read_part-requires-in-None : goal.read_stated-read_part-requires-in-None
read_stated-read_part-requires-in-None g t c =
    let e : work c.args.setting.now (sizes_in c.args.setting.now) (items_in c.args.setting.now) 30 ≡ t = c.decreases in
    λ κs within. (by_rank _ _ _ _ _ _ _ _ _ _ _ e (omega arith) (omega (arith, some_size (conversions_view c.args.setting.now.conversions.now).defaults, ap value_size view-Null)) (omega arith) (omega arith), within)

-- ---- the items of a list

pub read_items-loop-place-init : goal.read_items-loop-place-init
read_items-loop-place-init g t c =
    let s = setting_view c.args.setting.now (g.T.Texts.relations c.args.texts.now) in
    let whole = demanded_from s (demand_view c.args.demand) 0 (map kept_view c.args.values.now) in record {
      read = begun whole ∙ ap (λ xs. prefixed (typeds_view xs) whole) (sym c.new-taken.ensures.items);
      small = omega arith;
      keeps = refl;
      counts = omega arith;
    }

pub read_items-loop-place-preserved : goal.read_items-loop-place-preserved
read_items-loop-place-preserved g t c =
    let r = g.T.Texts.relations c.args.texts.now in
    let s = setting_view c.args.setting.now r in
    let d = demand_view c.args.demand in
    let vs = c.args.values.now in
    let i = c.loop-place.place in
    let v = c.index-values-place.result in
    let u = type_view c.in-Some.ty.now in
    let old = c.loop-place.taken.items in
    let there : i < length vs = omega arith in
    let step = item_step s d vs i u v there c.index-values-place.is c.in-Some.ensures in
    let said = ap one_view (sym c.in-Taken.is) ∙ c.in_ok-read.ensures.answer ∙ ap (λ q. place_at (setting_view c.args.setting.now q) i u (kept_view v)) c.loop-place.invariant.keeps in
    let more = typeds_more old c.push_typed.new.values.items c.in-Taken.typed c.in_ok-push_typed-in-Taken.ensures.answer in record {
      read = turn (demanded_from s d 0 (map kept_view vs)) (demanded_from s d i (map kept_view (drop i vs))) (demanded_from s d (i + 1) (map kept_view (drop (i + 1) vs))) (place_at s i u (kept_view v))
          (typeds_view old) (typeds_view c.push_typed.new.values.items) (typed_view c.in-Taken.typed) c.loop-place.invariant.read step said more;
      small = rest_small vs i v (values_size (map kept_view vs)) there c.index-values-place.is c.loop-place.invariant.small;
      keeps = c.in_ok-read.ensures.keeps ∙ c.loop-place.invariant.keeps;
      counts = omega (arith, c.in_ok-read.ensures.counts, c.loop-place.invariant.counts);
    }

pub read_items-returns-in-Refused-clause-answer : goal.read_items-returns-in-Refused-clause-answer
read_items-returns-in-Refused-clause-answer g t c =
    let r = g.T.Texts.relations c.args.texts.now in
    let s = setting_view c.args.setting.now r in
    let d = demand_view c.args.demand in
    let vs = c.args.values.now in
    let i = c.loop-place.place in
    let v = c.index-values-place.result in
    let u = type_view c.in-Some.ty.now in
    let there : i < length vs = omega arith in
    let step = item_step s d vs i u v there c.index-values-place.is c.in-Some.ensures in
    let said = ap one_view (sym c.in-Refused.is) ∙ c.in_ok-read.ensures.answer ∙ ap (λ q. place_at (setting_view c.args.setting.now q) i u (kept_view v)) c.loop-place.invariant.keeps in
    stop (demanded_from s d 0 (map kept_view vs)) (demanded_from s d i (map kept_view (drop i vs))) (demanded_from s d (i + 1) (map kept_view (drop (i + 1) vs))) (place_at s i u (kept_view v))
    (typeds_view c.loop-place.taken.items) c.in-Refused.path c.loop-place.invariant.read step said

pub read_items-returns-in-Unsound-clause-answer : goal.read_items-returns-in-Unsound-clause-answer
read_items-returns-in-Unsound-clause-answer g t c =
    let r = g.T.Texts.relations c.args.texts.now in
    let s = setting_view c.args.setting.now r in
    let d = demand_view c.args.demand in
    let vs = c.args.values.now in
    let i = c.loop-place.place in
    let v = c.index-values-place.result in
    let u = type_view c.in-Some.ty.now in
    let there : i < length vs = omega arith in
    let step = item_step s d vs i u v there c.index-values-place.is c.in-Some.ensures in
    let said = ap one_view (sym c.in-Unsound.is) ∙ c.in_ok-read.ensures.answer ∙ ap (λ q. place_at (setting_view c.args.setting.now q) i u (kept_view v)) c.loop-place.invariant.keeps in
    halt (demanded_from s d 0 (map kept_view vs)) (demanded_from s d i (map kept_view (drop i vs))) (demanded_from s d (i + 1) (map kept_view (drop (i + 1) vs))) (place_at s i u (kept_view v))
    (typeds_view c.loop-place.taken.items) c.loop-place.invariant.read step said

pub read_items-returns-in_default-clause-answer : goal.read_items-returns-in_default-clause-answer
read_items-returns-in_default-clause-answer g t c =
    let s = setting_view c.args.setting.now (g.T.Texts.relations c.args.texts.now) in
    let d = demand_view c.args.demand in
    let vs = c.args.values.now in
    let i = c.loop-place.place in
    finish (demanded_from s d 0 (map kept_view vs)) (demanded_from s d i (map kept_view (drop i vs))) (typeds_view c.loop-place.taken.items) c.loop-place.invariant.read
    (item_unasked s d (map kept_view (drop i vs)) i c.in_default.ensures)

pub read_items-returns-clause-answer : goal.read_items-returns-clause-answer
read_items-returns-clause-answer g t c =
    let s = setting_view c.args.setting.now (g.T.Texts.relations c.args.texts.now) in
    let d = demand_view c.args.demand in
    let vs = c.args.values.now in
    let i = c.loop-place.place in
    finish (demanded_from s d 0 (map kept_view vs)) (demanded_from s d i (map kept_view (drop i vs))) (typeds_view c.loop-place.taken.items) c.loop-place.invariant.read
    (items_end s d vs i (omega arith))

-- ---- the members of a map

pub read_pairs-loop-at-init : goal.read_pairs-loop-at-init
read_pairs-loop-at-init g t c =
    let s = setting_view c.args.setting.now (g.T.Texts.relations c.args.texts.now) in
    let whole = pairs_at s (type_view c.args.key.now) (type_view c.args.held.now) (entries_view c.args.members.now) in record {
      read = begun whole ∙ ap (λ xs. prefixed (pairs_view xs) whole) (sym c.new-taken.ensures.items);
      small = omega arith;
      keeps = refl;
      counts = omega arith;
    }

pub read_pairs-loop-at-preserved : goal.read_pairs-loop-at-preserved
read_pairs-loop-at-preserved g t c =
    let ms = c.args.members.now in
    let there : c.loop-at.at < length ms = omega arith in record {
      read = pairs_turn c.args.setting.now (g.T.Texts.relations c.args.texts.now) (g.T.Texts.relations c.loop-at.texts) (type_view c.args.key.now) (type_view c.args.held.now) ms c.loop-at.at c.index-members-at.result c.in_ok-read.read c.loop-at.taken.items
          there c.index-members-at.is c.loop-at.invariant.keeps c.loop-at.invariant.read c.in_ok-read.ensures.answer c.push_pair.new.found.items c.in-Taken.pair c.in-Taken.is c.in_ok-push_pair-in-Taken.ensures.answer;
      small = members_small ms c.loop-at.at (entries_size (entries_view ms)) c.loop-at.invariant.small;
      keeps = c.in_ok-read.ensures.keeps ∙ c.loop-at.invariant.keeps;
      counts = omega (arith, c.in_ok-read.ensures.counts, c.loop-at.invariant.counts);
    }

pub read_pairs-returns-in-Refused-clause-answer : goal.read_pairs-returns-in-Refused-clause-answer
read_pairs-returns-in-Refused-clause-answer g t c =
    pairs_stop c.args.setting.now (g.T.Texts.relations c.args.texts.now) (g.T.Texts.relations c.loop-at.texts) (type_view c.args.key.now) (type_view c.args.held.now) c.args.members.now c.loop-at.at c.index-members-at.result c.in_ok-read.read c.loop-at.taken.items
    (omega arith) c.index-members-at.is c.loop-at.invariant.keeps c.loop-at.invariant.read c.in_ok-read.ensures.answer c.in-Refused.path c.in-Refused.is

pub read_pairs-returns-in-Unsound-clause-answer : goal.read_pairs-returns-in-Unsound-clause-answer
read_pairs-returns-in-Unsound-clause-answer g t c =
    pairs_halt c.args.setting.now (g.T.Texts.relations c.args.texts.now) (g.T.Texts.relations c.loop-at.texts) (type_view c.args.key.now) (type_view c.args.held.now) c.args.members.now c.loop-at.at c.index-members-at.result c.in_ok-read.read c.loop-at.taken.items
    (omega arith) c.index-members-at.is c.loop-at.invariant.keeps c.loop-at.invariant.read c.in_ok-read.ensures.answer c.in-Unsound.is

pub read_pairs-returns-clause-answer : goal.read_pairs-returns-clause-answer
read_pairs-returns-clause-answer g t c =
    let s = setting_view c.args.setting.now (g.T.Texts.relations c.args.texts.now) in
    let k = type_view c.args.key.now in
    let u = type_view c.args.held.now in
    let ms = c.args.members.now in
    let i = c.loop-at.at in
    finish (pairs_at s k u (entries_view ms)) (pairs_at s k u (entries_view (drop i ms))) (pairs_view c.loop-at.taken.items) c.loop-at.invariant.read (pairs_end s k u ms i (omega arith))

-- ---- a member of a map

pub read_pair-returns-in-Taken-clause-answer : goal.read_pair-returns-in-Taken-clause-answer
read_pair-returns-in-Taken-clause-answer g t c =
    let r = g.T.Texts.relations c.args.texts.now in
    let s = setting_view c.args.setting.now r in
    let k = type_view c.args.key.now in
    let u = type_view c.args.held.now in
    let e = entry_view c.args.member in
    let first = ap one_view (sym c.in-Taken.is) ∙ c.in_ok-read.ensures.answer ∙ ap (part_at s k) c.in_ok-name.ensures.answer in
    let second = c.in_ok-second-in-Taken.ensures.answer ∙ ap (λ q. part_at (setting_view c.args.setting.now q) u e.1) c.in_ok-read.ensures.keeps in
    pair_taken s k u e (typed_view c.in-Taken.first) (one_view c.in_ok-second-in-Taken.second) (pair_view c.in_ok-pair-in-Taken.pair) first second c.in_ok-pair-in-Taken.ensures.answer

pub read_pair-returns-in-Refused-clause-answer : goal.read_pair-returns-in-Refused-clause-answer
read_pair-returns-in-Refused-clause-answer g t c =
    let s = setting_view c.args.setting.now (g.T.Texts.relations c.args.texts.now) in
    let k = type_view c.args.key.now in
    let u = type_view c.args.held.now in
    let e = entry_view c.args.member in
    pair_stopped s k u e c.in-Refused.field-0 (pair_view c.in_ok-refused-in-Refused.refused) (ap one_view (sym c.in-Refused.is) ∙ c.in_ok-read.ensures.answer ∙ ap (part_at s k) c.in_ok-name.ensures.answer) c.in_ok-refused-in-Refused.ensures.answer

pub read_pair-returns-clause-answer : goal.read_pair-returns-clause-answer
read_pair-returns-clause-answer g t c =
    let s = setting_view c.args.setting.now (g.T.Texts.relations c.args.texts.now) in
    let k = type_view c.args.key.now in
    let u = type_view c.args.held.now in
    let e = entry_view c.args.member in
    pair_unsound s k u e (ap one_view (sym c.in-Unsound.is) ∙ c.in_ok-read.ensures.answer ∙ ap (part_at s k) c.in_ok-name.ensures.answer)

-- ---- a container

pub read_container-returns-clause-answer : goal.read_container-returns-clause-answer
read_container-returns-clause-answer g t c =
    let s = setting_view c.args.setting.now (g.T.Texts.relations c.args.texts.now) in
    let m = container_view c.args.container.now in
    let v = kept_view c.args.value.now in
    let holds = c.in_ok-holds.ensures.answer ∙ ap (λ q. not m.try_from || given_rule_agrees q v (rule_of m.name (conversions_view c.args.setting.now.conversions.now).constraints)) c.in_ok-read.ensures.keeps in
    c.kept_if.ensures ∙ (λ i. kept_if (holds i) (c.in_ok-read.ensures.answer i))

-- ---- variants in turn

pub read_untagged-loop-place-preserved : goal.read_untagged-loop-place-preserved
read_untagged-loop-place-preserved g t c =
    let s = setting_view c.args.setting.now (g.T.Texts.relations c.args.texts.now) in
    let k = c.args.left in
    let b = c.args.closed in
    let ws = c.args.variants.now in
    let v = kept_view c.args.value.now in
    let i = c.loop-place.place in
    let w = c.index-variants-place.result in
    let there : i < length ws = omega arith in
    let said = ap one_view (sym c.in-Refused.is) ∙ c.in_ok-read.ensures.answer ∙ ap (λ q. variant_at (setting_view c.args.setting.now q) k b c.in_ok-short.short (variant_view w) v) c.loop-place.invariant.keeps
    ∙ ap (λ j. variant_at s k b j (variant_view w) v) c.in_ok-short.ensures.answer in record {
      read = c.loop-place.invariant.read ∙ variant_step s k b ws i w v there c.index-variants-place.is ∙ ap (λ q. or_next q (untagged_at s k b (i + 1) (variants_view (drop (i + 1) ws)) v)) (sym said);
      keeps = c.in_ok-read.ensures.keeps ∙ c.loop-place.invariant.keeps;
      counts = omega (arith, c.in_ok-read.ensures.counts, c.loop-place.invariant.counts);
    }

pub read_untagged-returns-in-Taken-clause-answer : goal.read_untagged-returns-in-Taken-clause-answer
read_untagged-returns-in-Taken-clause-answer g t c =
    let s = setting_view c.args.setting.now (g.T.Texts.relations c.args.texts.now) in
    let k = c.args.left in
    let b = c.args.closed in
    let ws = c.args.variants.now in
    let v = kept_view c.args.value.now in
    let i = c.loop-place.place in
    let w = c.index-variants-place.result in
    let there : i < length ws = omega arith in
    let said = ap one_view (sym c.in-Taken.is) ∙ c.in_ok-read.ensures.answer ∙ ap (λ q. variant_at (setting_view c.args.setting.now q) k b c.in_ok-short.short (variant_view w) v) c.loop-place.invariant.keeps
    ∙ ap (λ j. variant_at s k b j (variant_view w) v) c.in_ok-short.ensures.answer in
    sym (c.loop-place.invariant.read ∙ variant_step s k b ws i w v there c.index-variants-place.is ∙ ap (λ q. or_next q (untagged_at s k b (i + 1) (variants_view (drop (i + 1) ws)) v)) (sym said))

pub read_untagged-returns-in-Unsound-clause-answer : goal.read_untagged-returns-in-Unsound-clause-answer
read_untagged-returns-in-Unsound-clause-answer g t c =
    let s = setting_view c.args.setting.now (g.T.Texts.relations c.args.texts.now) in
    let k = c.args.left in
    let b = c.args.closed in
    let ws = c.args.variants.now in
    let v = kept_view c.args.value.now in
    let i = c.loop-place.place in
    let w = c.index-variants-place.result in
    let there : i < length ws = omega arith in
    let said = ap one_view (sym c.in-Unsound.is) ∙ c.in_ok-read.ensures.answer ∙ ap (λ q. variant_at (setting_view c.args.setting.now q) k b c.in_ok-short.short (variant_view w) v) c.loop-place.invariant.keeps
    ∙ ap (λ j. variant_at s k b j (variant_view w) v) c.in_ok-short.ensures.answer in
    sym (c.loop-place.invariant.read ∙ variant_step s k b ws i w v there c.index-variants-place.is ∙ ap (λ q. or_next q (untagged_at s k b (i + 1) (variants_view (drop (i + 1) ws)) v)) (sym said))

pub read_untagged-returns-clause-answer : goal.read_untagged-returns-clause-answer
read_untagged-returns-clause-answer g t c =
    let s = setting_view c.args.setting.now (g.T.Texts.relations c.args.texts.now) in
    c.refused_here.ensures ∙ variants_end s c.args.left c.args.closed c.args.variants.now c.loop-place.place (kept_view c.args.value.now) (omega arith) ∙ sym c.loop-place.invariant.read

-- ---- the fields

pub read_fields-loop-place-init : goal.read_fields-loop-place-init
read_fields-loop-place-init g t c =
    let s = setting_view c.args.setting.now (g.T.Texts.relations c.args.texts.now) in
    let z = c.args.sorted.now in
    let whole = fields_from s (λ i. entries_at i (sorted_names z) (sorted_entries z)) (entries_without_place (sorted_names z) (sorted_entries z)) 0 (fields_in z.fields.now) in record {
      read = begun whole ∙ ap (λ xs. prefixed (typeds_view xs) whole) (sym c.new-taken.ensures.items);
      keeps = refl;
      counts = omega arith;
    }

pub read_fields-loop-place-preserved : goal.read_fields-loop-place-preserved
read_fields-loop-place-preserved g t c =
    let s = setting_view c.args.setting.now (g.T.Texts.relations c.args.texts.now) in
    let z = c.args.sorted.now in
    let own = λ (j : ℕ). entries_at j (sorted_names z) (sorted_entries z) in
    let un = entries_without_place (sorted_names z) (sorted_entries z) in
    let fs = fields_in z.fields.now in
    let xs = c.fields-field-items.result.now in
    let i = c.loop-place.place in
    let x = c.field-item.result in
    let old = c.loop-place.taken.items in
    let there : i < length xs = omega arith in
    let said = ap one_view (sym c.in-Taken.is) ∙ c.in_ok-read.ensures.answer ∙ ap (λ q. field_at (setting_view c.args.setting.now q) (field_view x) un (own i)) c.loop-place.invariant.keeps in
    let more = typeds_more old c.push_typed.new.values.items c.in-Taken.typed c.in_ok-push_typed-in-Taken.ensures.answer in record {
      read = turn (fields_from s own un 0 fs) (fields_from s own un i (drop i fs)) (fields_from s own un (i + 1) (drop (i + 1) fs)) (field_at s (field_view x) un (own i))
          (typeds_view old) (typeds_view c.push_typed.new.values.items) (typed_view c.in-Taken.typed) c.loop-place.invariant.read (field_step s own un fs xs i x c.fields-field-items.ensures there c.field-item.is) said more;
      keeps = c.in_ok-read.ensures.keeps ∙ c.loop-place.invariant.keeps;
      counts = omega (arith, c.in_ok-read.ensures.counts, c.loop-place.invariant.counts);
    }

pub read_fields-returns-in-Refused-clause-answer : goal.read_fields-returns-in-Refused-clause-answer
read_fields-returns-in-Refused-clause-answer g t c =
    let s = setting_view c.args.setting.now (g.T.Texts.relations c.args.texts.now) in
    let z = c.args.sorted.now in
    let own = λ (j : ℕ). entries_at j (sorted_names z) (sorted_entries z) in
    let un = entries_without_place (sorted_names z) (sorted_entries z) in
    let fs = fields_in z.fields.now in
    let xs = c.fields-field-items.result.now in
    let i = c.loop-place.place in
    let x = c.field-item.result in
    let there : i < length xs = omega arith in
    let said = ap one_view (sym c.in-Refused.is) ∙ c.in_ok-read.ensures.answer ∙ ap (λ q. field_at (setting_view c.args.setting.now q) (field_view x) un (own i)) c.loop-place.invariant.keeps in
    stop (fields_from s own un 0 fs) (fields_from s own un i (drop i fs)) (fields_from s own un (i + 1) (drop (i + 1) fs)) (field_at s (field_view x) un (own i))
    (typeds_view c.loop-place.taken.items) c.in-Refused.path c.loop-place.invariant.read (field_step s own un fs xs i x c.fields-field-items.ensures there c.field-item.is) said

pub read_fields-returns-in-Unsound-clause-answer : goal.read_fields-returns-in-Unsound-clause-answer
read_fields-returns-in-Unsound-clause-answer g t c =
    let s = setting_view c.args.setting.now (g.T.Texts.relations c.args.texts.now) in
    let z = c.args.sorted.now in
    let own = λ (j : ℕ). entries_at j (sorted_names z) (sorted_entries z) in
    let un = entries_without_place (sorted_names z) (sorted_entries z) in
    let fs = fields_in z.fields.now in
    let xs = c.fields-field-items.result.now in
    let i = c.loop-place.place in
    let x = c.field-item.result in
    let there : i < length xs = omega arith in
    let said = ap one_view (sym c.in-Unsound.is) ∙ c.in_ok-read.ensures.answer ∙ ap (λ q. field_at (setting_view c.args.setting.now q) (field_view x) un (own i)) c.loop-place.invariant.keeps in
    halt (fields_from s own un 0 fs) (fields_from s own un i (drop i fs)) (fields_from s own un (i + 1) (drop (i + 1) fs)) (field_at s (field_view x) un (own i))
    (typeds_view c.loop-place.taken.items) c.loop-place.invariant.read (field_step s own un fs xs i x c.fields-field-items.ensures there c.field-item.is) said

pub read_fields-returns-clause-answer : goal.read_fields-returns-clause-answer
read_fields-returns-clause-answer g t c =
    let s = setting_view c.args.setting.now (g.T.Texts.relations c.args.texts.now) in
    let z = c.args.sorted.now in
    let own = λ (j : ℕ). entries_at j (sorted_names z) (sorted_entries z) in
    let un = entries_without_place (sorted_names z) (sorted_entries z) in
    let fs = fields_in z.fields.now in
    let i = c.loop-place.place in
    finish (fields_from s own un 0 fs) (fields_from s own un i (drop i fs)) (typeds_view c.loop-place.taken.items) c.loop-place.invariant.read (fields_end s own un fs c.fields-field-items.result.now i c.fields-field-items.ensures (omega arith))

pub read_part-returns-clause-answer : goal.read_part-returns-clause-answer
read_part-returns-clause-answer g t c =
    let s = setting_view c.args.setting.now (g.T.Texts.relations c.args.texts.now) in
    part_here s c.allowed-left.result (type_view c.args.ty.now) (kept_view c.args.value.now) (one_view c.in_ok-read.read) c.allowed-left.ensures c.in_ok-read.ensures.answer

pub read_type-returns-then-is_absent-clause-answer : goal.read_type-returns-then-is_absent-clause-answer
read_type-returns-then-is_absent-clause-answer g t c =
    let s = setting_view c.args.setting.now (g.T.Texts.relations c.args.texts.now) in
    ap taken none_seen ∙ absent_level s c.args.left (type_view c.args.ty.now) (kept_view c.args.value.now) c.is_absent.result c.is_absent.ensures c.if-is_absent.true

pub read_type-returns-clause-answer : goal.read_type-returns-clause-answer
read_type-returns-clause-answer g t c =
    let s = setting_view c.args.setting.now (g.T.Texts.relations c.args.texts.now) in
    present_level s c.args.left (type_view c.args.ty.now) (type_view c.leaf_of.result.now) (kept_view c.args.value.now) c.is_absent.result (one_view c.in_ok-read.read) (one_view c.in_ok-whole.whole)
    c.is_absent.ensures c.if-is_absent.false c.leaf_of.ensures c.in_ok-read.ensures.answer c.in_ok-whole.ensures.answer

pub read_leaf-returns-in_ok-read-in-Tuple-clause-answer : goal.read_leaf-returns-in_ok-read-in-Tuple-clause-answer
read_leaf-returns-in_ok-read-in-Tuple-clause-answer g t c =
    let s = setting_view c.args.setting.now (g.T.Texts.relations c.args.texts.now) in
    tuple_level s c.args.left c.args.ty.now c.in-Tuple.types c.deref-in-Tuple.result.now c.length_of.result (kept_view c.args.value.now) (several_view c.in_ok-read-in-Tuple.read) (one_view c.as_list-in-Tuple.result)
    c.in-Tuple.is c.deref-in-Tuple.ensures.value c.length_of.ensures c.in_ok-read-in-Tuple.ensures.answer c.as_list-in-Tuple.ensures

pub read_at_place-returns-clause-answer : goal.read_at_place-returns-clause-answer
read_at_place-returns-clause-answer g t c = c.in_ok-placed.ensures.answer ∙ ap (under (place c.args.place)) c.in_ok-read.ensures.answer

pub read_map-returns-in_ok-read-in-Object-clause-answer : goal.read_map-returns-in_ok-read-in-Object-clause-answer
read_map-returns-in_ok-read-in-Object-clause-answer g t c =
    let s = setting_view c.args.setting.now (g.T.Texts.relations c.args.texts.now) in
    object_level s (type_view c.args.key.now) (type_view c.args.held.now) c.args.value.now c.in-Object.object (entries_view c.deref.result.now) (pairs_read_view c.in_ok-read-in-Object.read)
    c.in-Object.is (ap entries_view c.deref.ensures.value ∙ c.in_ok-members-in-Object.ensures.answer) c.in_ok-read-in-Object.ensures.answer

pub read_item-returns-then-left-eq0-clause-answer : goal.read_item-returns-then-left-eq0-clause-answer
read_item-returns-then-left-eq0-clause-answer g t c =
    let s = setting_view c.args.setting.now (g.T.Texts.relations c.args.texts.now) in
    c.refused_here.ensures ∙ items_spent s c.args.left c.args.name.now (kept_view c.args.value.now) c.if-left-eq0.true

pub read_item-returns-in_ok-read-in-Some-clause-answer : goal.read_item-returns-in_ok-read-in-Some-clause-answer
read_item-returns-in_ok-read-in-Some-clause-answer g t c =
    let s = setting_view c.args.setting.now (g.T.Texts.relations c.args.texts.now) in
    item_there s c.args.left c.args.name.now (kept_view c.args.value.now) (container_view c.in-Some.container.now) (one_view c.in_ok-read-in-Some.read)
    c.if-left-eq0.false c.in-Some.ensures c.in_ok-read-in-Some.ensures.answer

pub read_item-returns-in-None-clause-answer : goal.read_item-returns-in-None-clause-answer
read_item-returns-in-None-clause-answer g t c =
    let s = setting_view c.args.setting.now (g.T.Texts.relations c.args.texts.now) in
    c.refused_here-in-None.ensures ∙ item_nowhere s c.args.left c.args.name.now (kept_view c.args.value.now) c.if-left-eq0.false c.in-None.ensures

pub read_enum-returns-in-Settled-clause-answer : goal.read_enum-returns-in-Settled-clause-answer
read_enum-returns-in-Settled-clause-answer g t c =
    let s = setting_view c.args.setting.now (g.T.Texts.relations c.args.texts.now) in
    settled_enum s c.args.left c.args.closed (kept_view c.args.value.now) (tag_view c.args.tag.now) (variants_in c.args.variants.now) (one_view c.in-Settled.read)
    (ap choice_view (sym c.in-Settled.is) ∙ c.in_ok-choice.ensures.answer)

pub read_enum-returns-in_ok-read-in-Inside-clause-answer : goal.read_enum-returns-in_ok-read-in-Inside-clause-answer
read_enum-returns-in_ok-read-in-Inside-clause-answer g t c =
    let s = setting_view c.args.setting.now (g.T.Texts.relations c.args.texts.now) in
    inside_enum s c.args.left c.args.closed (kept_view c.args.value.now) (tag_view c.args.tag.now) (variants_in c.args.variants.now) c.in-Inside.found.place (variant_view c.in-Inside.found.variant.now) (entry_view c.in-Inside.member)
    (one_view c.in_ok-read-in-Inside.read) (ap choice_view (sym c.in-Inside.is) ∙ c.in_ok-choice.ensures.answer) c.in_ok-read-in-Inside.ensures.answer

pub read_enum-returns-in_ok-read-in-Beside-clause-answer : goal.read_enum-returns-in_ok-read-in-Beside-clause-answer
read_enum-returns-in_ok-read-in-Beside-clause-answer g t c =
    let s = setting_view c.args.setting.now (g.T.Texts.relations c.args.texts.now) in
    beside_enum s c.args.left c.args.closed (kept_view c.args.value.now) (tag_view c.args.tag.now) (variants_in c.args.variants.now) c.in-Beside.place (fields_in c.in-Beside.fields.now) (entries_view c.in-Beside.members.items) (entries_view c.deref.result.now)
    (several_view c.in_ok-read-in-Beside.read) (one_view c.as_variant.result) (ap choice_view (sym c.in-Beside.is) ∙ c.in_ok-choice.ensures.answer) (ap entries_view c.deref.ensures.value) c.in_ok-read-in-Beside.ensures.answer c.as_variant.ensures

pub read_enum-returns-in_ok-read-in-InTurn-clause-answer : goal.read_enum-returns-in_ok-read-in-InTurn-clause-answer
read_enum-returns-in_ok-read-in-InTurn-clause-answer g t c =
    let s = setting_view c.args.setting.now (g.T.Texts.relations c.args.texts.now) in
    turn_enum s c.args.left c.args.closed (kept_view c.args.value.now) (tag_view c.args.tag.now) (variants_in c.args.variants.now) (variants_view c.in-InTurn.each.now)
    (one_view c.in_ok-read-in-InTurn.read) (ap choice_view (sym c.in-InTurn.is) ∙ c.in_ok-choice.ensures.answer) c.in_ok-read-in-InTurn.ensures.answer

pub read_inside-returns-clause-answer : goal.read_inside-returns-clause-answer
read_inside-returns-clause-answer g t c =
    let s = setting_view c.args.setting.now (g.T.Texts.relations c.args.texts.now) in
    inside_here s c.allowed-left.result c.args.closed c.args.found.place (variant_view c.args.found.variant.now) (entry_view c.args.member) (several_view c.in_ok-read.read) (one_view c.as_variant.result) (one_view c.in_ok-named.named)
    c.allowed-left.ensures c.in_ok-read.ensures.answer c.as_variant.ensures c.in_ok-named.ensures.answer

pub read_content-returns-in_ok-read-in-Struct-clause-answer : goal.read_content-returns-in_ok-read-in-Struct-clause-answer
read_content-returns-in_ok-read-in-Struct-clause-answer g t c =
    let s = setting_view c.args.setting.now (g.T.Texts.relations c.args.texts.now) in
    struct_content s c.args.left c.args.closed (variant_view c.args.variant.now) (kept_view c.args.value.now) (fields_in c.args.variant.now.fields) (several_view c.in_ok-read-in-Struct.read)
    (ap style_view c.in-Struct.is) refl c.in_ok-read-in-Struct.ensures.answer

pub read_content-returns-in_ok-read-in-Tuple-clause-answer : goal.read_content-returns-in_ok-read-in-Tuple-clause-answer
read_content-returns-in_ok-read-in-Tuple-clause-answer g t c =
    let s = setting_view c.args.setting.now (g.T.Texts.relations c.args.texts.now) in
    tuple_content s c.args.left c.args.closed (variant_view c.args.variant.now) (kept_view c.args.value.now) (fields_view c.fields.result.now) c.length_of.result (several_view c.in_ok-read-in-Tuple.read)
    (ap style_view c.in-Tuple.is) c.fields.ensures c.length_of.ensures c.in_ok-read-in-Tuple.ensures.answer

pub read_content-returns-in_ok-read-in-Newtype-clause-answer : goal.read_content-returns-in_ok-read-in-Newtype-clause-answer
read_content-returns-in_ok-read-in-Newtype-clause-answer g t c =
    let s = setting_view c.args.setting.now (g.T.Texts.relations c.args.texts.now) in
    only_content s c.args.left c.args.closed (variant_view c.args.variant.now) (kept_view c.args.value.now) (fields_view c.fields-in-Newtype.result.now) (several_view c.in_ok-read-in-Newtype.read)
    (ap style_view c.in-Newtype.is) c.fields-in-Newtype.ensures c.in_ok-read-in-Newtype.ensures.answer

pub read_content-returns-in_ok-read-in-Unit-clause-answer : goal.read_content-returns-in_ok-read-in-Unit-clause-answer
read_content-returns-in_ok-read-in-Unit-clause-answer g t c =
    let s = setting_view c.args.setting.now (g.T.Texts.relations c.args.texts.now) in
    unit_content s c.args.left c.args.closed (variant_view c.args.variant.now) (kept_view c.args.value.now) (one_view c.read_unit.result) (several_view c.in_ok-read-in-Unit.read)
    (ap style_view c.in-Unit.is) c.read_unit.ensures c.in_ok-read-in-Unit.ensures.answer

pub read_variant-returns-then-is_unit-clause-answer : goal.read_variant-returns-then-is_unit-clause-answer
read_variant-returns-then-is_unit-clause-answer g t c =
    let s = setting_view c.args.setting.now (g.T.Texts.relations c.args.texts.now) in
    unit_variant s c.args.left c.args.closed (variant_view c.args.variant.now) (kept_view c.args.value.now) c.args.place c.is_unit.result (several_view c.in_ok-read.read) (one_view c.as_unit.result)
    c.is_unit.ensures c.if-is_unit.true c.in_ok-read.ensures.answer c.as_unit.ensures

pub read_variant-returns-else-is_unit-clause-answer : goal.read_variant-returns-else-is_unit-clause-answer
read_variant-returns-else-is_unit-clause-answer g t c =
    let s = setting_view c.args.setting.now (g.T.Texts.relations c.args.texts.now) in
    other_variant s c.args.left c.args.closed (variant_view c.args.variant.now) (kept_view c.args.value.now) c.args.place c.is_unit.result (several_view c.in_ok-read.read) (one_view c.as_variant.result)
    c.is_unit.ensures c.if-is_unit.false c.in_ok-read.ensures.answer c.as_variant.ensures

pub read_struct-returns-in_ok-read-in-Object-clause-answer : goal.read_struct-returns-in_ok-read-in-Object-clause-answer
read_struct-returns-in_ok-read-in-Object-clause-answer g t c =
    let s = setting_view c.args.setting.now (g.T.Texts.relations c.args.texts.now) in
    struct_level s c.args.closed (fields_in c.args.fields.now) c.args.value.now c.in-Object.object (entries_view c.deref.result.now) (several_view c.in_ok-read-in-Object.read)
    c.in-Object.is (ap entries_view c.deref.ensures.value ∙ c.in_ok-members-in-Object.ensures.answer) c.in_ok-read-in-Object.ensures.answer

pub read_members-returns-in-Some-clause-answer : goal.read_members-returns-in-Some-clause-answer
read_members-returns-in-Some-clause-answer g t c =
    let s = setting_view c.args.setting.now (g.T.Texts.relations c.args.texts.now) in
    let z = c.in_ok-sorted.sorted in
    unknown_there s c.args.closed (fields_in c.args.fields.now) (fields_in z.fields.now) (entries_view c.args.members.now) (sorted_entries z) (entry_view c.in-Some.member) (several_view c.in_ok-refused-in-Some.refused)
    c.in_ok-sorted.ensures.fields c.in_ok-sorted.ensures.members c.in-Some.ensures c.in_ok-refused-in-Some.ensures.answer

pub read_field-returns-then-field-clause-answer : goal.read_field-returns-then-field-clause-answer
read_field-returns-then-field-clause-answer g t c =
    let s = setting_view c.args.setting.now (g.T.Texts.relations c.args.texts.now) in
    let z = c.args.sorted.now in
    rest_field s (field_view c.args.field.now) (entries_without_place (sorted_names z) (sorted_entries z)) (entries_at c.args.place (sorted_names z) (sorted_entries z)) (type_view c.args.field.now.field_type) (entries_view c.unnamed.result.now) (one_view c.in_ok-read.read)
    c.if-field.true refl c.unnamed.ensures.are c.in_ok-read.ensures.answer

pub read_field-returns-in_ok-read-in-Empty-clause-answer : goal.read_field-returns-in_ok-read-in-Empty-clause-answer
read_field-returns-in_ok-read-in-Empty-clause-answer g t c =
    let s = setting_view c.args.setting.now (g.T.Texts.relations c.args.texts.now) in
    let z = c.args.sorted.now in
    empty_field s (field_view c.args.field.now) (entries_without_place (sorted_names z) (sorted_entries z)) (entries_at c.args.place (sorted_names z) (sorted_entries z)) (one_view c.in_ok-read-in-Empty.read)
    c.if-field.false (ap slot_view (sym c.in-Empty.is) ∙ c.slot.ensures.are) c.in_ok-read-in-Empty.ensures.answer

pub read_field-returns-in_ok-read-in-One-clause-answer : goal.read_field-returns-in_ok-read-in-One-clause-answer
read_field-returns-in_ok-read-in-One-clause-answer g t c =
    let s = setting_view c.args.setting.now (g.T.Texts.relations c.args.texts.now) in
    let z = c.args.sorted.now in
    one_field s (field_view c.args.field.now) (entries_without_place (sorted_names z) (sorted_entries z)) (entries_at c.args.place (sorted_names z) (sorted_entries z)) (entry_view c.in-One.member) (one_view c.in_ok-read-in-One.read)
    c.if-field.false (ap slot_view (sym c.in-One.is) ∙ c.slot.ensures.are) c.in_ok-read-in-One.ensures.answer

pub read_field-returns-in_ok-refused-in-Two-clause-answer : goal.read_field-returns-in_ok-refused-in-Two-clause-answer
read_field-returns-in_ok-refused-in-Two-clause-answer g t c =
    let s = setting_view c.args.setting.now (g.T.Texts.relations c.args.texts.now) in
    let z = c.args.sorted.now in
    two_field s (field_view c.args.field.now) (entries_without_place (sorted_names z) (sorted_entries z)) (entries_at c.args.place (sorted_names z) (sorted_entries z)) (entry_view c.in-Two.field-0) (entry_view c.in-Two.second) (one_view c.in_ok-refused-in-Two.refused)
    c.if-field.false (ap slot_view (sym c.in-Two.is) ∙ c.slot.ensures.are) c.in_ok-refused-in-Two.ensures.answer

pub read_present-returns-clause-answer : goal.read_present-returns-clause-answer
read_present-returns-clause-answer g t c =
    let s = setting_view c.args.setting.now (g.T.Texts.relations c.args.texts.now) in
    helped_here s (field_view c.args.field.now) (entry_view c.args.member) (helper_view c.args.field.now.helper) (type_view c.args.field.now.field_type) (one_view c.in_ok-read.read) (one_view c.in_ok-named.named)
    refl refl c.in_ok-read.ensures.answer c.in_ok-named.ensures.answer

pub read_helped-returns-in_ok-read-in-Inner-clause-answer : goal.read_helped-returns-in_ok-read-in-Inner-clause-answer
read_helped-returns-in_ok-read-in-Inner-clause-answer g t c =
    let s = setting_view c.args.setting.now (g.T.Texts.relations c.args.texts.now) in
    inner_here s (type_view c.args.ty.now) (kept_view c.args.value.now) (one_view c.in_ok-read-in-Inner.read) c.in_ok-read-in-Inner.ensures.answer ∙ ap (λ h. helped_at s (helper_view h) (type_view c.args.ty.now) (kept_view c.args.value.now)) (sym c.in-Inner.is)

pub read_default-returns-then-is_entered-clause-answer : goal.read_default-returns-then-is_entered-clause-answer
read_default-returns-then-is_entered-clause-answer g t c =
    let z = c.args.setting.now in
    entered_already (containers_in z.containers.now) (conversions_view z.conversions.now) (g.T.Texts.relations c.args.texts.now) z.more z.entered.now c.args.place (type_view c.args.ty.now) c.is_entered.result c.is_entered.ensures c.if-is_entered.true

pub read_default-returns-clause-answer : goal.read_default-returns-clause-answer
read_default-returns-clause-answer g t c =
    let z = c.args.setting.now in
    inside_default (containers_in z.containers.now) (conversions_view z.conversions.now) (g.T.Texts.relations c.args.texts.now) z.more (z.more - 1) z.entered.now c.deref.result.now c.args.place (type_view c.args.ty.now) c.is_entered.result (one_view c.in_ok-read.read)
    c.if-setting-eq0.false refl (c.deref.ensures.value ∙ c.in_ok-entered.ensures.answer) c.is_entered.ensures c.if-is_entered.false c.in_ok-read.ensures.answer

pub read_stated-returns-in_ok-read-in-Some-clause-answer : goal.read_stated-returns-in_ok-read-in-Some-clause-answer
read_stated-returns-in_ok-read-in-Some-clause-answer g t c =
    let s = setting_view c.args.setting.now (g.T.Texts.relations c.args.texts.now) in
    stated_there s c.args.place (type_view c.args.ty.now) (kept_view c.in-Some.value.now) (one_view c.in_ok-read-in-Some.read) c.in-Some.ensures c.in_ok-read-in-Some.ensures.answer

pub read_stated-returns-in_ok-read-in-None-clause-answer : goal.read_stated-returns-in_ok-read-in-None-clause-answer
read_stated-returns-in_ok-read-in-None-clause-answer g t c =
    let s = setting_view c.args.setting.now (g.T.Texts.relations c.args.texts.now) in
    stated_nowhere s c.args.place (type_view c.args.ty.now) (kept_view json'.Null) (one_view c.in_ok-read-in-None.read) c.in-None.ensures view-Null c.in_ok-read-in-None.ensures.answer
