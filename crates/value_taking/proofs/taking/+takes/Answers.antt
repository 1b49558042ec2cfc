use Rattle.std.proofs.Common.{◌≡◌, ℕ, ◌+◌, ◌<◌, ◌&&◌, Bool, map, drop, length, get_or, refl, sym, ap, ◌∙◌, arith}
use Rattle.json_value.specs.View.{kept_view}
use Rattle.value_models.specs.ContainerView.{tag_view, variants_in, container_view}
use Rattle.value_models.specs.FieldView.{field_view, fields_view, style_view}
use Rattle.value_models.specs.TypeView.{type_view}
use Rattle.value_models.specs.VariantView.{fields_in, variant_view, variants_view}
use Rattle.model_defs.specs.Layer.{present_type, variant_content}
use Rattle.model_defs.specs.Model.{VariantModel}
use Rattle.value_parts.specs.Entries.{choice_view, demand_view, entries_view, entry_view, slot_view}
use Rattle.value_parts.specs.Seen.{one_view}
use Rattle.value_parts.specs.Slots.{entries_at, entries_without_place}
use Rattle.value_parts.specs.SortedView.{sorted_entries, sorted_names}
use Rattle.std.proofs.Common.{option_map}
use Rattle.value_taking.specs.At.{content_at, demanded_from, fields_from, pair_at, pairs_at, rule_at, untagged_at}
use Rattle.value_taking.specs.SettingView.{tables_view}
use Rattle.value_taking.proofs.Levels.{part_here, absent_level, present_level, item_there, item_nowhere, items_spent}
use Rattle.value_taking.proofs.Lists.{fitting, tuple_level, object_level, struct_level, other_name, such_name}
use Rattle.value_taking.proofs.Chosen.{settled_enum, inside_enum, beside_enum, turn_enum, struct_content, tuple_content, only_content, unit_content}
use Rattle.value_taking.proofs.Members.{unknown_there, none_unknown, present_there, present_nowhere, rest_field, empty_field, one_field, two_field}
use Rattle.value_taking.proofs.Walks.{one_passes, one_fails, all_pass, other_turn, found_turn, item_step, item_unasked, items_end, fields_there, field_step, fields_end, all_step, all_end, any_step, any_end}
use Rattle.value_taking.proofs.taking.+takes.Goals as goal

pub takes_part-returns : goal.takes_part-returns
takes_part-returns t c =
    part_here (tables_view c.args.setting.now) c.allowed-left.result (type_view c.args.ty.now) (kept_view c.args.value.now) c.in_ok-taken.taken c.allowed-left.ensures c.in_ok-taken.ensures

pub takes_type-returns-then-is_absent : goal.takes_type-returns-then-is_absent
takes_type-returns-then-is_absent t c =
    absent_level (tables_view c.args.setting.now) c.args.left (type_view c.args.ty.now) (kept_view c.args.value.now) c.is_absent.result c.is_absent.ensures c.if-is_absent.true

pub takes_type-returns : goal.takes_type-returns
takes_type-returns t c =
    present_level (tables_view c.args.setting.now) c.args.left (type_view c.args.ty.now) (type_view c.leaf_of.result.now) (kept_view c.args.value.now) c.is_absent.result c.in_ok-taken.taken
    c.is_absent.ensures c.if-is_absent.false c.leaf_of.ensures c.in_ok-taken.ensures

pub takes_leaf-returns-in_ok-taken-in-Tuple : goal.takes_leaf-returns-in_ok-taken-in-Tuple
takes_leaf-returns-in_ok-taken-in-Tuple t c =
    tuple_level (tables_view c.args.setting.now) c.args.left c.args.ty.now c.in-Tuple.types c.deref-in-Tuple.result.now c.length_of.result (kept_view c.args.value.now) c.in_ok-taken-in-Tuple.taken
    c.in-Tuple.is c.deref-in-Tuple.ensures.value c.length_of.ensures c.in_ok-taken-in-Tuple.ensures

-- ---- lists

pub takes_list-returns-in_ok-taken-in-Array : goal.takes_list-returns-in_ok-taken-in-Array
takes_list-returns-in_ok-taken-in-Array t c =
    fitting (tables_view c.args.setting.now) (demand_view c.args.demand) c.args.wanted c.args.value.now c.in-Array.values c.deref.result.now c.len.result c.fits.result c.in_ok-taken-in-Array.taken
    c.in-Array.is c.deref.ensures.value c.len.ensures c.fits.ensures c.if-fits.true c.in_ok-taken-in-Array.ensures

pub takes_items-loop-place-preserved : goal.takes_items-loop-place-preserved
takes_items-loop-place-preserved t c =
    let s = tables_view c.args.setting.now in
    let d = demand_view c.args.demand in
    let vs = c.args.values.now in
    let i = c.loop-place.place in
    let v = c.index-values-place.result in
    let there : i < length vs = omega arith in
    one_passes (demanded_from s d i (map kept_view (drop i vs))) (demanded_from s d (i + 1) (map kept_view (drop (i + 1) vs))) c.in_ok-takes_part.field-0 (demanded_from s d 0 (map kept_view vs))
    (item_step s d vs i (type_view c.in-Some.ty.now) v c.in_ok-takes_part.field-0 there c.index-values-place.is c.in-Some.ensures c.in_ok-takes_part.ensures) c.if-not-branch.false c.loop-place.invariant

pub takes_items-returns-then-not-branch : goal.takes_items-returns-then-not-branch
takes_items-returns-then-not-branch t c =
    let s = tables_view c.args.setting.now in
    let d = demand_view c.args.demand in
    let vs = c.args.values.now in
    let i = c.loop-place.place in
    let v = c.index-values-place.result in
    let there : i < length vs = omega arith in
    one_fails (demanded_from s d i (map kept_view (drop i vs))) (demanded_from s d (i + 1) (map kept_view (drop (i + 1) vs))) c.in_ok-takes_part.field-0 (demanded_from s d 0 (map kept_view vs))
    (item_step s d vs i (type_view c.in-Some.ty.now) v c.in_ok-takes_part.field-0 there c.index-values-place.is c.in-Some.ensures c.in_ok-takes_part.ensures) c.if-not-branch.true c.loop-place.invariant

pub takes_items-returns-in_default : goal.takes_items-returns-in_default
takes_items-returns-in_default t c =
    let s = tables_view c.args.setting.now in
    let d = demand_view c.args.demand in
    let vs = c.args.values.now in
    let i = c.loop-place.place in
    all_pass (demanded_from s d i (map kept_view (drop i vs))) (demanded_from s d 0 (map kept_view vs)) (item_unasked s d (map kept_view (drop i vs)) i c.in_default.ensures) c.loop-place.invariant

pub takes_items-returns : goal.takes_items-returns
takes_items-returns t c =
    let s = tables_view c.args.setting.now in
    let d = demand_view c.args.demand in
    let vs = c.args.values.now in
    let i = c.loop-place.place in
    all_pass (demanded_from s d i (map kept_view (drop i vs))) (demanded_from s d 0 (map kept_view vs)) (items_end s d vs i (omega arith)) c.loop-place.invariant

-- ---- maps

pub takes_map-returns-in_ok-taken-in-Object : goal.takes_map-returns-in_ok-taken-in-Object
takes_map-returns-in_ok-taken-in-Object t c =
    object_level (tables_view c.args.setting.now) (type_view c.args.key.now) (type_view c.args.held.now) c.args.value.now c.in-Object.object (entries_view c.deref.result.now) c.in_ok-taken-in-Object.taken
    c.in-Object.is (ap entries_view c.deref.ensures.value ∙ c.in_ok-members-in-Object.ensures.answer) c.in_ok-taken-in-Object.ensures

pub takes_pairs-loop-at-preserved : goal.takes_pairs-loop-at-preserved
takes_pairs-loop-at-preserved t c =
    let s = tables_view c.args.setting.now in
    let k = type_view c.args.key.now in
    let u = type_view c.args.held.now in
    let ms = c.args.members.now in
    let i = c.loop-at.at in
    let there : i < length ms = omega arith in
    one_passes (pairs_at s k u (entries_view (drop i ms))) (pairs_at s k u (entries_view (drop (i + 1) ms))) c.in_ok-takes_pair.field-0 (pairs_at s k u (entries_view ms))
    (all_step entry_view (pair_at s k u) ms i c.index-members-at.result c.in_ok-takes_pair.field-0 there (c.in_ok-takes_pair.ensures ∙ ap (λ m. pair_at s k u (entry_view m)) c.index-members-at.is)) c.if-not-branch.false c.loop-at.invariant

pub takes_pairs-returns-then-not-branch : goal.takes_pairs-returns-then-not-branch
takes_pairs-returns-then-not-branch t c =
    let s = tables_view c.args.setting.now in
    let k = type_view c.args.key.now in
    let u = type_view c.args.held.now in
    let ms = c.args.members.now in
    let i = c.loop-at.at in
    let there : i < length ms = omega arith in
    one_fails (pairs_at s k u (entries_view (drop i ms))) (pairs_at s k u (entries_view (drop (i + 1) ms))) c.in_ok-takes_pair.field-0 (pairs_at s k u (entries_view ms))
    (all_step entry_view (pair_at s k u) ms i c.index-members-at.result c.in_ok-takes_pair.field-0 there (c.in_ok-takes_pair.ensures ∙ ap (λ m. pair_at s k u (entry_view m)) c.index-members-at.is)) c.if-not-branch.true c.loop-at.invariant

pub takes_pairs-returns : goal.takes_pairs-returns
takes_pairs-returns t c =
    let s = tables_view c.args.setting.now in
    let k = type_view c.args.key.now in
    let u = type_view c.args.held.now in
    let ms = c.args.members.now in
    let i = c.loop-at.at in
    all_pass (pairs_at s k u (entries_view (drop i ms))) (pairs_at s k u (entries_view ms)) (all_end entry_view (pair_at s k u) ms i (omega arith)) c.loop-at.invariant

pub takes_pair-returns-then-not-branch : goal.takes_pair-returns-then-not-branch
takes_pair-returns-then-not-branch t c =
    other_name (tables_view c.args.setting.now) (type_view c.args.key.now) (type_view c.args.held.now) (entry_view c.args.member) (kept_view c.in_ok-name.name) c.in_ok-takes_part.field-0
    c.in_ok-name.ensures.answer c.in_ok-takes_part.ensures c.if-not-branch.true

pub takes_pair-returns : goal.takes_pair-returns
takes_pair-returns t c =
    such_name (tables_view c.args.setting.now) (type_view c.args.key.now) (type_view c.args.held.now) (entry_view c.args.member) (kept_view c.in_ok-name.name) c.in_ok-takes_part.field-0 c.in_ok-taken.taken
    c.in_ok-name.ensures.answer c.in_ok-takes_part.ensures c.if-not-branch.false c.in_ok-taken.ensures

-- ---- items

pub takes_item-returns-then-left-eq0 : goal.takes_item-returns-then-left-eq0
takes_item-returns-then-left-eq0 t c = items_spent (tables_view c.args.setting.now) c.args.left c.args.name.now (kept_view c.args.value.now) c.if-left-eq0.true

pub takes_item-returns-in_ok-taken-in-Some : goal.takes_item-returns-in_ok-taken-in-Some
takes_item-returns-in_ok-taken-in-Some t c =
    item_there (tables_view c.args.setting.now) c.args.left c.args.name.now (kept_view c.args.value.now) (container_view c.in-Some.container.now) c.in_ok-taken-in-Some.taken
    c.if-left-eq0.false c.in-Some.ensures c.in_ok-taken-in-Some.ensures

pub takes_item-returns-in-None : goal.takes_item-returns-in-None
takes_item-returns-in-None t c = item_nowhere (tables_view c.args.setting.now) c.args.left c.args.name.now (kept_view c.args.value.now) c.if-left-eq0.false c.in-None.ensures

pub takes_container-returns-then-not-branch : goal.takes_container-returns-then-not-branch
takes_container-returns-then-not-branch t c =
    ap (λ b. b && rule_at (tables_view c.args.setting.now) (container_view c.args.container.now) (kept_view c.args.value.now)) (sym c.if-not-branch.true ∙ c.in_ok-takes_body.ensures)

pub takes_container-returns : goal.takes_container-returns
takes_container-returns t c =
    c.in_ok-holds.ensures ∙ ap (λ b. b && rule_at (tables_view c.args.setting.now) (container_view c.args.container.now) (kept_view c.args.value.now)) (sym c.if-not-branch.false ∙ c.in_ok-takes_body.ensures)

-- ---- enums

pub takes_enum-returns-in-Settled : goal.takes_enum-returns-in-Settled
takes_enum-returns-in-Settled t c =
    settled_enum (tables_view c.args.setting.now) c.args.left c.args.closed (kept_view c.args.value.now) (tag_view c.args.tag.now) (variants_in c.args.variants.now) (one_view c.in-Settled.read) c.is_taken.result
    (ap choice_view (sym c.in-Settled.is) ∙ c.in_ok-choice.ensures.answer) c.is_taken.ensures

pub takes_enum-returns-in_ok-taken-in-Inside : goal.takes_enum-returns-in_ok-taken-in-Inside
takes_enum-returns-in_ok-taken-in-Inside t c =
    inside_enum (tables_view c.args.setting.now) c.args.left c.args.closed (kept_view c.args.value.now) (tag_view c.args.tag.now) (variants_in c.args.variants.now) c.in-Inside.found.place (variant_view c.in-Inside.found.variant.now) (entry_view c.in-Inside.member)
    c.allowed-within.result c.in_ok-taken-in-Inside.taken (ap choice_view (sym c.in-Inside.is) ∙ c.in_ok-choice.ensures.answer) c.allowed-within.ensures c.in_ok-taken-in-Inside.ensures

pub takes_enum-returns-in_ok-taken-in-Beside : goal.takes_enum-returns-in_ok-taken-in-Beside
takes_enum-returns-in_ok-taken-in-Beside t c =
    beside_enum (tables_view c.args.setting.now) c.args.left c.args.closed (kept_view c.args.value.now) (tag_view c.args.tag.now) (variants_in c.args.variants.now) c.in-Beside.field-0 (fields_in c.in-Beside.fields.now) (entries_view c.in-Beside.members.items)
    (entries_view c.deref.result.now) c.in_ok-taken-in-Beside.taken (ap choice_view (sym c.in-Beside.is) ∙ c.in_ok-choice.ensures.answer) (ap entries_view c.deref.ensures.value) c.in_ok-taken-in-Beside.ensures

pub takes_enum-returns-in_ok-taken-in-InTurn : goal.takes_enum-returns-in_ok-taken-in-InTurn
takes_enum-returns-in_ok-taken-in-InTurn t c =
    turn_enum (tables_view c.args.setting.now) c.args.left c.args.closed (kept_view c.args.value.now) (tag_view c.args.tag.now) (variants_in c.args.variants.now) (variants_view c.in-InTurn.each.now) c.in_ok-taken-in-InTurn.taken
    (ap choice_view (sym c.in-InTurn.is) ∙ c.in_ok-choice.ensures.answer) c.in_ok-taken-in-InTurn.ensures

pub takes_content-returns-in_ok-taken-in-Struct : goal.takes_content-returns-in_ok-taken-in-Struct
takes_content-returns-in_ok-taken-in-Struct t c =
    struct_content (tables_view c.args.setting.now) c.args.left c.args.closed (variant_view c.args.variant.now) (kept_view c.args.value.now) (fields_in c.args.variant.now.fields) c.in_ok-taken-in-Struct.taken
    (ap style_view c.in-Struct.is) refl c.in_ok-taken-in-Struct.ensures

pub takes_content-returns-in_ok-taken-in-Tuple : goal.takes_content-returns-in_ok-taken-in-Tuple
takes_content-returns-in_ok-taken-in-Tuple t c =
    tuple_content (tables_view c.args.setting.now) c.args.left c.args.closed (variant_view c.args.variant.now) (kept_view c.args.value.now) (fields_view c.fields.result.now) c.length_of.result c.in_ok-taken-in-Tuple.taken
    (ap style_view c.in-Tuple.is) c.fields.ensures c.length_of.ensures c.in_ok-taken-in-Tuple.ensures

pub takes_content-returns-in_ok-taken-in-Newtype : goal.takes_content-returns-in_ok-taken-in-Newtype
takes_content-returns-in_ok-taken-in-Newtype t c =
    only_content (tables_view c.args.setting.now) c.args.left c.args.closed (variant_view c.args.variant.now) (kept_view c.args.value.now) (fields_view c.fields-in-Newtype.result.now) c.in_ok-taken-in-Newtype.taken
    (ap style_view c.in-Newtype.is) c.fields-in-Newtype.ensures c.in_ok-taken-in-Newtype.ensures

pub takes_content-returns-in-Unit : goal.takes_content-returns-in-Unit
takes_content-returns-in-Unit t c =
    unit_content (tables_view c.args.setting.now) c.args.left c.args.closed (variant_view c.args.variant.now) (kept_view c.args.value.now) c.is_null.result (ap style_view c.in-Unit.is) c.is_null.ensures

pub takes_untagged-loop-variant-preserved : goal.takes_untagged-loop-variant-preserved
takes_untagged-loop-variant-preserved t c =
    let s = tables_view c.args.setting.now in
    let k = c.args.left in
    let b = c.args.closed in
    let v = kept_view c.args.value.now in
    let ws = c.args.variants.now in
    let i = c.loop-variant.variant-index in
    let test : VariantModel → Bool = λ w. content_at s k (variant_content b w) v in
    let said : c.in_ok-takes_content.field-0 ≡ test (variant_view (get_or ws i c.variant-item.result)) = c.in_ok-takes_content.ensures ∙ ap (λ w. test (variant_view w)) c.variant-item.is in
    other_turn (untagged_at s k b (variants_view (drop i ws)) v) (untagged_at s k b (variants_view (drop (i + 1) ws)) v) c.in_ok-takes_content.field-0 (untagged_at s k b (variants_view ws) v)
    (any_step variant_view test ws i c.variant-item.result c.in_ok-takes_content.field-0 c.loop-variant-test.true said) c.if-branch.false c.loop-variant.invariant

pub takes_untagged-returns-then-branch : goal.takes_untagged-returns-then-branch
takes_untagged-returns-then-branch t c =
    let s = tables_view c.args.setting.now in
    let k = c.args.left in
    let b = c.args.closed in
    let v = kept_view c.args.value.now in
    let ws = c.args.variants.now in
    let i = c.loop-variant.variant-index in
    let test : VariantModel → Bool = λ w. content_at s k (variant_content b w) v in
    let said : c.in_ok-takes_content.field-0 ≡ test (variant_view (get_or ws i c.variant-item.result)) = c.in_ok-takes_content.ensures ∙ ap (λ w. test (variant_view w)) c.variant-item.is in
    found_turn (untagged_at s k b (variants_view (drop i ws)) v) (untagged_at s k b (variants_view (drop (i + 1) ws)) v) c.in_ok-takes_content.field-0 (untagged_at s k b (variants_view ws) v)
    (any_step variant_view test ws i c.variant-item.result c.in_ok-takes_content.field-0 c.loop-variant-test.true said) c.if-branch.true c.loop-variant.invariant

pub takes_untagged-returns : goal.takes_untagged-returns
takes_untagged-returns t c =
    let s = tables_view c.args.setting.now in
    let k = c.args.left in
    let b = c.args.closed in
    let v = kept_view c.args.value.now in
    let ws = c.args.variants.now in
    let i = c.loop-variant.variant-index in
    sym (any_end variant_view (λ w. content_at s k (variant_content b w) v) ws i c.loop-variant-test.false) ∙ c.loop-variant.invariant

-- ---- structs

pub takes_struct-returns-in_ok-taken-in-Object : goal.takes_struct-returns-in_ok-taken-in-Object
takes_struct-returns-in_ok-taken-in-Object t c =
    struct_level (tables_view c.args.setting.now) c.args.closed (fields_in c.args.fields.now) c.args.value.now c.in-Object.object (entries_view c.deref.result.now) c.in_ok-taken-in-Object.taken
    c.in-Object.is (ap entries_view c.deref.ensures.value ∙ c.in_ok-members-in-Object.ensures.answer) c.in_ok-taken-in-Object.ensures

pub takes_members-returns-in-Some : goal.takes_members-returns-in-Some
takes_members-returns-in-Some t c =
    let z = c.in_ok-sorted.sorted in
    unknown_there (tables_view c.args.setting.now) c.args.closed (fields_in c.args.fields.now) (fields_in z.fields.now) (entries_view c.args.members.now) (sorted_entries z) (entry_view c.in-Some.field-0)
    c.in_ok-sorted.ensures.fields c.in_ok-sorted.ensures.members c.in-Some.ensures

pub takes_members-returns : goal.takes_members-returns
takes_members-returns t c =
    let z = c.in_ok-sorted.sorted in
    none_unknown (tables_view c.args.setting.now) c.args.closed (fields_in c.args.fields.now) (fields_in z.fields.now) (entries_view c.args.members.now) (sorted_entries z) c.in_ok-taken-in-None.taken
    c.in_ok-sorted.ensures.fields c.in_ok-sorted.ensures.members c.in-None.ensures c.in_ok-taken-in-None.ensures

pub takes_fields-takes_field-requires : goal.takes_fields-takes_field-requires
takes_fields-takes_field-requires t c =
    let there : c.loop-place.place < length (fields_in c.args.sorted.now.fields.now) = omega (arith, fields_there (fields_in c.args.sorted.now.fields.now) c.fields-field-items.result.now c.fields-field-items.ensures) in
    (omega (arith, c.decreases), (there, c.requires))

pub takes_fields-loop-place-preserved : goal.takes_fields-loop-place-preserved
takes_fields-loop-place-preserved t c =
    let s = tables_view c.args.setting.now in
    let z = c.args.sorted.now in
    let own = λ (j : ℕ). entries_at j (sorted_names z) (sorted_entries z) in
    let un = entries_without_place (sorted_names z) (sorted_entries z) in
    let fs = fields_in z.fields.now in
    let xs = c.fields-field-items.result.now in
    let i = c.loop-place.place in
    let x = c.field-item.result in
    let there : i < length xs = omega arith in
    one_passes (fields_from s own un i (drop i fs)) (fields_from s own un (i + 1) (drop (i + 1) fs)) c.in_ok-takes_field.field-0 (fields_from s own un 0 fs)
    (field_step s own un fs xs i x c.in_ok-takes_field.field-0 c.fields-field-items.ensures there c.field-item.is c.in_ok-takes_field.ensures) c.if-not-branch.false c.loop-place.invariant

pub takes_fields-returns-then-not-branch : goal.takes_fields-returns-then-not-branch
takes_fields-returns-then-not-branch t c =
    let s = tables_view c.args.setting.now in
    let z = c.args.sorted.now in
    let own = λ (j : ℕ). entries_at j (sorted_names z) (sorted_entries z) in
    let un = entries_without_place (sorted_names z) (sorted_entries z) in
    let fs = fields_in z.fields.now in
    let xs = c.fields-field-items.result.now in
    let i = c.loop-place.place in
    let x = c.field-item.result in
    let there : i < length xs = omega arith in
    one_fails (fields_from s own un i (drop i fs)) (fields_from s own un (i + 1) (drop (i + 1) fs)) c.in_ok-takes_field.field-0 (fields_from s own un 0 fs)
    (field_step s own un fs xs i x c.in_ok-takes_field.field-0 c.fields-field-items.ensures there c.field-item.is c.in_ok-takes_field.ensures) c.if-not-branch.true c.loop-place.invariant

pub takes_fields-returns : goal.takes_fields-returns
takes_fields-returns t c =
    let s = tables_view c.args.setting.now in
    let z = c.args.sorted.now in
    let own = λ (j : ℕ). entries_at j (sorted_names z) (sorted_entries z) in
    let un = entries_without_place (sorted_names z) (sorted_entries z) in
    let fs = fields_in z.fields.now in
    let i = c.loop-place.place in
    all_pass (fields_from s own un i (drop i fs)) (fields_from s own un 0 fs) (fields_end s own un fs c.fields-field-items.result.now i c.fields-field-items.ensures (omega arith)) c.loop-place.invariant

pub takes_field-returns-then-field : goal.takes_field-returns-then-field
takes_field-returns-then-field t c =
    let z = c.args.sorted.now in
    rest_field (tables_view c.args.setting.now) (field_view c.args.field.now) (entries_without_place (sorted_names z) (sorted_entries z)) (entries_at c.args.place (sorted_names z) (sorted_entries z)) (type_view c.args.field.now.field_type) (entries_view c.unnamed.result.now)
    c.in_ok-taken.taken c.if-field.true refl c.unnamed.ensures.are c.in_ok-taken.ensures

pub takes_field-returns-in-Empty : goal.takes_field-returns-in-Empty
takes_field-returns-in-Empty t c =
    let z = c.args.sorted.now in
    empty_field (tables_view c.args.setting.now) (field_view c.args.field.now) (entries_without_place (sorted_names z) (sorted_entries z)) (entries_at c.args.place (sorted_names z) (sorted_entries z)) c.may_be_missing.result
    c.if-field.false (ap slot_view (sym c.in-Empty.is) ∙ c.slot.ensures.are) c.may_be_missing.ensures

pub takes_field-returns-in_ok-taken-in-One : goal.takes_field-returns-in_ok-taken-in-One
takes_field-returns-in_ok-taken-in-One t c =
    let z = c.args.sorted.now in
    one_field (tables_view c.args.setting.now) (field_view c.args.field.now) (entries_without_place (sorted_names z) (sorted_entries z)) (entries_at c.args.place (sorted_names z) (sorted_entries z)) (entry_view c.in-One.member) c.in_ok-taken-in-One.taken
    c.if-field.false (ap slot_view (sym c.in-One.is) ∙ c.slot.ensures.are) c.in_ok-taken-in-One.ensures

pub takes_field-returns-in-Two : goal.takes_field-returns-in-Two
takes_field-returns-in-Two t c =
    let z = c.args.sorted.now in
    two_field (tables_view c.args.setting.now) (field_view c.args.field.now) (entries_without_place (sorted_names z) (sorted_entries z)) (entries_at c.args.place (sorted_names z) (sorted_entries z)) (entry_view c.in-Two.field-0) (entry_view c.in-Two.field-1)
    c.if-field.false (ap slot_view (sym c.in-Two.is) ∙ c.slot.ensures.are)

pub takes_present-returns-in_ok-taken-in-Some : goal.takes_present-returns-in_ok-taken-in-Some
takes_present-returns-in_ok-taken-in-Some t c =
    present_there (tables_view c.args.setting.now) (option_map (λ u. type_view u.now) c.present_type.result) (present_type (field_view c.args.field.now)) (kept_view c.args.value.now) c.in_ok-taken-in-Some.taken (type_view c.in-Some.ty.now)
    (ap (option_map (λ u. type_view u.now)) (sym c.in-Some.is)) c.present_type.ensures c.in_ok-taken-in-Some.ensures

pub takes_present-returns-in-None : goal.takes_present-returns-in-None
takes_present-returns-in-None t c =
    present_nowhere (tables_view c.args.setting.now) (option_map (λ u. type_view u.now) c.present_type.result) (present_type (field_view c.args.field.now)) (kept_view c.args.value.now) (ap (option_map (λ u. type_view u.now)) (sym c.in-None.is)) c.present_type.ensures
