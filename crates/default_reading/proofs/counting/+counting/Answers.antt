use Rattle.std.proofs.Common.{◌≡◌, option_map, ap, arith}
use Rattle.default_reading.proofs.Counted.{struct_counts}
use Rattle.default_reading.proofs.Weights.{parts_weight, maybe_weight, cases_weight, enum_weighs, part_in, place_in, case_in_list}
use Rattle.default_reading.proofs.counting.+counting.Goals as goal

pub count_tree-count_variants-requires : goal.count_tree-count_variants-requires
count_tree-count_variants-requires t c =
    let h = enum_weighs c.args.tree.now c.in-Enum.name c.in-Enum.closed c.in-Enum.tag c.in-Enum.variants c.in-Enum.is in
    let d : cases_weight c.deref-in-Enum.result.now ≡ cases_weight c.in-Enum.variants.items = ap cases_weight c.deref-in-Enum.ensures.value in
    (omega (arith, h, d, c.decreases), tt)

pub count_places-count_maybe-requires : goal.count_places-count_maybe-requires
count_places-count_maybe-requires t c =
    let h = place_in c.args.places.now c.loop-place.place-index c.place-item.result (omega arith) c.place-item.is in
    let d : maybe_weight (option_map (λ x. x.now) c.as_ref.result) ≡ maybe_weight c.place-item.result.1 = ap maybe_weight c.as_ref.ensures.value in
    (omega (arith, h, d, c.decreases), tt)

pub count_fields-count_field-requires : goal.count_fields-count_field-requires
count_fields-count_field-requires t c =
    let h = part_in c.args.fields.now c.loop-field.field-index c.field-item.result (omega arith) c.field-item.is in
    (omega (arith, h, c.decreases), tt)

pub count_variants-count_contents-requires : goal.count_variants-count_contents-requires
count_variants-count_contents-requires t c =
    let h = case_in_list c.args.variants.now c.loop-variant.variant-index c.variant-item.result (omega arith) c.variant-item.is in
    let d : parts_weight c.deref.result.now ≡ parts_weight c.variant-item.result.1.items = ap parts_weight c.deref.ensures.value in
    (omega (arith, h, d, c.decreases), tt)

pub count_tree-returns-in_ok-total-in-Struct-clause-answer : goal.count_tree-returns-in_ok-total-in-Struct-clause-answer
count_tree-returns-in_ok-total-in-Struct-clause-answer t c =
    struct_counts c.args.tree.now c.in-Struct.name c.in-Struct.closed c.in-Struct.fields c.in-Struct.rest c.deref-in-Struct.result.now (option_map (λ x. x.now) c.rest_tree-rest.result) _ _ _ c.in-Struct.is c.deref-in-Struct.ensures.value
    c.rest_tree-rest.ensures c.in_ok-of_fields-in-Struct.ensures.answer c.in_ok-of_rest-in-Struct.ensures.answer c.in_ok-total-in-Struct.ensures.answer
