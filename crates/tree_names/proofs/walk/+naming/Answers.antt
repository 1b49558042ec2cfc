use Rattle.std.proofs.Common.{arith, sym}
use Rattle.tree_names.proofs.Turns.{parts_turn, parts_end, variants_turn, variants_end}
use Rattle.tree_types.proofs.Sizes.{part_in_parts, front_in_parts, case_in_cases, box_in_rest}
use Rattle.tree_names.proofs.Walks.{front_told, struct_walked}
use Rattle.tree_names.proofs.walk.+naming.Goals as goal

pub named_parts-loop-part-preserved : goal.named_parts-loop-part-preserved
named_parts-loop-part-preserved t c =
    parts_turn _ _ _ c.loop-part.named.items c.push.new.self.items c.deref-part-items.result.now c.loop-part.part-index c.part-item.result c.in_ok-part.part c.loop-part.invariant c.loop-part-test.true c.part-item.is
    c.in_ok-push.ensures.items c.in_ok-part.ensures

pub named_parts-returns : goal.named_parts-returns
named_parts-returns t c = parts_end _ _ c.loop-part.named.items c.deref-part-items.result.now c.args.from.now.items c.loop-part.part-index c.loop-part.invariant (omega arith) c.deref-part-items.ensures.value

pub named_variants-loop-variant-preserved : goal.named_variants-loop-variant-preserved
named_variants-loop-variant-preserved t c =
    variants_turn _ _ _ c.loop-variant.named.items c.push.new.self.items c.deref-variant-items.result.now c.loop-variant.variant-index c.variant-item.result c.in_ok-variant.variant c.loop-variant.invariant c.loop-variant-test.true
    c.variant-item.is c.in_ok-push.ensures.items c.in_ok-variant.ensures

pub named_variants-returns : goal.named_variants-returns
named_variants-returns t c =
    variants_end _ _ c.loop-variant.named.items c.deref-variant-items.result.now c.args.from.now.items c.loop-variant.variant-index c.loop-variant.invariant (omega arith) c.deref-variant-items.ensures.value

pub named_parts-named_part-requires : goal.named_parts-named_part-requires
named_parts-named_part-requires t c =
    let h = part_in_parts c.deref-part-items.result.now c.args.from.now.items c.loop-part.part-index c.part-item.result c.deref-part-items.ensures.value c.loop-part-test.true c.part-item.is in
    (omega (arith, h, c.decreases), tt)

pub named_front-named_part-requires : goal.named_front-named_part-requires
named_front-named_part-requires t c =
    let h = front_in_parts c.deref.result.now c.args.from.now.items c.in-Some.part.now c.deref.ensures.value (sym c.in-Some.ensures.value) in
    (omega (arith, h, c.decreases), tt)

pub named_front-returns-in_ok-push-in-Some : goal.named_front-returns-in_ok-push-in-Some
named_front-returns-in_ok-push-in-Some t c =
    front_told _ _ c.in-Some.part.now c.in_ok-part-in-Some.part c.deref.result.now c.args.from.now.items c.new-named.result.items c.push.new.self.items c.deref.ensures.value (sym c.in-Some.ensures.value) c.new-named.ensures.items
    c.in_ok-push-in-Some.ensures.items c.in_ok-part-in-Some.ensures

pub named_variants-named_variant-requires : goal.named_variants-named_variant-requires
named_variants-named_variant-requires t c =
    let h = case_in_cases c.deref-variant-items.result.now c.args.from.now.items c.loop-variant.variant-index c.variant-item.result c.deref-variant-items.ensures.value c.loop-variant-test.true c.variant-item.is in
    (omega (arith, h, c.decreases), tt)

pub named_rest-named_box-requires : goal.named_rest-named_box-requires
named_rest-named_box-requires t c =
    let h = box_in_rest c.args.from.now c.in-Some.label c.in-Some.tree c.in-Some.is in
    (omega (arith, h, c.decreases), tt)

pub named_tree-returns-in_ok-members-in-Struct : goal.named_tree-returns-in_ok-members-in-Struct
named_tree-returns-in_ok-members-in-Struct t c =
    struct_walked _ _ _ _ c.args.from.now c.in-Struct.name c.in_ok-name-in-Struct.name c.in-Struct.closed c.has_no_fields-is_value.result c.in-Struct.fields c.in_ok-fields-in-Struct.fields c.in_ok-members-in-Struct.members.fields c.in-Struct.rest c.in_ok-rest-in-Struct.rest
    c.in_ok-members-in-Struct.members.rest c.in-Struct.is c.has_no_fields-is_value.ensures c.in_ok-name-in-Struct.ensures.named c.in_ok-fields-in-Struct.ensures c.in_ok-rest-in-Struct.ensures c.in_ok-members-in-Struct.ensures
