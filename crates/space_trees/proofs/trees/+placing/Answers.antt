use Rattle.std.proofs.Common.{None, option_map, arith, sym, ap, ◌∙◌}
use Rattle.std.specs.Option.{option_copied}
use Rattle.entry_types.specs.View.{id_view}
use Rattle.entry_space.specs.Seen.{seen}
use Rattle.tree_types.specs.View.{contents_view, tree_view, parts_of}
use Rattle.space_trees.specs.Placed.{placed, placed_contents}
use Rattle.space_trees.specs.Leading.{ids_of}
use Rattle.space_trees.proofs.Falls.{part_falls, first_falls, case_falls}
use Rattle.space_trees.proofs.Arms.{closed_arm, open_arm, enum_arm, tuple_contents_arm, struct_contents_arm}
use Rattle.space_trees.proofs.trees.+placing.Goals as goal

-- ---- what falls

pub place_parts-place_tree-requires : goal.place_parts-place_tree-requires
place_parts-place_tree-requires t c =
    let h = part_falls c.deref-part-items.result.now c.args.parts.now.items c.loop-part.part-index c.part-item.result c.in-Some.tree c.deref-part-items.ensures.value c.loop-part-test.true c.part-item.is c.in-Some.is in
    (omega (arith, h, c.decreases), tt)

pub place_first-place_tree-requires : goal.place_first-place_tree-requires
place_first-place_tree-requires t c =
    let h = first_falls c.deref.result.now c.args.parts.now.items c.in-Some.part.now c.in-Some-1₀.tree c.deref.ensures.value (ap option_copied (sym c.in-Some.is) ∙ c.first.ensures.value) c.in-Some-1₀.is in
    (omega (arith, h, c.decreases), tt)

pub place_variants-place_variant-requires : goal.place_variants-place_variant-requires
place_variants-place_variant-requires t c =
    let h = case_falls c.deref-variant-items.result.now c.args.variants.now.items c.loop-variant.variant-index c.variant-item.result c.deref-variant-items.ensures.value c.loop-variant-test.true c.variant-item.is in
    (omega (arith, h, c.decreases), tt)

-- ---- forms of trees and of contents

pub place_tree-returns-in_ok-id-in-Some : goal.place_tree-returns-in_ok-id-in-Some
place_tree-returns-in_ok-id-in-Some t c =
    let ids = ids_of c.args.led.now in
    let at = option_map id_view c.args.at in
    let s = seen c.args.space.now in
    ap (λ z. placed ids at (tree_view z) s) c.in-Struct.is
    ∙ open_arm ids at c.in-Struct.name c.label_text.result.now c.in-Struct.closed c.in-Struct.fields c.in-Struct.rest c.in-Some.rest s (seen c.open_at.new.space) (seen c.place_parts-in-Struct.new.space)
    (seen c.place_tree-in-Some.new.space) (id_view c.in_ok-id-in-Struct.id) (id_view c.in_ok-rest-in-Some.rest) _ _ c.in-Some.is c.label_text.ensures c.in_ok-id-in-Struct.ensures c.in_ok-ids-in-Struct.ensures
    (ap (λ z. placed ids None (tree_view z) (seen c.place_parts-in-Struct.new.space)) (sym c.deref-in-Some.ensures) ∙ c.in_ok-rest-in-Some.ensures) c.in_ok-id-in-Some.ensures

pub place_tree-returns-in_ok-id-in-None : goal.place_tree-returns-in_ok-id-in-None
place_tree-returns-in_ok-id-in-None t c =
    let ids = ids_of c.args.led.now in
    let at = option_map id_view c.args.at in
    let s = seen c.args.space.now in
    ap (λ z. placed ids at (tree_view z) s) c.in-Struct.is
    ∙ closed_arm ids at c.in-Struct.name c.label_text.result.now c.in-Struct.closed c.in-Struct.fields c.in-Struct.rest s (seen c.open_at.new.space) (seen c.place_parts-in-Struct.new.space) (id_view c.in_ok-id-in-Struct.id) _ _ c.in-None.is
    c.label_text.ensures c.in_ok-id-in-Struct.ensures c.in_ok-ids-in-Struct.ensures c.in_ok-id-in-None.ensures

pub place_tree-returns-in_ok-id-in-Enum-2 : goal.place_tree-returns-in_ok-id-in-Enum-2
place_tree-returns-in_ok-id-in-Enum-2 t c =
    let ids = ids_of c.args.led.now in
    let at = option_map id_view c.args.at in
    let s = seen c.args.space.now in
    ap (λ z. placed ids at (tree_view z) s) c.in-Enum.is
    ∙ enum_arm ids at c.in-Enum.name c.label_text-in-Enum.result.now c.in-Enum.closed c.in-Enum.tag c.in-Enum.variants s (seen c.open_at-in-Enum.new.space) (seen c.place_variants.new.space) (id_view c.in_ok-id-in-Enum.id) _ _
    c.label_text-in-Enum.ensures c.in_ok-id-in-Enum.ensures c.in_ok-variants-in-Enum.ensures c.in_ok-id-in-Enum-2.ensures

pub place_contents-returns-in_ok-ids-in-Tuple-2 : goal.place_contents-returns-in_ok-ids-in-Tuple-2
place_contents-returns-in_ok-ids-in-Tuple-2 t c =
    let ids = ids_of c.args.led.now in
    let ps = c.args.parts.now.items in
    ap (λ k. placed_contents ids (contents_view k (parts_of ps)) (seen c.args.space.now)) c.in-Tuple.is
    ∙ tuple_contents_arm ids ps (seen c.args.space.now) (seen c.place_parts.new.space) _ _ c.in_ok-ids-in-Tuple.ensures c.in_ok-ids-in-Tuple-2.ensures

pub place_contents-returns-in_ok-fields-in-Struct : goal.place_contents-returns-in_ok-fields-in-Struct
place_contents-returns-in_ok-fields-in-Struct t c =
    let ids = ids_of c.args.led.now in
    let ps = c.args.parts.now.items in
    ap (λ k. placed_contents ids (contents_view k (parts_of ps)) (seen c.args.space.now)) c.in-Struct.is
    ∙ struct_contents_arm ids ps (seen c.args.space.now) (seen c.place_parts-in-Struct.new.space) _ _ _ c.in_ok-ids-in-Struct.ensures c.in_ok-ids-in-Struct-2.ensures c.in_ok-fields-in-Struct.ensures
