use Rattle.std.proofs.Common.{◌≡◌, map, drop}
use Rattle.std.specs.List.{list_any, flat_map}
use Rattle.syntax_trees.specs.Item.{item_view}
use Rattle.container_defs.specs.Forms.{names_of}
use Rattle.derive_ast.specs.Views.{variant_view}
use Rattle.item_forms.specs.FieldTests.{field_test}
use Rattle.item_forms.proofs.fields.any_in_variants.Given as goal

abbrev pub invariant-loop-variant : goal.invariant-loop-variant
invariant-loop-variant l =
    let asked = field_test (names_of (map item_view l.names.items.now)) l.test in
    list_any asked (flat_map (λ v. v.fields) (map variant_view l.variants)) ≡ list_any asked (flat_map (λ v. v.fields) (map variant_view (drop l.variant-index l.variants)))
