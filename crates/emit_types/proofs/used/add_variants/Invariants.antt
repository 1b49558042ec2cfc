use Rattle.std.proofs.Common.{◌≡◌, ◌++◌, drop, map, flat_map}
use Rattle.entry_types.specs.View.{variant_view}
use Rattle.space_defs.specs.Uses.{used_by_contents}
use Rattle.emit_types.proofs.used.add_variants.Given as goal

abbrev pub invariant-loop-variant : goal.invariant-loop-variant
invariant-loop-variant l =
    l.ids.items ++ flat_map (λ x. used_by_contents x.contents) (map variant_view (drop l.variant-index l.variants))
    ≡ l.initial.ids.items ++ flat_map (λ x. used_by_contents x.contents) (map variant_view l.variants)
