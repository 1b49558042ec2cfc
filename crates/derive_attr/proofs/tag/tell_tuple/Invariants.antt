use Rattle.std.proofs.Common.{◌≡◌, drop, map}
use Rattle.syntax_trees.specs.Item.{variant_view}
use Rattle.attr_parts.specs.Diagnostics.{diagnostics}
use Rattle.attr_defs.specs.Container.{tuple_told}
use Rattle.derive_attr.proofs.tag.tell_tuple.Given as goal

abbrev pub invariant-loop-variant : goal.invariant-loop-variant
invariant-loop-variant l = record {
  rest : tuple_told (map variant_view l.variants) ≡ tuple_told (map variant_view (drop l.variant-index l.variants));
  same : diagnostics l.cx ≡ diagnostics l.initial.cx;
}
