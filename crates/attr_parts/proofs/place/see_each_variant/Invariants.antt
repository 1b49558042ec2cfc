use Rattle.std.proofs.Common.{◌≡◌, drop, map}
use Rattle.syntax_trees.specs.Item.{variant_view}
use Rattle.attr_parts.specs.Places.{each_variant_spans, reached}
use Rattle.attr_parts.proofs.place.see_each_variant.Given as goal

abbrev pub invariant-loop-item : goal.invariant-loop-item
invariant-loop-item l = reached l.reach (each_variant_spans (map variant_view (drop l.item-index l.from))) ≡ reached l.initial.reach (each_variant_spans (map variant_view l.from))
