use Rattle.std.proofs.Common.{◌≡◌, drop, map}
use Rattle.syntax_trees.specs.Item.{attribute_view}
use Rattle.attr_parts.specs.Places.{metas_spans, reached}
use Rattle.attr_parts.proofs.place.see_attributes.Given as goal

abbrev pub invariant-loop-item : goal.invariant-loop-item
invariant-loop-item l = reached l.reach (metas_spans (map attribute_view (drop l.item-index l.from))) ≡ reached l.initial.reach (metas_spans (map attribute_view l.from))
