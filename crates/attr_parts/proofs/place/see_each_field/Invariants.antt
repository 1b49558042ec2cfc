use Rattle.std.proofs.Common.{◌≡◌, drop, map}
use Rattle.syntax_trees.specs.Item.{field_view}
use Rattle.attr_parts.specs.Places.{each_field_spans, reached}
use Rattle.attr_parts.proofs.place.see_each_field.Given as goal

abbrev pub invariant-loop-item : goal.invariant-loop-item
invariant-loop-item l = reached l.reach (each_field_spans (map field_view (drop l.item-index l.from))) ≡ reached l.initial.reach (each_field_spans (map field_view l.from))
