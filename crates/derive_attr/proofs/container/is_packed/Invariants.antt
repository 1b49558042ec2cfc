use Rattle.std.proofs.Common.{◌≡◌, drop, map}
use Rattle.std.specs.List.{list_any}
use Rattle.syntax_trees.specs.Item.{attribute_view}
use Rattle.attr_defs.specs.Container.{is_packing}
use Rattle.derive_attr.proofs.container.is_packed.Given as goal

abbrev pub invariant-loop-attribute : goal.invariant-loop-attribute
invariant-loop-attribute l = list_any is_packing (map attribute_view l.attributes) ≡ list_any is_packing (map attribute_view (drop l.attribute-index l.attributes))
