use Rattle.std.proofs.Common.{◌≡◌, drop, map}
use Rattle.syntax_trees.specs.Item.{item_view}
use Rattle.module_texts.specs.Asked.{items_have}
use Rattle.module_texts.proofs.asked.items_have.Given as goal

abbrev pub invariant-loop-item : goal.invariant-loop-item
invariant-loop-item l = items_have l.asked l.found (map item_view (drop l.item-index l.items)) ≡ items_have l.asked l.before (map item_view l.items)
