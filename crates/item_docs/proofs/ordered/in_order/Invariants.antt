use Rattle.std.proofs.Common.{◌≡◌, ◌++◌, drop, map}
use Rattle.syntax_trees.specs.Item.{item_view}
use Rattle.module_texts.specs.Docs.{doc_view}
use Rattle.item_docs.specs.Docs.{in_order}
use Rattle.item_docs.proofs.ordered.in_order.Given as goal

abbrev pub invariant-loop-item : goal.invariant-loop-item
invariant-loop-item l = map doc_view l.ordered.items ++ in_order (map doc_view l.docs) (map item_view (drop l.item-index l.items)) ≡ in_order (map doc_view l.docs) (map item_view l.items)
