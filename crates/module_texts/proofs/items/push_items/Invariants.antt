use Rattle.std.proofs.Common.{◌≡◌, ◌++◌, drop, map, string_bytes}
use Rattle.syntax_trees.specs.Item.{item_view}
use Rattle.module_texts.specs.Docs.{doc_view}
use Rattle.module_texts.specs.Items.{items_text}
use Rattle.module_texts.proofs.items.push_items.Given as goal

abbrev pub invariant-loop-item : goal.invariant-loop-item
invariant-loop-item l = string_bytes l.out ++ items_text l.hashed (map item_view (drop l.item-index l.items)) (map doc_view l.docs_left) l.left ≡ string_bytes l.initial.out ++ items_text l.hashed (map item_view l.items) (map doc_view l.docs) l.constraints
