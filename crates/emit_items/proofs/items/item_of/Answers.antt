use Rattle.std.proofs.Common.{length}
use Rattle.syntax_trees.specs.Item.{item_view}
use Rattle.emit_types.specs.Asked.{space_view, same_part, leads_by}
use Rattle.emit_items.proofs.Made.{newtype_placed}
use Rattle.emit_items.proofs.items.item_of.Goals as goal

pub returns-in_ok-tree-in-Newtype-clause-tree : goal.returns-in_ok-tree-in-Newtype-clause-tree
returns-in_ok-tree-in-Newtype-clause-tree c =
    newtype_placed (space_view c.args.entries.now) (same_part c.args.parts.now) (leads_by c.args.leads.now) (length c.args.defaults.now.items) c.args.id c.args.item.now c.in-Newtype.inner c.in-Newtype.rule
    c.deref-in-Newtype.result.now (item_view c.in_ok-tree-in-Newtype.tree) c.in-Newtype.is (cc) (c.in_ok-tree-in-Newtype.ensures (leads_by c.args.leads.now) (length c.args.defaults.now.items))
