use Rattle.std.proofs.Common.{arith}
use Rattle.tree_names.proofs.Turns.{trees_turn, trees_end}
use Rattle.tree_names.proofs.table.named_trees.Goals as goal

pub loop-tree-preserved : goal.loop-tree-preserved
loop-tree-preserved c =
    trees_turn _ _ _ c.loop-tree.named.items c.push.new.self.items c.deref-tree-items.result.now c.loop-tree.tree-index c.tree-item.result c.in_ok-tree.tree c.loop-tree.invariant c.loop-tree-test.true c.tree-item.is c.in_ok-push.ensures.items
    c.in_ok-tree.ensures

pub returns : goal.returns
returns c = trees_end _ _ c.loop-tree.named.items c.deref-tree-items.result.now c.args.trees.now.items c.loop-tree.tree-index c.loop-tree.invariant (omega arith) c.deref-tree-items.ensures.value
