use Rattle.std.proofs.Common.{ap, sym, ◌∙◌, refl}
use Rattle.token_trees.specs.declared.copy.Level.{Level}
use Rattle.token_trees.specs.View.{stream}
use Rattle.token_trees.proofs.Copies.{group_opened, group_closed, opened_less, closed_less}
use Rattle.token_trees.proofs.copy.copy_stream.Goals as goal

pub loop-tree-smaller-in-Group : goal.loop-tree-smaller-in-Group
loop-tree-smaller-in-Group c =
    let g = c.in-Group.group in
    let l : Level = record { copied = c.replace.result; left = c.in-Some.rest; delimiter = g.delimiter; span = c.chosen_span.result } in
    opened_less c.loop-tree.levels.items c.push.new.self.items l c.loop-tree.left.now c.trees-left-in-Group.result.now c.in-Some.tree.now g
    c.in-Group.is (sym c.trees-left-in-Group.ensures) c.in-Some.ensures.cases.0 c.in_ok-push.ensures.items

pub loop-tree-preserved-in-Group : goal.loop-tree-preserved-in-Group
loop-tree-preserved-in-Group c =
    let g = c.in-Group.group in
    let l : Level = record { copied = c.replace.result; left = c.in-Some.rest; delimiter = g.delimiter; span = c.chosen_span.result } in
    group_opened c.args.span _ c.loop-tree.levels.items c.push.new.self.items l (stream c.loop-tree.copied) (stream c.replace.new.dest) c.loop-tree.left.now c.trees-left-in-Group.result.now c.in-Some.tree.now g
    c.loop-tree.invariant c.in-Group.is (sym c.trees-left-in-Group.ensures) c.in-Some.ensures.cases.0 (ap stream c.replace.ensures.value) refl
    c.chosen_span.ensures c.in_ok-push.ensures.items (ap stream c.replace.ensures.after ∙ c.new.ensures)

pub loop-tree-smaller : goal.loop-tree-smaller
loop-tree-smaller c =
    closed_less c.pop.new.self.items c.loop-tree.levels.items c.in-Some-pop.level c.loop-tree.left.now c.in-Some-pop.ensures.items

pub loop-tree-preserved : goal.loop-tree-preserved
loop-tree-preserved c =
    group_closed c.args.span _ c.pop.new.self.items c.loop-tree.levels.items c.in-Some-pop.level (stream c.loop-tree.copied) (stream c.in_ok-copied.copied) c.loop-tree.left.now
    c.loop-tree.invariant c.in_default.ensures.cases c.in-Some-pop.ensures.items c.in_ok-copied.ensures
