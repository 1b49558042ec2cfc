use Rattle.std.proofs.Common.{ap, sym, ◌∙◌, refl}
use Rattle.token_trees.specs.View.{trees}
use Rattle.token_trees.proofs.Views.{stream_out}
use Rattle.token_trees.proofs.Levels.{says_more, behind_leaf, inside_group, behind_level, tree_less, group_less, level_less}
use Rattle.token_trees.proofs.text.print_stream.Goals as goal

pub loop-left-smaller-in_default-split_first : goal.loop-left-smaller-in_default-split_first
loop-left-smaller-in_default-split_first c =
    level_less c.loop-left.levels.items c.pop.new.self.items c.in-Some.field-0 c.in-Some.ensures.items

pub loop-left-preserved-in_default-split_first : goal.loop-left-preserved-in_default-split_first
loop-left-preserved-in_default-split_first c =
    let e = behind_level c.loop-left.levels.items c.pop.new.self.items c.in-Some.field-0 c.in-Some.ensures.items c.in_default-split_first.ensures.cases in
    says_more _ _ _ _ _ _ _ _ _ _ c.loop-left.invariant e c.in_ok-close.ensures.text c.in_ok-close.ensures.tight

pub loop-left-smaller : goal.loop-left-smaller
loop-left-smaller c =
    tree_less c.loop-left.levels.items c.pop.new.self.items c.push-in-Some.new.self.items c.in-Some.field-0 _ c.in-Some-split_first.tree.now
    c.in-Some.ensures.items c.in-Some-split_first.ensures.cases.0 c.in_ok-push-2.ensures.items

pub loop-left-preserved : goal.loop-left-preserved
loop-left-preserved c =
    let e = behind_leaf c.loop-left.levels.items c.pop.new.self.items c.push-in-Some.new.self.items c.in-Some.field-0 (record { left = c.in-Some-split_first.rest; delimiter = c.in-Some.field-0.delimiter }) c.in-Some-split_first.tree.now
    c.in_default-tree.not-Group c.in-Some.ensures.items c.in-Some-split_first.ensures.cases.0 refl c.in_ok-push-2.ensures.items in
    says_more _ _ _ _ _ _ _ _ _ _ c.loop-left.invariant e c.in_ok-begin.ensures.text c.in_ok-begin.ensures.tight

pub loop-left-smaller-in-Continue-branch-5 : goal.loop-left-smaller-in-Continue-branch-5
loop-left-smaller-in-Continue-branch-5 c =
    let g = c.in-Group.group in
    group_less c.loop-left.levels.items c.pop.new.self.items c.push-in-Some.new.self.items c.push-in-Group.new.self.items c.in-Some.field-0
    (record { left = c.in-Some-split_first.rest; delimiter = c.in-Some.field-0.delimiter }) (record { left = c.deref-in-Group.result; delimiter = g.delimiter })
    c.in-Some-split_first.tree.now g c.in-Group.is (stream_out g.stream ∙ sym (ap trees c.deref-in-Group.ensures.value)) c.in-Some.ensures.items c.in-Some-split_first.ensures.cases.0 c.in_ok-push-2.ensures.items c.in_ok-push-3.ensures.items

pub loop-left-preserved-in-Continue-branch-5 : goal.loop-left-preserved-in-Continue-branch-5
loop-left-preserved-in-Continue-branch-5 c =
    let g = c.in-Group.group in
    let e = inside_group c.loop-left.levels.items c.pop.new.self.items c.push-in-Some.new.self.items c.push-in-Group.new.self.items c.in-Some.field-0
    (record { left = c.in-Some-split_first.rest; delimiter = c.in-Some.field-0.delimiter }) (record { left = c.deref-in-Group.result; delimiter = g.delimiter })
    c.in-Some-split_first.tree.now g c.in-Group.is refl (stream_out g.stream ∙ sym (ap trees c.deref-in-Group.ensures.value)) c.in-Some.ensures.items c.in-Some-split_first.ensures.cases.0 refl c.in_ok-push-2.ensures.items c.in_ok-push-3.ensures.items in
    says_more _ _ _ _ _ _ _ _ _ _ c.loop-left.invariant e c.in_ok-begin.ensures.text c.in_ok-begin.ensures.tight
