use Rattle.std.proofs.Common.{rules}
use Rattle.merge_leaves.proofs.Patterns.{new_seen, seen_before}
use Rattle.merge_leaves.proofs.texts.each_once.Goals as goal
use Rattle.merge_leaves.proofs.texts.each_once.Goals.{then-branch+in_ok-from_str+in_ok-push, else-branch}

pub loop-text-preserved : goal.loop-text-preserved
loop-text-preserved c =
    let l = c.loop-text in
    let xs = c.deref-text-items.result.now in
    elim c.if-branch.branch [
      | then-branch+in_ok-from_str+in_ok-push w ↦ new_seen xs l.text-index _ l.seen c.insert.new.self c.in_ok-insert.field-0 l.kept.items c.if-branch.kept.items _ w.in_ok-from_str.field-0 c.loop-text-test.true c.in_ok-insert.ensures.added w.if-branch.true
          c.in_ok-insert.ensures.updates (search rules) (search rules) l.invariant
      | else-branch w ↦ seen_before xs l.text-index _ l.seen c.insert.new.self c.in_ok-insert.field-0 l.kept.items c.if-branch.kept.items _ c.loop-text-test.true c.in_ok-insert.ensures.added w.if-branch.false
          (search rules) (search rules) l.invariant
    ]
