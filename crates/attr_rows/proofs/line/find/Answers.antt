use Rattle.std.proofs.Common.{sym, ◌∙◌}
use Rattle.token_trees.specs.View.{trees}
use Rattle.attr_rows.proofs.Lines.{line_here, line_later}
use Rattle.attr_rows.proofs.line.find.Goals as goal

pub returns-then-is_path : goal.returns-then-is_path
returns-then-is_path c =
    let l = c.loop-line in
    sym (l.invariant ∙ line_here c.args.lines.now l.line-index _ (trees c.args.path.now) c.loop-line-test.true (sym c.is_path.ensures ∙ c.if-is_path.true))

pub loop-line-preserved : goal.loop-line-preserved
loop-line-preserved c =
    let l = c.loop-line in
    l.invariant ∙ line_later c.args.lines.now l.line-index _ (trees c.args.path.now) c.loop-line-test.true (sym c.is_path.ensures ∙ c.if-is_path.false)
