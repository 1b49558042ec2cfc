use Rattle.std.proofs.Common.{◌++◌, false, sym, ◌∙◌}
use Rattle.admission_run.proofs.Fronts.{lines-more}
use Rattle.admission_run.proofs.lines.page.Goals as goal

pub loop-index-preserved : goal.loop-index-preserved
loop-index-preserved c =
    c.in_ok-push_str.ensures.bytes
    ∙ (λ j. c.loop-index.invariant j ++ (c.deref.ensures ∙ c.in_ok-verdict_line.ensures) j)
    ∙ sym (lines-more c.args.answers.now c.loop-index.index false c.loop-index-test.true)
