use Rattle.std.proofs.Common.{◌++◌, map, take, string_bytes, subst, ap, sym, ◌∙◌, append_assoc}
use Rattle.derive_model.specs.declared.verdict.Verdict.{Verdict}
use Rattle.derive_model.specs.VerdictView.{verdict_view}
use Rattle.typify_run.specs.Page.{verdict_line, verdict_lines, IsPrintable}
use Rattle.typify_run.proofs.Verdicts.{verdict_lines-more, printable_at}
use Rattle.typify_run.proofs.report.push_verdicts.Goals as goal

pub verdict_line-requires : goal.verdict_line-requires
verdict_line-requires c =
    let r = c.index-verdicts-index.result in
    subst (λ (v : Verdict). IsPrintable (verdict_view v)) (sym c.index-verdicts-index.is) (printable_at verdict_view c.args.verdicts.now c.loop-index.index r c.requires c.loop-index-test.true)

pub loop-index-preserved : goal.loop-index-preserved
loop-index-preserved c =
    let r = c.index-verdicts-index.result in
    let i = c.loop-index.index in
    let xs = c.args.verdicts.now in
    let start = string_bytes c.args.out.now in
    let lines = verdict_lines 0 (map verdict_view (take i xs)) in
    let more = verdict_lines-more verdict_view xs i r c.loop-index-test.true in
    let here = ap (λ (v : Verdict). verdict_line i (verdict_view v)) c.index-verdicts-index.is in
    let assoc = append_assoc start lines (verdict_line i (verdict_view r)) in
    c.in_ok-push_str.ensures.bytes
    ∙ (λ j. c.loop-index.invariant j ++ (c.deref.ensures ∙ c.in_ok-verdict_line.ensures) j)
    ∙ assoc ∙ ap (λ ls. start ++ ls) (ap (λ l. lines ++ l) here ∙ sym more)
