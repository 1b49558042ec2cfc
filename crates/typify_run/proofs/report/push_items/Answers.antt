use Rattle.std.proofs.Common.{◌++◌, take, string_bytes, ap, sym, ◌∙◌, append_assoc}
use Rattle.typify_run.specs.Page.{item_line, item_lines}
use Rattle.typify_run.proofs.Lines.{one_more}
use Rattle.typify_run.proofs.report.push_items.Goals as goal

pub loop-item-preserved : goal.loop-item-preserved
loop-item-preserved c =
    let r = c.item-item.result in
    let i = c.loop-item.item-index in
    let xs = c.args.items.now in
    let start = string_bytes c.args.out.now in
    let lines = item_lines (take i xs) in
    let here = ap item_line c.item-item.is in
    let more = one_more item_line xs i r c.loop-item-test.true in
    c.in_ok-push_str.ensures.bytes
    ∙ (λ j. c.loop-item.invariant j ++ (c.deref.ensures ∙ c.in_ok-item_line.ensures) j)
    ∙ append_assoc start lines (item_line r) ∙ ap (λ ls. start ++ ls) (ap (λ l. lines ++ l) here ∙ sym more)
