use Rattle.std.proofs.Common.{◌≡◌, ◌-◌, suc, arith}
use Rattle.evolve_rows.specs.PlaceView.{table_view}
use Rattle.evolve_rows.proofs.Answered.{answer_entered}
use Rattle.evolve_rows.proofs.question.+answers.Goals as goal

pub item_answer-returns-in-Some : goal.item_answer-returns-in-Some
item_answer-returns-in-Some t c =
    let h : c.args.left ≡ suc (c.args.left - 1) = omega (arith, c.if-left-eq0.false) in
    answer_entered c.args.question (table_view c.args.table.now).models (c.args.left - 1) c.args.left c.args.name.now _ _ h c.in-Some.ensures c.container_answer.ensures
