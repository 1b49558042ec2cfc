use Rattle.std.proofs.Common.{◌≡◌, ◌+◌, ap, ◌∙◌, arith}
use Rattle.model_defs.specs.Reads.{allowed}
use Rattle.value_models.specs.TypeView.{type_view}
use Rattle.evolve_rows.specs.PlaceView.{table_view}
use Rattle.evolve_rows.specs.Questions.{item_answer, type_answer}
use Rattle.evolve_rows.proofs.question.fresh_answer.Goals as goal

pub returns : goal.returns
returns c =
    let h : c.count.result + 1 ≡ allowed (table_view c.args.table.now).models = omega (arith, c.count.ensures.count) in
    c.type_answer.ensures ∙ ap (λ k. type_answer c.args.question (item_answer c.args.question (table_view c.args.table.now).models k) (type_view c.args.ty.now)) h
