use Rattle.value_models.specs.TypeView.{type_view}
use Rattle.evolve_rows.specs.PlaceView.{table_view}
use Rattle.evolve_rows.proofs.Answered.{scalar}
use Rattle.evolve_rows.proofs.question.is_scalar.Goals as goal

pub returns : goal.returns
returns c = scalar (table_view c.args.table.now).models (type_view c.args.ty.now) c.fresh_answer.result c.fresh_answer.ensures
