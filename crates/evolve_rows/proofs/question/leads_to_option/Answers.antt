use Rattle.value_models.specs.TypeView.{type_view}
use Rattle.evolve_rows.specs.PlaceView.{table_view}
use Rattle.evolve_rows.proofs.Answered.{leads}
use Rattle.evolve_rows.proofs.question.leads_to_option.Goals as goal

pub returns : goal.returns
returns c = leads (table_view c.args.table.now).models (type_view c.args.ty.now) c.fresh_answer.result c.fresh_answer.ensures
