use Rattle.conversion_table.specs.Conversions.{conversions_view}
use Rattle.json_value.specs.View.{kept_view}
use Rattle.value_models.specs.ContainersView.{containers_in}
use Rattle.value_models.specs.TypeView.{type_view}
use Rattle.value_taking.proofs.Levels.{value_here}
use Rattle.value_taking.proofs.taking.takes.Goals as goal

pub returns-in-Ok : goal.returns-in-Ok
returns-in-Ok c =
    value_here (record { models = containers_in c.args.containers.now; conversions = conversions_view c.args.conversions.now }) (type_view c.args.ty.now) (kept_view c.args.value.now) c.in-Ok.taken c.in-Ok.ensures
