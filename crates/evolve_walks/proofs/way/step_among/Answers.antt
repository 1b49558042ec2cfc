use Rattle.std.proofs.Common.{ap, ◌∙◌}
use Rattle.evolve_rows.specs.MarksView.{steps_view}
use Rattle.evolve_rows.specs.PlaceView.{table_view}
use Rattle.evolve_rows.specs.TurnView.{pair_view}
use Rattle.evolve_walks.proofs.Ways.{step_told}
use Rattle.evolve_walks.proofs.way.step_among.Goals as goal

pub returns-in-Some-get : goal.returns-in-Some-get
returns-in-Some-get c =
    λ t. step_told (table_view c.args.tables.now.old) (table_view c.args.tables.now.new) (pair_view c.args.from) (pair_view c.args.to) c.args.pairs.now c.in-Some.number c.deref.result.now c.in-Some-get.step t
    c.in-Some.ensures c.in-Some-get.ensures.lookup (ap steps_view c.deref.ensures.value ∙ c.in_ok-steps.ensures)
