use Rattle.std.proofs.Common.{subst}
use Rattle.std.specs.Prelude.{IfSome}
use Rattle.evolve_rows.specs.MarksView.{step_view}
use Rattle.evolve_rows.specs.PlaceView.{table_view}
use Rattle.evolve_rows.specs.TurnView.{pair_view}
use Rattle.evolve_walks.specs.Way.{IsStepAt, trail_view}
use Rattle.evolve_walks.proofs.Ways.{trail_longer}
use Rattle.evolve_walks.proofs.way.from_pair.Goals as goal

pub returns-in-None : goal.returns-in-None
returns-in-None c = λ to w. w

pub returns-in_ok-trail-in-Some : goal.returns-in_ok-trail-in-Some
returns-in_ok-trail-in-Some c =
    let old = table_view c.args.tables.now.old in
    let new = table_view c.args.tables.now.new in
    let p = pair_view c.args.from in
    λ to w. trail_longer old new to p (step_view c.in-Some.step) (trail_view c.args.trail) (trail_view c.in_ok-trail-in-Some.trail)
    (subst (λ o. IfSome o (λ s. IsStepAt old new p (step_view s) (pair_view c.args.trail.at))) c.in-Some.is c.in_ok-step.ensures) c.in_ok-trail-in-Some.ensures w
