use Rattle.std.proofs.Common.{ap, sym, ◌∙◌}
use Rattle.evolve_defs.specs.Walk.{goes}
use Rattle.evolve_rows.specs.TurnView.{pairs_view, turn_view}
use Rattle.evolve_walks.proofs.way.step_between.Goals as goal

pub returns-in_ok-step-in-Goes : goal.returns-in_ok-step-in-Goes
returns-in_ok-step-in-Goes c = c.in_ok-step-in-Goes.ensures (ap (λ ps. goes (pairs_view ps)) c.deref.ensures.value ∙ ap turn_view (sym c.in-Goes.is) ∙ c.in_ok-turn.ensures)
