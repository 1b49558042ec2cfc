use Rattle.std.proofs.Common.{sym, ◌∙◌}
use Rattle.evolve_rows.specs.TurnView.{pair_view}
use Rattle.evolve_walks.proofs.Ways.{same_at}
use Rattle.evolve_walks.proofs.way.is_at.Goals as goal

pub returns-in-Some : goal.returns-in-Some
returns-in-Some c = λ h. same_at c.args.pairs.now c.args.number c.in-Some.other (pair_view c.args.pair) c.in-Some.ensures.lookup (sym c.are_same.ensures ∙ h)
