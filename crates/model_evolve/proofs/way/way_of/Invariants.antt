use Rattle.std.proofs.Common.{◌≡◌, ◌++◌, drop}
use Rattle.evolve_walks.specs.Way.{marks_view}
use Rattle.model_evolve.specs.WayView.{way_view}
use Rattle.model_evolve.proofs.way.way_of.Given as goal

abbrev pub invariant-loop-mark : goal.invariant-loop-mark
invariant-loop-mark l = way_view l.way.items ++ marks_view (drop l.mark-index l.marks) ≡ marks_view l.marks
