use Rattle.std.proofs.Common.{◌≤◌}
use Rattle.case_items.proofs.header.parts_of.Given as goal

abbrev pub invariant-loop-index : goal.invariant-loop-index
invariant-loop-index l = l.start ≤ l.index
