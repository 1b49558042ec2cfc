use Rattle.std.proofs.Common.{◌≡◌, map, drop}
use Rattle.std.specs.List.{list_any}
use Rattle.merge_branches.specs.Kept.{left_view}
use Rattle.merge_branches.specs.Tests.{passes}
use Rattle.merge_branches.proofs.made.has.Given as goal

abbrev pub invariant-loop-left : goal.invariant-loop-left
invariant-loop-left l = list_any (passes l.test) (map left_view l.left-items) ≡ list_any (passes l.test) (map left_view (drop l.left-index l.left-items))
