use Rattle.std.proofs.Common.{map, ap}
use Rattle.merge_walked.specs.Seen.{side_view}
use Rattle.merge_walked.proofs.Lists.{begins}
use Rattle.merge_walked.proofs.side.list_sides.Goals as goal

pub loop-place-init : goal.loop-place-init
loop-place-init c =
    begins c.args.walk.now c.args.keyword.now c.args.list.now.items (map side_view c.in_ok-sides.sides.items) (ap (map side_view) c.in_ok-sides.ensures.items)
