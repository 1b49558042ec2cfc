use Rattle.std.proofs.Common.{ap}
use Rattle.schema_types.specs.View.{schemas_view}
use Rattle.merge_walked.proofs.Lists.{begins}
use Rattle.merge_walked.proofs.inside.copy_list.Goals as goal

pub loop-place-init : goal.loop-place-init
loop-place-init c =
    begins c.args.walk.now c.args.keyword.now c.args.list.now.items (schemas_view c.in_ok-copies.copies.items) (ap schemas_view c.in_ok-copies.ensures.items)
