use Rattle.merge_sides.specs.Leaves.{leaves_view}
use Rattle.merge_sides.proofs.Behinds.{both_left}
use Rattle.merge_sides.proofs.two_sides.bodies_of.Goals as goal

pub returns : goal.returns
returns c = λ d join less. both_left d join less c.args.walk c.args.has_nulls _ _ c.args.first c.args.second (leaves_view c.args.leaves) c.is_only-is_array.ensures c.is_only-is_object.ensures
