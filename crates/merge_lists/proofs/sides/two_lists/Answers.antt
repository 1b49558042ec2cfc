use Rattle.std.proofs.Common.{ap}
use Rattle.schema_types.specs.View.{array_view}
use Rattle.merge_lists.specs.Plans.{maybe_array}
use Rattle.merge_lists.proofs.Chained.{at_arrays}
use Rattle.merge_lists.proofs.sides.two_lists.Goals as goal

pub returns-in-Some-Some : goal.returns-in-Some-Some
returns-in-Some-Some c = λ join.
    at_arrays join c.args.is_array _ _ _ (maybe_array c.args.first) (maybe_array c.args.second) (array_view c.in-Some-Some.first) (array_view c.in-Some-Some.second)
    (ap maybe_array c.in-Some-Some.is-0) (ap maybe_array c.in-Some-Some.is-1) (c.two_arrays.ensures join)
