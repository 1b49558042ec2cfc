use Rattle.std.proofs.Common.{ap}
use Rattle.schema_types.specs.View.{members_view}
use Rattle.merge_members.specs.Plans.{maybe_members}
use Rattle.merge_members.proofs.Endings.{at_members}
use Rattle.merge_members.proofs.sides.two_members.Goals as goal

pub returns-in-Some-Some : goal.returns-in-Some-Some
returns-in-Some-Some c = λ join.
    at_members join c.args.has_nulls c.args.is_object _ _ _ (maybe_members c.args.first) (maybe_members c.args.second) (members_view c.in-Some-Some.first) (members_view c.in-Some-Some.second)
    (ap maybe_members c.in-Some-Some.is-0) (ap maybe_members c.in-Some-Some.is-1) (c.both_members.ensures join)
