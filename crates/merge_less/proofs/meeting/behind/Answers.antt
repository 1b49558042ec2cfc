use Rattle.std.proofs.Common.{option_map}
use Rattle.schema_types.specs.View.{same_of, subschemas_view}
use Rattle.merge_members.specs.Plans.{maybe_members}
use Rattle.merge_less.proofs.Rowing.{behind_by}
use Rattle.merge_less.proofs.meeting.behind.Goals as goal

pub returns : goal.returns
returns c = λ join less.
    behind_by join less c.args.object _ _ _ _ (maybe_members c.args.members) (same_of (option_map subschemas_view c.args.subschemas)) (c.in_ok-entries.ensures less) (c.in_ok-parts.ensures join less)
