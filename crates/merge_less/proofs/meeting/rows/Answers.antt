use Rattle.schema_types.specs.View.{schema_view}
use Rattle.merge_sides.proofs.Meeting.{object_seen_in}
use Rattle.merge_less.proofs.Rowing.{of_second}
use Rattle.merge_less.proofs.meeting.rows.Goals as goal

pub returns-in-Object : goal.returns-in-Object
returns-in-Object c = λ join less.
    of_second join less c.args.is_exact _ _ (schema_view c.args.first) (schema_view c.args.second) c.in-Object.second.value c.into_inner.result _ c.into_inner.ensures (object_seen_in c.args.second c.in-Object.second c.in-Object.is)
    (c.from_side.ensures join less)
