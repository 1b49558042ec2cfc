use Rattle.schema_types.specs.View.{schema_view}
use Rattle.merge_sides.proofs.Meeting.{object_seen_in}
use Rattle.merge_less.proofs.Rowing.{of_object}
use Rattle.merge_less.proofs.meeting.from_side.Goals as goal

pub returns-in-Object : goal.returns-in-Object
returns-in-Object c = λ join less.
    of_object join less c.args.is_exact c.in-Object.first.value c.args.second _ _ c.into_inner.result (schema_view c.args.first) _ c.into_inner.ensures (object_seen_in c.args.first c.in-Object.first c.in-Object.is) (c.objects.ensures join less)
