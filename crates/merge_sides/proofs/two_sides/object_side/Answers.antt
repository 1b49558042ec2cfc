use Rattle.schema_types.specs.View.{schema_view}
use Rattle.schema_types.specs.DocumentView.{document_view}
use Rattle.merge_sides.proofs.Meeting.{object_seen_in, of_objects}
use Rattle.merge_sides.proofs.two_sides.object_side.Goals as goal

pub returns-in-Object : goal.returns-in-Object
returns-in-Object c = λ join less.
    of_objects (document_view c.args.document.now) join less _ _ c.args.first.value c.in-Object.second.value _ (schema_view c.args.second) (object_seen_in c.args.second c.in-Object.second c.in-Object.is) (c.objects.ensures join less)
