use Rattle.schema_types.specs.View.{schema_view}
use Rattle.schema_types.specs.DocumentView.{document_view}
use Rattle.merge_sides.proofs.Meeting.{object_seen_in, of_object}
use Rattle.merge_sides.proofs.two_sides.sides.Goals as goal

pub returns-in-Object : goal.returns-in-Object
returns-in-Object c = λ join less.
    of_object (document_view c.args.document.now) join less _ _ c.in-Object.first.value (schema_view c.args.first) (schema_view c.args.second) _ (object_seen_in c.args.first c.in-Object.first c.in-Object.is) (c.object_side.ensures join less)
