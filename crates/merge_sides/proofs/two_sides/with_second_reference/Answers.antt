use Rattle.schema_types.specs.View.{object_view, schema_view}
use Rattle.schema_types.specs.DocumentView.{document_view}
use Rattle.merge_sides.specs.Met.{referred_view}
use Rattle.merge_sides.proofs.Meeting.{second_refers}
use Rattle.merge_sides.proofs.two_sides.with_second_reference.Goals as goal

pub returns : goal.returns
returns c = λ join less.
    second_refers (document_view c.args.document.now) join less _ _ (referred_view c.args.reference) (object_view c.args.first.value) (object_view c.args.second.value) c.drops-is_lossy.result _ (schema_view c.as_schema.result) c.drops-is_lossy.ensures c.as_schema.ensures (c.asked.ensures join less)
