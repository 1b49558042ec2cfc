use Rattle.std.proofs.Common.{ap}
use Rattle.schema_types.specs.View.{object_view}
use Rattle.schema_types.specs.DocumentView.{document_view}
use Rattle.merge_sides.proofs.Meeting.{by_second, by_none}
use Rattle.merge_sides.proofs.two_sides.without_first_reference.Goals as goal

pub returns-in-Some : goal.returns-in-Some
returns-in-Some c = λ join less.
    by_second (document_view c.args.document.now) join less _ _ (object_view c.args.first.value) (object_view c.args.second.value) c.in_ok-reference.field-0 _ c.in-Some.reference c.in-Some.is c.in_ok-reference.ensures (c.with_second_reference.ensures join less)

pub returns-in-None : goal.returns-in-None
returns-in-None c = λ join less.
    by_none (document_view c.args.document.now) join less _ _ (object_view c.args.first.value) (object_view c.args.second.value) c.in_ok-reference.field-0 _ (object_view c.into_inner.result) (object_view c.into_inner-in-None.result) c.in-None.is c.in_ok-reference.ensures
    (ap object_view c.into_inner.ensures) (ap object_view c.into_inner-in-None.ensures) (c.bodies.ensures join less)
