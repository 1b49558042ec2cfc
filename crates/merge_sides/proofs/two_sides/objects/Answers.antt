use Rattle.schema_types.specs.DocumentView.{document_view}
use Rattle.merge_sides.proofs.Meeting.{by_first, by_other}
use Rattle.merge_sides.proofs.two_sides.objects.Goals as goal

pub returns-in-Some : goal.returns-in-Some
returns-in-Some c = λ join less.
    by_first (document_view c.args.document.now) join less _ _ c.args.first.value c.args.second.value _ c.in_ok-reference.field-0 c.in-Some.reference c.in-Some.is c.in_ok-reference.ensures (c.with_first_reference.ensures join less)

pub returns-in-None : goal.returns-in-None
returns-in-None c = λ join less. by_other (document_view c.args.document.now) join less _ _ c.args.first.value c.args.second.value _ c.in_ok-reference.field-0 c.in-None.is c.in_ok-reference.ensures (c.without_first_reference.ensures join less)
