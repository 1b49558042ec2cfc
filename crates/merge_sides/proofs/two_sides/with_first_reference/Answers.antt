use Rattle.std.proofs.Common.{sym, ◌∙◌}
use Rattle.schema_types.specs.View.{object_view, schema_view}
use Rattle.schema_types.specs.DocumentView.{document_view}
use Rattle.merge_sides.specs.Met.{referred_view}
use Rattle.merge_sides.proofs.Meeting.{first_alike, first_unlike}
use Rattle.merge_sides.proofs.two_sides.with_first_reference.Goals as goal

pub returns-then-refer_alike : goal.returns-then-refer_alike
returns-then-refer_alike c = λ join less.
    first_alike (document_view c.args.document.now) join less _ _ (referred_view c.args.reference) (object_view c.args.first.value) (object_view c.args.second.value) c.either_drops-is_lossy.result _ (sym c.refer_alike.ensures ∙ c.if-refer_alike.true) c.either_drops-is_lossy.ensures
    (c.same_reference.ensures (document_view c.args.document.now) join less)

pub returns : goal.returns
returns c = λ join less.
    first_unlike (document_view c.args.document.now) join less _ _ (referred_view c.args.reference) (object_view c.args.first.value) (object_view c.args.second.value) c.drops-is_lossy.result _ (schema_view c.as_schema.result) (sym c.refer_alike.ensures ∙ c.if-refer_alike.false) c.drops-is_lossy.ensures
    c.as_schema.ensures (c.asked.ensures join less)
