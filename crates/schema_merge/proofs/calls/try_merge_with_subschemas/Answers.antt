use Rattle.std.proofs.Common.{◌∙◌, ap, option_map, subst}
use Rattle.std.specs.Prelude.{IfErr}
use Rattle.schema_types.specs.View.{object_view, same_of, subschemas_view}
use Rattle.schema_types.specs.DocumentView.{document_view}
use Rattle.merge_parts.specs.Steps.{Faults}
use Rattle.merge_parts.specs.View.{notes_view}
use Rattle.merge_walks.specs.Told.{place_of}
use Rattle.merge_walks.specs.Walked.{with_by_walks}
use Rattle.schema_merge.proofs.InOrder.{answers}
use Rattle.schema_merge.proofs.Refusing.{refuses}
use Rattle.schema_merge.proofs.calls.try_merge_with_subschemas.Goals as goal

pub returns-clause-answered : goal.returns-clause-answered
returns-clause-answered c =
    let d = document_view c.args.document.now in
    answers c.tell.result c.with_subschemas-found.result c.in-Ok-place_of.place _ _ (notes_view c.with_subschemas-found.new.notes.items) _
    (with_by_walks d c.args.depth 400 (object_view c.args.body.now) (same_of (option_map (λ s. subschemas_view s.now) c.args.subschemas)))
    (c.in-Ok-place_of.ensures ∙ ap place_of c.in-Ok.ensures)
    (ap notes_view c.new-notes.ensures.items)
    (λ i. with_by_walks d c.args.depth 400 (c.in-Ok.ensures i) (same_of (c.in-Ok-copy_of.ensures i)))
    c.with_subschemas-found.ensures.found
    c.tell.ensures.answered

pub returns-clause-refused : goal.returns-clause-refused
returns-clause-refused c =
    let d = document_view c.args.document.now in
    let r = c.with_subschemas-found.result in
    refuses c.tell.result r c.in-Ok-place_of.place _
    (with_by_walks d c.args.depth 400 (object_view c.args.body.now) (same_of (option_map (λ s. subschemas_view s.now) c.args.subschemas)))
    (c.in-Ok-place_of.ensures ∙ ap place_of c.in-Ok.ensures)
    (subst (λ t. t) (λ i. IfErr r (λ f. Faults f (with_by_walks d c.args.depth 400 (c.in-Ok.ensures i) (same_of (c.in-Ok-copy_of.ensures i))))) c.with_subschemas-found.ensures.refused)
    c.tell.ensures.refused
