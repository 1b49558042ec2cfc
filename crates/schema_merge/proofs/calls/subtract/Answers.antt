use Rattle.std.proofs.Common.{subst}
use Rattle.std.specs.Prelude.{IfErr}
use Rattle.schema_types.specs.View.{schema_view}
use Rattle.schema_types.specs.DocumentView.{document_view}
use Rattle.merge_parts.specs.Steps.{Faults}
use Rattle.merge_walks.specs.Walked.{less_by_walks}
use Rattle.schema_merge.proofs.Refusing.{refuses}
use Rattle.schema_merge.proofs.calls.subtract.Goals as goal

pub returns-clause-refused : goal.returns-clause-refused
returns-clause-refused c =
    let d = document_view c.args.document.now in
    let r = c.less_schemas-found.result in
    refuses c.tell.result r c.in-Ok.place _ (less_by_walks d c.args.depth 400 (schema_view c.args.from.now) (schema_view c.args.less.now)) c.in-Ok.ensures
    (subst (λ t. t) (λ i. IfErr r (λ f. Faults f (less_by_walks d c.args.depth 400 (c.in-Ok-try_clone.ensures i) (c.in-Ok-try_clone-2.ensures i)))) c.less_schemas-found.ensures.refused)
    c.tell.ensures.refused
