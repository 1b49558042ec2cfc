use Rattle.std.proofs.Common.{subst}
use Rattle.std.specs.Prelude.{IfErr}
use Rattle.schema_defs.specs.Schema.{schemas}
use Rattle.schema_types.specs.View.{schemas_view}
use Rattle.schema_types.specs.DocumentView.{document_view}
use Rattle.merge_parts.specs.Steps.{Faults}
use Rattle.merge_walks.specs.Walked.{merge_by_walks}
use Rattle.schema_merge.proofs.Refusing.{refuses}
use Rattle.schema_merge.proofs.calls.merge_all.Goals as goal

pub returns-clause-refused : goal.returns-clause-refused
returns-clause-refused c =
    let d = document_view c.args.document.now in
    let r = c.merge_schemas-found.result in
    refuses c.tell.result r c.in-Ok.place _ (merge_by_walks d c.args.depth 400 (schemas (schemas_view c.args.list.now))) c.in-Ok.ensures
    (subst (λ ss. IfErr r (λ f. Faults f (merge_by_walks d c.args.depth 400 (schemas ss)))) c.in-Ok-copies.ensures c.merge_schemas-found.ensures.refused)
    c.tell.ensures.refused
