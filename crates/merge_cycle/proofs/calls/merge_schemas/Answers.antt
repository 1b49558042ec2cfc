use Rattle.std.proofs.Common.{refl}
use Rattle.schema_defs.specs.Schema.{schemas}
use Rattle.schema_types.specs.View.{schema_view, schemas_view}
use Rattle.schema_types.specs.DocumentView.{document_view}
use Rattle.merge_cycle.proofs.Answering.{merged, merge_fails}
use Rattle.merge_cycle.proofs.calls.merge_schemas.Goals as goal

pub returns-clause-found : goal.returns-clause-found
returns-clause-found c =
    merged (document_view c.args.document.now) c.args.most c.args.levels _ refl _ _ c.fold.result c.found.result c.found.ensures (schemas (schemas_view c.args.list.items)) (schemas (schemas_view c.divided-first.result.rest.items)) (schema_view c.divided-first.result.first)
    c.divided-first.ensures c.fold.ensures

pub returns-clause-refused : goal.returns-clause-refused
returns-clause-refused c =
    merge_fails (document_view c.args.document.now) c.args.most c.args.levels _ refl _ _ c.fold.result c.found.result c.found.ensures (schemas (schemas_view c.args.list.items)) (schemas (schemas_view c.divided-first.result.rest.items)) (schema_view c.divided-first.result.first)
    c.divided-first.ensures c.fold.ensures
