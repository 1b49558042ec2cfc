use Rattle.std.proofs.Common.{refl}
use Rattle.schema_types.specs.View.{schema_view}
use Rattle.schema_types.specs.DocumentView.{document_view}
use Rattle.merge_cycle.proofs.Answering.{joined, join_fails}
use Rattle.merge_cycle.proofs.calls.join_schemas.Goals as goal

pub returns-clause-found : goal.returns-clause-found
returns-clause-found c =
    joined (document_view c.args.document.now) c.args.most c.args.levels _ refl _ _ c.join.result c.found.result c.found.ensures (schema_view c.args.first) (schema_view c.args.second) c.join.ensures

pub returns-clause-refused : goal.returns-clause-refused
returns-clause-refused c =
    join_fails (document_view c.args.document.now) c.args.most c.args.levels _ refl _ _ c.join.result c.found.result c.found.ensures (schema_view c.args.first) (schema_view c.args.second) c.join.ensures
