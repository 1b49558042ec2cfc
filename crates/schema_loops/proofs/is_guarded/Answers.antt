use Rattle.std.proofs.Common.{◌≡◌, ap, ◌∙◌}
use Rattle.schema_types.specs.DocumentView.{document_view}
use Rattle.reference_graph.specs.Graph.{graph_of}
use Rattle.schema_guards.specs.Targets.{reference_graph_of}
use Rattle.schema_loops.proofs.Graphs.{decided}
use Rattle.schema_loops.proofs.is_guarded.Goals as goal

pub returns : goal.returns
returns c =
    let rows : graph_of c.deref.result.now ≡ reference_graph_of (document_view c.args.document.now) = ap graph_of c.deref.ensures.value ∙ c.in_ok-rows.ensures in
    decided (document_view c.args.document.now) (graph_of c.deref.result.now) c.in_ok-found.found c.is_none.result rows c.in_ok-found.ensures.none c.is_none.ensures
