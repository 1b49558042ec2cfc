use Rattle.schema_types.specs.DocumentView.{document_view}
use Rattle.schema_loops.specs.Named.{number_of_name}
use Rattle.reference_graph.specs.Graph.{graph_of}
use Rattle.schema_loops.proofs.Graphs.{rows_told}
use Rattle.schema_loops.proofs.rows.rows_of.Goals as goal

pub returns : goal.returns
returns c =
    rows_told (document_view c.args.document.now) (number_of_name c.in_ok-numbers.numbers.by_name) c.in_ok-numbers.numbers.count c.in_ok-targets.targets.items c.deref.result.now
    c.deref-target-items.result.now c.loop-target.target-index (graph_of c.loop-target.rows.items) c.in_ok-numbers.ensures.names c.in_ok-numbers.ensures.count c.deref.ensures.value c.in_ok-targets.ensures.names
    c.deref-target-items.ensures.value c.loop-target-test.false c.loop-target.invariant c.in_ok-targets.ensures.rise
