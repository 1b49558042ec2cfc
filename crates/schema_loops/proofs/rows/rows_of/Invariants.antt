use Rattle.std.proofs.Common.{◌≡◌, ◌++◌, map, drop}
use Rattle.schema_types.specs.DocumentView.{document_view}
use Rattle.reference_graph.specs.Graph.{graph_of}
use Rattle.schema_loops.specs.Named.{number_of_name, row_at, schema_named, seen}
use Rattle.schema_loops.proofs.rows.rows_of.Given as goal

abbrev pub invariant-loop-target : goal.invariant-loop-target
invariant-loop-target l =
    graph_of l.rows.items
    ++ map (λ t. row_at (number_of_name l.numbers.by_name) l.numbers.count (schema_named (document_view l.document) t)) (seen (drop l.target-index l.target-items))
    ≡ map (λ t. row_at (number_of_name l.numbers.by_name) l.numbers.count (schema_named (document_view l.document) t)) (seen l.target-items)
