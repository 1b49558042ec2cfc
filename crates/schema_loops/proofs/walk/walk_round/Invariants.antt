use Rattle.std.proofs.Common.{◌∷◌, drop}
use Rattle.schema_types.specs.DocumentView.{document_view}
use Rattle.reference_graph.specs.Graph as graph
use Rattle.schema_loops.specs.Named.{named_graph}
use Rattle.schema_loops.specs.Round.{IsNumbered, IsOnTheWay}
use Rattle.schema_loops.proofs.walk.walk_round.Given as goal

abbrev pub invariant-loop-number : goal.invariant-loop-number
invariant-loop-number l =
    IsNumbered (document_view l.document) l.numbers l.targets → graph.IsLoop (named_graph (document_view l.document)) (l.first ∷ l.rest)
    → IsOnTheWay (document_view l.document) l.first l.at (drop l.number-index l.rest) l.places.items
