-- What holds of the graph of references, whatever the document.
use Rattle.schema_defs.specs.Location.{Location}
use Rattle.std.specs.Prelude.{ℕ, ◌<◌, ◌↔◌, [], length, slice_index_or, List}
use Rattle.schema_defs.specs.Schema.{Document}
use Rattle.schema_defs.specs.Walks.{Leads, IsGuarded, IsLoop}
use Rattle.reference_graph.specs.Graph as graph
use Rattle.reference_graph.specs.Graph.{IsAcyclic, StartsLeast}
use Rattle.schema_guards.specs.Targets.{target_places, reference_graph_of, BeginsFirst}

-- a document is guarded exactly where its graph of references is acyclic
abbrev pub GuardedIsAcyclic : Type 0
GuardedIsAcyclic = (d : Document) → IsGuarded d ↔ IsAcyclic (reference_graph_of d)

-- a place of a target leads to another at one value where the graph's nodes do
abbrev pub GraphLeadsOn : Type 0
GraphLeadsOn =
    (d : Document) (i j : ℕ) → j < length (target_places d) → graph.Leads (reference_graph_of d) i j
    → Leads d (slice_index_or (target_places d) i []) (slice_index_or (target_places d) j [])

-- where the graph has a loop whose first node is the least on one, the document has a walk round that begins at the first target on one
abbrev pub FirstLoopIsFirst : Type 0
FirstLoopIsFirst =
    (d : Document) (path : List ℕ) → graph.IsLoop (reference_graph_of d) path → StartsLeast (reference_graph_of d) path
    → (walk : List Location) × IsLoop d walk × BeginsFirst d walk
