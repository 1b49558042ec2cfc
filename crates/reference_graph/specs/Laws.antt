-- What holds of every graph.
use Rattle.std.specs.Prelude.{ℕ, ◌<◌, List}
use Rattle.reference_graph.specs.Graph.{Graph, Refers, Leads, IsAcyclic, IsLoop}

-- a loop shows that a graph is not acyclic
abbrev pub LoopsAreNotAcyclic : Type 0
LoopsAreNotAcyclic = (g : Graph) (path : List ℕ) → IsLoop g path → ¬ (IsAcyclic g)

-- where each reference leads to a later node, no node leads to itself
abbrev pub RisingIsAcyclic : Type 0
RisingIsAcyclic = (g : Graph) → ((i j : ℕ) → Refers g i j → i < j) → IsAcyclic g

-- ways are joined end to end
abbrev pub WaysJoin : Type 0
WaysJoin = (g : Graph) (i j k : ℕ) → Leads g i j → Leads g j k → Leads g i k
