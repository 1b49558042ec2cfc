-- What shows that nodes are numbered by the parts in which they lie.
use Rattle.std.specs.Prelude.{◌≡◌, ℕ, ◌<◌, ◌≤◌, ◌⊎◌, List, length, slice_index}
use Rattle.use_graph.specs.Graph.{Graph, Uses}
use Rattle.use_graph.specs.declared.marks.Proposal.{Proposal}

abbrev pub part_at : Proposal → ℕ → ℕ
part_at p i = slice_index p.parts.items i

abbrev pub ahead_at : Proposal → ℕ → ℕ
ahead_at p i = slice_index p.ahead.items i

abbrev pub back_at : Proposal → ℕ → ℕ
back_at p i = slice_index p.back.items i

-- the node is the root of its part
abbrev pub IsRoot : Proposal → ℕ → Type 0
IsRoot p i = slice_index p.roots.items (part_at p i) ≡ i

-- a step towards the root: to a node of the same part with a lesser rank
abbrev pub IsBack : Proposal → ℕ → ℕ → Type 0
IsBack p i j = (j < length p.parts.items) × (part_at p j ≡ part_at p i) × (back_at p j < back_at p i)

-- a step from the root: to a node of the same part with a greater rank
abbrev pub IsAhead : Proposal → ℕ → ℕ → Type 0
IsAhead p i j = (part_at p i ≡ part_at p j) × (ahead_at p i < ahead_at p j)

abbrev pub GoesBack : Graph → Proposal → ℕ → Type 0
GoesBack g p i = (j : ℕ) × Uses g i j × IsBack p i j

abbrev pub IsMet : Graph → Proposal → ℕ → Type 0
IsMet g p j = (i : ℕ) × Uses g i j × IsAhead p i j

-- no node uses one of a part with a lesser number
abbrev pub Rises : Graph → List ℕ → Type 0
Rises g parts = (i j : ℕ) → Uses g i j → j < length g → slice_index parts i ≤ slice_index parts j

-- each node but a root goes back and is met, and no use leads to a lesser part
pub record IsCertified (g : Graph) (p : Proposal) : Type 0 where
  pub sized : length p.parts.items ≡ length g
  pub rising : Rises g p.parts.items
  pub back : (i : ℕ) → i < length g → IsRoot p i ⊎ GoesBack g p i
  pub met : (i : ℕ) → i < length g → IsRoot p i ⊎ IsMet g p i
