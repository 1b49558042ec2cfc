-- Ranks that show which nodes lie on no loop.
use Rattle.std.specs.Prelude.{◌≡◌, ℕ, ◌<◌, ◌⊎◌, List, slice_index}
use Rattle.reference_graph.specs.Graph.{Graph, Refers}

-- a node of rank r may refer to a node of that rank: 0 is no rank, and else it is greater than r, which is a rank
abbrev pub MayRefer : ℕ → ℕ → Type 0
MayRefer r rank = (rank ≡ 0) ⊎ ((0 < r) × (r < rank))

-- each reference leads to a node of greater rank, or of none
abbrev pub IsRanking : Graph → List ℕ → Type 0
IsRanking g ranks = (i j : ℕ) → Refers g i j → MayRefer (slice_index ranks i) (slice_index ranks j)
