-- Tables of which nodes are reached from which.
use Rattle.std.specs.Prelude.{◌≡◌, ℕ, ◌<◌, ◌≤◌, ◌==◌, ◌||◌, ◌⊎◌, Bool, true, false, List, [], length, map, slice_index_or, Vec}
use Rattle.std.specs.List.{list_any}
use Rattle.std.specs.declared.alloc.Global.{Global}
use Rattle.use_graph.specs.Graph.{Graph, reaches_within}

abbrev pub Table : Type 0
Table = List (List Bool)

abbrev pub table_of : List (Vec Bool Global) → Table
table_of rows = map (λ row. row.items) rows

abbrev pub cell : Table → ℕ → ℕ → Bool
cell t i j = slice_index_or (slice_index_or t i []) j false

-- which nodes are reached within so many uses
abbrev pub IsTable : Graph → ℕ → Table → Type 0
IsTable g n t = (i j : ℕ) → j < length g → cell t i j ≡ reaches_within g n i j

-- used by a node that uses these, or reached from one of them
abbrev pub is_next : Table → List ℕ → ℕ → Bool
is_next t row j = list_any (λ k. (k == j) || cell t k j) row

-- which of so many nodes are reached by one use more
abbrev pub IsNextRow : Table → List ℕ → ℕ → List Bool → Type 0
IsNextRow t row count cells = (j : ℕ) → j < count → slice_index_or cells j false ≡ is_next t row j

-- the same, or each reached from the other
abbrev pub IsLike : Table → ℕ → ℕ → Type 0
IsLike t i j = (i ≡ j) ⊎ ((cell t i j ≡ true) × (cell t j i ≡ true))

-- the first node that is like this one
pub record IsFirstLike (t : Table) (first i : ℕ) : Type 0 where
  pub within : first ≤ i
  pub like : IsLike t first i
  pub least : (j : ℕ) → j < first → IsLike t j i → ⊥
