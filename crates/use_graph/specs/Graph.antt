-- Graphs whose nodes are numbered from 0: the row of a node lists the nodes that it uses.
-- An entry that is no node's number is a node without a row: nothing leads on from it.
use Rattle.std.specs.Prelude.{◌≡◌, ℕ, zero, suc, ◌<◌, ◌==◌, ◌||◌, ◌⊎◌, ◌↔◌, Bool, false, List, [], ◌∷◌, length, map, Contains, slice_index, slice_index_or, Vec}
use Rattle.std.specs.List.{list_any}
use Rattle.std.specs.declared.alloc.Global.{Global}

abbrev pub Graph : Type 0
Graph = List (List ℕ)

abbrev pub graph_of : List (Vec ℕ Global) → Graph
graph_of rows = map (λ row. row.items) rows

abbrev pub row_of : Graph → ℕ → List ℕ
row_of g i = slice_index_or g i []

-- i uses j
abbrev pub Uses : Graph → ℕ → ℕ → Type 0
Uses g i j = Contains (row_of g i) j

-- one or more uses lead from i to j
pub data Reaches (g : Graph) : ℕ → ℕ → Type 0 where
  one_use : (i j : ℕ) → Uses g i j → Reaches g i j
  more_uses : (i j k : ℕ) → Uses g i j → Reaches g j k → Reaches g i k

-- so many uses at most, and one at least, lead from i to j
abbrev pub reaches_within : Graph → ℕ → ℕ → ℕ → Bool
reaches_within g zero i j = false
reaches_within g (suc n) i j = list_any (λ k. (k == j) || reaches_within g n k j) (row_of g i)

-- ---- numbers of parts: the one at a node's place is that of the part in which it lies

-- a node and one that it uses have the same number exactly where the used one reaches the using one
abbrev pub TellsRounds : Graph → List ℕ → Type 0
TellsRounds g parts = (i j : ℕ) → Uses g i j → j < length g → (slice_index parts i ≡ slice_index parts j) ↔ Reaches g j i

-- two nodes have the same number exactly where they are the same, or each reaches the other
abbrev pub TellsParts : Graph → List ℕ → Type 0
TellsParts g parts = (i j : ℕ) → i < length g → j < length g → (slice_index parts i ≡ slice_index parts j) ↔ ((i ≡ j) ⊎ (Reaches g i j × Reaches g j i))
