-- Graphs whose nodes are numbered from 0: the row of a node lists the nodes that it refers to.
-- An entry that is no node's number is a node without a row: nothing leads on from it.
use Rattle.std.specs.Prelude.{◌≡◌, ℕ, ◌<◌, List, [], ◌∷◌, map, Contains, slice_index_or, Vec}
use Rattle.std.specs.declared.alloc.Global.{Global}

abbrev pub Graph : Type 0
Graph = List (List ℕ)

abbrev pub graph_of : List (Vec ℕ Global) → Graph
graph_of rows = map (λ row. row.items) rows

abbrev pub row_of : Graph → ℕ → List ℕ
row_of g i = slice_index_or g i []

-- i refers to j
abbrev pub Refers : Graph → ℕ → ℕ → Type 0
Refers g i j = Contains (row_of g i) j

-- one or more references lead from i to j
pub data Leads (g : Graph) : ℕ → ℕ → Type 0 where
  one_step : (i j : ℕ) → Refers g i j → Leads g i j
  more_steps : (i j k : ℕ) → Refers g i j → Leads g j k → Leads g i k

-- no node leads to itself
abbrev pub IsAcyclic : Graph → Type 0
IsAcyclic g = (i : ℕ) → ¬ (Leads g i i)

-- i refers to the first of these nodes, each of them to the next, and the last to `back`
abbrev pub GoesRound : Graph → ℕ → ℕ → List ℕ → Type 0
GoesRound g back i [] = Refers g i back
GoesRound g back i (j ∷ js) = Refers g i j × GoesRound g back j js

-- each node refers to the next, and the last to the first
abbrev pub IsLoop : Graph → List ℕ → Type 0
IsLoop g [] = ⊥
IsLoop g (i ∷ is) = GoesRound g i i is

-- no lesser node than the first lies on a loop
abbrev pub StartsLeast : Graph → List ℕ → Type 0
StartsLeast g [] = ⊥
StartsLeast g (i ∷ is) = (k : ℕ) → k < i → ¬ (Leads g k k)

-- a loop whose first node is i
abbrev pub IsLoopFrom : Graph → ℕ → List ℕ → Type 0
IsLoopFrom g i path = (js : List ℕ) × (path ≡ i ∷ js) × GoesRound g i i js
