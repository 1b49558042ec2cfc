-- Which nodes of a graph are come to from some, and which items a type comes to.
use Rattle.std.specs.Prelude.{◌≡◌, ℕ, List, [], ◌∷◌, Bool, true, false, Some, Contains, slice_index_or}
use Rattle.reference_graph.specs.Graph.{Graph, row_of}
use Rattle.model_defs.specs.Types.{TypeModel}
use Rattle.model_defs.specs.Model.{ContainerModel, ConversionsD}
use Rattle.example_defs.specs.Outside.{Comes}
use Rattle.name_tables.specs.Names.{place_of}
use Rattle.value_models.specs.Names.{container_names}

pub data Reached (g : Graph) (starts : List ℕ) : ℕ → Type 0 where
  at_start : (i : ℕ) → Contains starts i → Reached g starts i
  from_there : (i j : ℕ) → Reached g starts i → Contains (row_of g i) j → Reached g starts j

abbrev pub is_marked : List Bool → ℕ → Bool
is_marked flags i = slice_index_or flags i false

-- what is marked is reached
abbrev pub AreReached : Graph → List ℕ → List Bool → Type 0
AreReached g starts flags = (i : ℕ) → is_marked flags i ≡ true → Reached g starts i

-- all that these nodes are is marked
abbrev pub AllMarked : List Bool → List ℕ → Type 0
AllMarked flags row = (j : ℕ) → Contains row j → is_marked flags j ≡ true

-- what is marked leads to nothing that isn't
pub record IsClosed (g : Graph) (starts : List ℕ) (flags : List Bool) : Type 0 where
  pub begun : AllMarked flags starts
  pub onward : (i : ℕ) → is_marked flags i ≡ true → AllMarked flags (row_of g i)

-- exactly the places of the items that the type comes to are marked
pub record AreCome (ms : List ContainerModel) (t : TypeModel) (flags : List Bool) : Type 0 where
  pub come : (cs : ConversionsD) (i : ℕ) → is_marked flags i ≡ true → (n : List ℕ) × (place_of n (container_names 0 ms) ≡ Some i) × Comes ms cs (t ∷ []) n
  pub all : (cs : ConversionsD) (n : List ℕ) (i : ℕ) → Comes ms cs (t ∷ []) n → place_of n (container_names 0 ms) ≡ Some i → is_marked flags i ≡ true
