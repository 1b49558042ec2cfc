-- The first item that reaches itself at one value.
use Rattle.std.specs.Prelude.{◌≡◌, ℕ, ◌<◌, List, Option, Some, None, IfSome}
use Rattle.name_tables.specs.Names.{place_of}
use Rattle.reference_graph.specs.Graph.{Graph, Leads, IsAcyclic}
use Rattle.value_models.specs.Names.{container_names}
use Rattle.model_defs.specs.Model.{ContainerModel}
use Rattle.model_defs.specs.Reach.{Reaches, NoneReachesItself}

-- the place of the first, by its name
pub record IsFirstReaching (ms : List ContainerModel) (found : Option ℕ) : Type 0 where
  pub none : found ≡ None → NoneReachesItself ms
  pub first : IfSome found (λ i. (n : List ℕ) → place_of n (container_names 0 ms) ≡ Some i → Reaches ms n n)
  pub least : IfSome found (λ i. (n : List ℕ) (j : ℕ) → place_of n (container_names 0 ms) ≡ Some j → j < i → Reaches ms n n → ⊥)

-- the first node that a graph leads from back to itself
pub record IsFirstLooping (g : Graph) (found : Option ℕ) : Type 0 where
  pub none : found ≡ None → IsAcyclic g
  pub first : IfSome found (λ i. Leads g i i)
  pub least : IfSome found (λ i. (k : ℕ) → k < i → ¬ (Leads g k k))
