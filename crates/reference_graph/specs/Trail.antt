-- What a search from one node has found.
use Rattle.std.specs.Prelude.{◌≡◌, ℕ, ◌+◌, ◌<◌, ◌≤◌, ◌≢◌, ◌⊎◌, List, length, Bool, true, false, not, count_by, Contains, slice_index_or}
use Rattle.reference_graph.specs.Graph.{Graph, Refers}
use Rattle.reference_graph.specs.declared.search.Trail.{Trail}

abbrev pub nodes_of : Trail → List ℕ
nodes_of t = t.nodes.items

abbrev pub node_at : Trail → ℕ → ℕ
node_at t k = slice_index_or t.nodes.items k 0

abbrev pub parent_at : Trail → ℕ → ℕ
parent_at t k = slice_index_or t.parents.items k 0

abbrev pub is_found : Trail → ℕ → Bool
is_found t j = slice_index_or t.found.items j false

-- each node but the first was found from an earlier one
pub record IsClimbable (t : Trail) : Type 0 where
  pub paired : length t.parents.items ≡ length t.nodes.items
  pub earlier : (k : ℕ) → 0 < k → k < length t.nodes.items → parent_at t k < k

-- the nodes found from start, which stands first: each but the first is referred to by the one that it was found from, and the marked ones are among them
pub record IsTrail (g : Graph) (start : ℕ) (t : Trail) : Type 0 where
  pub climb : IsClimbable t
  pub rooted : node_at t 0 ≡ start
  pub filled : 0 < length t.nodes.items
  pub within : (k : ℕ) → k < length t.nodes.items → node_at t k < length g
  pub linked : (k : ℕ) → 0 < k → k < length t.nodes.items → Refers g (node_at t (parent_at t k)) (node_at t k)
  pub listed : (j : ℕ) → is_found t j ≡ true → Contains t.nodes.items j
  pub sized : length t.found.items ≡ length g
  pub room : count_by not t.found.items + length t.nodes.items ≡ length g

-- the nodes that stood there stand there still
pub record Extends (old new : Trail) : Type 0 where
  pub longer : length old.nodes.items ≤ length new.nodes.items
  pub same : (k : ℕ) → k < length old.nodes.items → node_at new k ≡ node_at old k
  pub still_found : (j : ℕ) → is_found old j ≡ true → is_found new j ≡ true

-- j isn't the start, and it was found, or is no node
abbrev pub IsMet : Graph → ℕ → Trail → ℕ → Type 0
IsMet g start t j = (j ≢ start) × ((is_found t j ≡ true) ⊎ (length g ≤ j))

-- each node that the one at place k refers to is met
abbrev pub IsDone : Graph → ℕ → Trail → ℕ → Type 0
IsDone g start t k = (j : ℕ) → Refers g (node_at t k) j → IsMet g start t j
