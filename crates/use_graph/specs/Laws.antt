-- What holds of every graph.
use Rattle.std.specs.Prelude.{◌≡◌, ◌↔◌, ℕ, ◌≤◌, List, length, true}
use Rattle.use_graph.specs.declared.ends.Next.{Next}
use Rattle.use_graph.specs.Graph.{Graph, Reaches, reaches_within}
use Rattle.use_graph.specs.Ends.{leads_within, ComesToYes}

-- reaching within as many uses as there are nodes, or more, is reaching
abbrev pub ReachingIsDecided : Type 0
ReachingIsDecided = (g : Graph) (n i j : ℕ) → length g ≤ n → (reaches_within g n i j ≡ true) ↔ Reaches g i j

-- looking at as many nodes as there are, or more, comes to a yes exactly where following does
abbrev pub LeadingIsDecided : Type 0
LeadingIsDecided = (ns : List Next) (k i : ℕ) → length ns ≤ k → (leads_within ns k i ≡ true) ↔ ComesToYes ns i

-- looking at more nodes than there are changes nothing
abbrev pub EnoughIsEnough : Type 0
EnoughIsEnough = (ns : List Next) (k i : ℕ) → length ns ≤ k → leads_within ns k i ≡ leads_within ns (length ns) i
