use Rattle.std.proofs.Common.{◌≡◌, ℕ, ◌<◌, ◌⊎◌, get_or, true, false}
use Rattle.use_graph.specs.Certificate.{IsRoot}
use Rattle.use_graph.proofs.certified.all_met.Given as goal

abbrev pub invariant-loop-node : goal.invariant-loop-node
invariant-loop-node l = (i : ℕ) → i < l.node → IsRoot l.proposal i ⊎ (get_or l.met i false ≡ true)
