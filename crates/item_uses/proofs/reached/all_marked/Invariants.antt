use Rattle.std.proofs.Common.{◌≡◌, ℕ, ◌<◌, get_or, true}
use Rattle.item_uses.specs.Reached.{is_marked}
use Rattle.item_uses.proofs.reached.all_marked.Given as goal

abbrev pub invariant-loop-node : goal.invariant-loop-node
invariant-loop-node l = (k : ℕ) → k < l.node-index → is_marked l.flags (get_or l.row k 0) ≡ true
