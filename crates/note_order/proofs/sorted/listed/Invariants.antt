use Rattle.std.proofs.Common.{◌≡◌, ◌++◌, length}
use Rattle.note_order.proofs.sorted.listed.Given as goal

abbrev pub invariant-loop-note : goal.invariant-loop-note
invariant-loop-note l = l.found.items ++ l.kept.keys ≡ l.fn.kept.keys

abbrev pub decreases-loop-note : goal.decreases-loop-note
decreases-loop-note l = length l.kept.keys
