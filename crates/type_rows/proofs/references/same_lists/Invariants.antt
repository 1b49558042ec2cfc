use Rattle.std.proofs.Common.{◌≡◌, length}
use Rattle.convert_defs.specs.Table.{same_lists}
use Rattle.type_rows.proofs.references.same_lists.Given as goal

abbrev pub invariant-loop-kind : goal.invariant-loop-kind
invariant-loop-kind l = same_lists l.kinds.items l.others.items ≡ same_lists l.left l.right

abbrev pub decreases-loop-kind : goal.decreases-loop-kind
decreases-loop-kind l = length l.left
