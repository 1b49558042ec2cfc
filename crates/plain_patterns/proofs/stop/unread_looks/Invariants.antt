use Rattle.std.proofs.Common.{◌≤◌, length}
use Rattle.plain_patterns.specs.Ends.{unread_looks}
use Rattle.plain_patterns.proofs.Unread.{IsUnreadBehind}
use Rattle.plain_patterns.proofs.stop.unread_looks.Given as goal

abbrev pub invariant-loop-inner : goal.invariant-loop-inner
invariant-loop-inner l = (length l.left ≤ length l.text) × IsUnreadBehind l.unicode (unread_looks l.unicode (length l.text) l.text) l.left

abbrev pub decreases-loop-inner : goal.decreases-loop-inner
decreases-loop-inner l = length l.left
