use Rattle.std.proofs.Common.{◌+◌, ◌≤◌, length}
use Rattle.plain_patterns.specs.Ends.{unread_pieces}
use Rattle.plain_patterns.proofs.Unread.{IsUnread}
use Rattle.plain_patterns.proofs.stop.unread.Given as goal

abbrev pub invariant-loop-first : goal.invariant-loop-first
invariant-loop-first l = (l.state.depth + length l.left ≤ length l.text) × IsUnread l.unicode (unread_pieces l.unicode l.bars l.text) l.left l.state

abbrev pub decreases-loop-first : goal.decreases-loop-first
decreases-loop-first l = length l.left
