use Rattle.std.proofs.Common.{◌+◌, ◌≤◌, length, string_bytes}
use Rattle.plain_patterns.specs.Plain.{after_head}
use Rattle.plain_patterns.specs.Ends.{sequence}
use Rattle.plain_patterns.proofs.Scanned.{IsLeft}
use Rattle.plain_patterns.proofs.scan.write_pieces.Given as goal

abbrev pub invariant-loop-first : goal.invariant-loop-first
invariant-loop-first l = (l.state.depth + length l.left ≤ length l.text) × IsLeft l.unicode (after_head (string_bytes l.initial.out) (sequence l.unicode l.bars l.text)) (string_bytes l.out) l.left l.state

abbrev pub decreases-loop-first : goal.decreases-loop-first
decreases-loop-first l = length l.left
