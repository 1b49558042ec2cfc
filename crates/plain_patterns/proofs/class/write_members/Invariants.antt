use Rattle.std.proofs.Common.{◌≤◌, length, string_bytes}
use Rattle.plain_patterns.specs.Plain.{members_of, after_head}
use Rattle.plain_patterns.proofs.Members.{IsLeft}
use Rattle.plain_patterns.proofs.class.write_members.Given as goal

abbrev pub invariant-loop-first : goal.invariant-loop-first
invariant-loop-first l = (length l.left ≤ length l.text) × IsLeft l.unicode (after_head (string_bytes l.initial.out) (members_of l.unicode l.text)) (string_bytes l.out) l.left

abbrev pub decreases-loop-first : goal.decreases-loop-first
decreases-loop-first l = length l.left
