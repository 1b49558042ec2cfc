use Rattle.std.proofs.Common.{◌≤◌, length, map}
use Rattle.plain_patterns.specs.Ends.{look_seen, looks_of}
use Rattle.plain_patterns.proofs.Ended.{IsLooked, with_looks}
use Rattle.plain_patterns.proofs.searches.push_looks.Given as goal

abbrev pub invariant-loop-negated : goal.invariant-loop-negated
invariant-loop-negated l =
    (length l.left ≤ length l.text) × IsLooked l.unicode l.back (with_looks (map look_seen l.initial.looks.items) (looks_of l.unicode l.back l.text)) (map look_seen l.looks.items) l.left

abbrev pub decreases-loop-negated : goal.decreases-loop-negated
decreases-loop-negated l = length l.left
