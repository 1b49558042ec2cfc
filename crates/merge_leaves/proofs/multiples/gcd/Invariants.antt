use Rattle.std.proofs.Common.{◌≡◌, suc}
use Rattle.merge_defs.specs.Leaves.{gcd_within}
use Rattle.merge_leaves.proofs.multiples.gcd.Given as goal

abbrev pub invariant-loop-part : goal.invariant-loop-part
invariant-loop-part l = gcd_within (suc l.part) l.whole l.part ≡ gcd_within (suc l.fn.b) l.fn.a l.fn.b

abbrev pub decreases-loop-part : goal.decreases-loop-part
decreases-loop-part l = l.part
