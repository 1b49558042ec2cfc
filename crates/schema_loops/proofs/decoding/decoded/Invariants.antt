use Rattle.std.proofs.Common.{◌≡◌, ◌++◌, length}
use Rattle.schema_defs.specs.Location.{unescaped}
use Rattle.schema_loops.proofs.decoding.decoded.Given as goal

abbrev pub invariant-loop-first : goal.invariant-loop-first
invariant-loop-first l = unescaped l.fn.escaped ≡ l.bytes.items ++ unescaped l.left

abbrev pub decreases-loop-first : goal.decreases-loop-first
decreases-loop-first l = length l.left
