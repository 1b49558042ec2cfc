use Rattle.std.proofs.Common.{◌≡◌, ◌++◌, take}
use Rattle.std.specs.Prelude.{reverse}
use Rattle.schema_loops.specs.Round.{places_down}
use Rattle.schema_loops.proofs.walk.push_down.Given as goal

abbrev pub invariant-loop-left : goal.invariant-loop-left
invariant-loop-left l = l.places.items ++ places_down l.place (reverse (take l.left l.way)) ≡ l.initial.places.items ++ places_down l.fn.from (reverse l.way)
