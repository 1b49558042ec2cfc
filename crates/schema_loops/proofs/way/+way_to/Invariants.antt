use Rattle.std.proofs.Common.{◌≡◌, ℕ, List, map, drop}
use Rattle.schema_types.specs.View.{schema_view}
use Rattle.schema_defs.specs.Counts.{schema_nodes}
use Rattle.schema_guards.proofs.Inner.{InChild}
use Rattle.schema_loops.specs.Child.{child_view}
use Rattle.schema_loops.specs.Way.{numbered}
use Rattle.schema_loops.proofs.way.+way_to.Given as goal

abbrev pub decreases-way_to : goal.decreases-way_to
decreases-way_to l = schema_nodes (schema_view l.schema.now)

abbrev pub invariant-loop-child : goal.invariant-loop-child
invariant-loop-child l = (q : List ℕ) → numbered l.numbers q ≡ l.number → InChild q (map child_view l.child-items) → InChild q (map child_view (drop l.child-index l.child-items))
