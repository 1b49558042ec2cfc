use Rattle.std.proofs.Common.{◌≡◌, ◌++◌, map, drop}
use Rattle.schema_defs.specs.Schema.{schemas}
use Rattle.schema_defs.specs.Children.{children_from}
use Rattle.schema_types.specs.View.{schemas_view}
use Rattle.schema_loops.specs.Child.{child_view}
use Rattle.schema_loops.proofs.children.push_all.Given as goal

abbrev pub invariant-loop-place : goal.invariant-loop-place
invariant-loop-place l =
    map child_view l.children.items ++ children_from l.keyword l.place (schemas (schemas_view (drop l.place l.list.items)))
    ≡ map child_view l.initial.children.items ++ children_from l.keyword 0 (schemas (schemas_view l.list.items))
