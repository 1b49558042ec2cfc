use Rattle.std.proofs.Common.{◌≡◌, ◌++◌, drop, map}
use Rattle.schema_defs.specs.Schema.{Schema, schemas, schema_list}
use Rattle.schema_types.specs.View.{schemas_view}
use Rattle.merge_walks.specs.Carried.{all_inside}
use Rattle.merge_walked.specs.Seen.{side_view}
use Rattle.merge_walked.proofs.side.list_sides.Given as goal

abbrev pub invariant-loop-place : goal.invariant-loop-place
invariant-loop-place l =
    all_inside l.walk l.keyword 0 (schemas (schemas_view l.list.items)) ≡ schemas (map side_view l.sides.items ++ schema_list (all_inside l.walk l.keyword l.place (schemas (schemas_view (drop l.place l.list.items)))))
