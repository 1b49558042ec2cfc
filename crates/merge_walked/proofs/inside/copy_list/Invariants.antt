use Rattle.std.proofs.Common.{◌≡◌, ◌++◌, drop}
use Rattle.schema_defs.specs.Schema.{schemas, schema_list}
use Rattle.schema_types.specs.View.{schemas_view}
use Rattle.merge_walks.specs.Carried.{all_inside}
use Rattle.merge_walked.proofs.inside.copy_list.Given as goal

abbrev pub invariant-loop-place : goal.invariant-loop-place
invariant-loop-place l =
    all_inside l.walk l.keyword 0 (schemas (schemas_view l.list.items)) ≡ schemas (schemas_view l.copies.items ++ schema_list (all_inside l.walk l.keyword l.place (schemas (schemas_view (drop l.place l.list.items)))))
