use Rattle.std.proofs.Common.{◌≡◌, ◌++◌}
use Rattle.schema_defs.specs.Schema.{schemas}
use Rattle.schema_types.specs.View.{schema_view, schemas_view}
use Rattle.merge_defs.specs.Arrays.{pairs}
use Rattle.merge_lists.specs.Plans.{pairs_view}
use Rattle.merge_lists.proofs.Paired.{pairs_at}
use Rattle.merge_lists.proofs.pairs.paired.Given as goal

abbrev pub invariant-loop-place : goal.invariant-loop-place
invariant-loop-place l =
    pairs_view l.pairs.items ++ pairs_at l.place (schemas_view l.list.items) (schema_view l.after) (schemas_view l.others.items) (schema_view l.after_others)
    ≡ pairs (schemas (schemas_view l.list.items)) (schema_view l.after) (schemas (schemas_view l.others.items)) (schema_view l.after_others)
