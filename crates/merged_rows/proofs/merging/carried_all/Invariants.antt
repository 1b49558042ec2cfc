use Rattle.std.proofs.Common.{◌≡◌, ◌++◌, None, drop, map}
use Rattle.schema_defs.specs.Schema.{schemas, schema_list}
use Rattle.schema_types.specs.View.{schemas_view}
use Rattle.convert_walks.specs.Merging.{carried_parts}
use Rattle.row_findings.specs.View.{part_view}
use Rattle.merged_rows.specs.Starts.{spot_of}
use Rattle.merged_rows.proofs.merging.carried_all.Given as goal

abbrev pub invariant-loop-part : goal.invariant-loop-part
invariant-loop-part l =
    carried_parts (spot_of l.start l.trail.items None) (map part_view l.part-items)
    ≡ schemas (schemas_view l.all.items ++ schema_list (carried_parts (spot_of l.start l.trail.items None) (map part_view (drop l.part-index l.part-items))))
