use Rattle.std.proofs.Common.{ap, map}
use Rattle.schema_types.specs.View.{schema_view}
use Rattle.row_findings.specs.Given.{source_view}
use Rattle.row_findings.specs.View.{branch_view, steps_view}
use Rattle.merged_rows.proofs.Merges.{part_carried}
use Rattle.merged_rows.proofs.merging.carried_part.Goals as goal

pub returns : goal.returns
returns c =
    part_carried c.args.start.now c.args.trail.now.items c.args.part.now.kind (steps_view c.args.part.now.steps) (source_view c.args.part.now.source) (schema_view c.in_ok-schema.schema) c.in_ok-place.place
    c.start_at.result.now _ (ap (map branch_view) c.new-none.ensures.items) c.start_at.ensures c.in_ok-place.ensures c.in_ok-schema.ensures
