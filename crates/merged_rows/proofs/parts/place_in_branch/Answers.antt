use Rattle.std.proofs.Common.{map}
use Rattle.row_findings.specs.Given.{source_view}
use Rattle.row_findings.specs.View.{branch_view, steps_view}
use Rattle.merged_rows.proofs.Inside.{in_branch}
use Rattle.merged_rows.proofs.parts.place_in_branch.Goals as goal

pub returns : goal.returns
returns c =
    in_branch c.args.start.now c.args.trail.now.items (map branch_view c.args.branches.now.items) (steps_view c.args.steps) (source_view c.args.source.now) c.in_ok-outer.outer c.in_ok-inner.inner c.nested.result
    (steps_view c.to_branch.result) (steps_view c.from_branch.result) c.start_at.result.now c.to_branch.ensures c.from_branch.ensures c.start_at.ensures c.nested.ensures c.in_ok-outer.ensures c.in_ok-inner.ensures
