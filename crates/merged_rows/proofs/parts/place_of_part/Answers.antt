use Rattle.std.proofs.Common.{map}
use Rattle.row_findings.specs.Given.{source_view}
use Rattle.row_findings.specs.View.{branch_view, steps_view}
use Rattle.merged_rows.proofs.Inside.{as_branch, as_made}
use Rattle.merged_rows.proofs.parts.place_of_part.Goals as goal

pub returns-in_ok-place-in-OfBranch : goal.returns-in_ok-place-in-OfBranch
returns-in_ok-place-in-OfBranch c =
    as_branch c.args.start.now c.args.trail.now.items (map branch_view c.args.branches.now.items) (steps_view c.args.part.now.steps) (source_view c.args.part.now.source) c.args.part.now.kind
    c.in_ok-place-in-OfBranch.place c.in-OfBranch.is c.in_ok-place-in-OfBranch.ensures

pub returns-in_ok-place-in-Made : goal.returns-in_ok-place-in-Made
returns-in_ok-place-in-Made c =
    as_made c.args.start.now c.args.trail.now.items (map branch_view c.args.branches.now.items) (steps_view c.args.part.now.steps) (source_view c.args.part.now.source) c.args.part.now.kind
    c.in_ok-place-in-Made.place c.in-Made.is c.in_ok-place-in-Made.ensures
