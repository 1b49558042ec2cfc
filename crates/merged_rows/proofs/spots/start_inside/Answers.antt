use Rattle.std.proofs.Common.{◌≡◌, Some, ◌∙◌, rules}
use Rattle.row_findings.specs.Given.{source_view}
use Rattle.row_findings.specs.View.{steps_view}
use Rattle.merged_rows.specs.Starts.{spot_of, walk_in}
use Rattle.merged_rows.proofs.Inside.{spot_walked}
use Rattle.merged_rows.proofs.spots.start_inside.Goals as goal

pub returns-in_ok-inside-in-Some : goal.returns-in_ok-inside-in-Some
returns-in_ok-inside-in-Some c =
    let e : walk_in (source_view c.args.source.now) ≡ Some c.in-Some.walk.now = search rules in
    λ g h. c.in_ok-inside-in-Some.ensures g h ∙ spot_walked (spot_of c.args.start.now c.args.trail.now.items g) h (steps_view c.args.steps) (source_view c.args.source.now) c.in-Some.walk.now e
