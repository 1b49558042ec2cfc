use Rattle.std.proofs.Common.{ap, ◌∙◌, rules, ◌≡◌}
use Rattle.schema_types.specs.View.{object_view, schema_view}
use Rattle.row_findings.specs.Given.{source_view}
use Rattle.convert_walks.specs.Spot.{is_made_schema}
use Rattle.convert_walks.specs.Tree.{plain_of}
use Rattle.merge_walked.proofs.Objects.{object_seen}
use Rattle.merged_rows.specs.Rows.{annotated_by, own_walk_in}
use Rattle.merged_rows.specs.Starts.{spot_of}
use Rattle.merged_rows.proofs.Standings.{object_stands}
use Rattle.merged_rows.proofs.answered.object_standing.Goals as goal

pub returns : goal.returns
returns c = λ h.
    let object = c.args.object.value in
    let y : schema_view c.in_ok-schema.schema ≡ annotated_by (plain_of (source_view c.args.source.now)) (object_view c.args.object.value) = search rules in
    let o = spot_of c.args.start.now c.args.trail.now.items h in
    object_stands c.args.start.now c.args.trail.now.items h (source_view c.args.source.now) c.in_ok-start.start _ _ _ _ (object_view object) (schema_view c.in_ok-schema.schema) (object_seen object) y
    (c.in_ok-start.ensures h ∙ ap (λ x. record o { walk = own_walk_in (object_view x); in_made = is_made_schema (object_view x) }) c.deref.ensures)
