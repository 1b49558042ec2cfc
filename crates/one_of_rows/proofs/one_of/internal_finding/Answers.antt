use Rattle.std.proofs.Common.{◌≡◌, map, option_map, sym, ap, ◌∙◌}
use Rattle.enum_defs.specs.Shapes.{internal_shape}
use Rattle.enum_shapes.specs.View.{internal_view}
use Rattle.schema_tree.specs.Document.{view}
use Rattle.convert_defs.specs.Row.{noted, branching}
use Rattle.convert_defs.specs.Table.{mixed_notes, internal_row}
use Rattle.row_findings.specs.View.{finding_view}
use Rattle.member_rows.specs.Members.{member_view}
use Rattle.one_of_rows.specs.Tagged.{internal_by}
use Rattle.one_of_rows.proofs.Cases.{internal_case, no_internal}
use Rattle.one_of_rows.proofs.one_of.internal_finding.Goals as goal

pub returns-in_ok-finding-in-Some : goal.returns-in_ok-finding-in-Some
returns-in_ok-finding-in-Some c =
    λ r.
    internal_case (view c.args.document.now) (map member_view c.args.members.now) (finding_view r c.in_ok-finding-in-Some.finding) (internal_view c.in-Some.shape)
    (ap (option_map internal_view) (sym c.in-Some.is) ∙ c.in_ok-shape.ensures ∙ sym (ap internal_shape c.requires))
    (c.in_ok-finding-in-Some.ensures r ∙ ap (λ t. branching (map member_view c.args.members.now) (noted (mixed_notes (internal_by t (map member_view c.args.members.now) c.in-Some.shape.tag.now)) (internal_row (internal_by t (map member_view c.args.members.now) c.in-Some.shape.tag.now)))) c.setting.ensures)

pub returns-in_ok-finding-in-None : goal.returns-in_ok-finding-in-None
returns-in_ok-finding-in-None c =
    λ r.
    no_internal (view c.args.document.now) (map member_view c.args.members.now) (finding_view r c.in_ok-finding-in-None.finding)
    (ap (option_map internal_view) (sym c.in-None.is) ∙ c.in_ok-shape.ensures ∙ sym (ap internal_shape c.requires)) (c.in_ok-finding-in-None.ensures r)
