use Rattle.std.proofs.Common.{◌≡◌, map, option_map, sym, ap, ◌∙◌}
use Rattle.enum_defs.specs.Shapes.{adjacent_shape}
use Rattle.enum_shapes.specs.View.{adjacent_view}
use Rattle.schema_tree.specs.Document.{view}
use Rattle.row_findings.specs.View.{finding_view}
use Rattle.member_rows.specs.Members.{member_view}
use Rattle.one_of_rows.proofs.Cases.{adjacent_case, no_adjacent}
use Rattle.one_of_rows.proofs.one_of.adjacent_finding.Goals as goal

pub returns-in_ok-finding-in-Some : goal.returns-in_ok-finding-in-Some
returns-in_ok-finding-in-Some c =
    λ r.
    adjacent_case (view c.args.document.now) (map member_view c.args.members.now) (finding_view r c.in_ok-finding-in-Some.finding) (adjacent_view c.in-Some.shape)
    (ap (option_map adjacent_view) (sym c.in-Some.is) ∙ c.in_ok-shape.ensures ∙ sym (ap adjacent_shape c.requires)) (c.in_ok-finding-in-Some.ensures r)

pub returns-in_ok-finding-in-None : goal.returns-in_ok-finding-in-None
returns-in_ok-finding-in-None c =
    λ r.
    no_adjacent (view c.args.document.now) (map member_view c.args.members.now) (finding_view r c.in_ok-finding-in-None.finding)
    (ap (option_map adjacent_view) (sym c.in-None.is) ∙ c.in_ok-shape.ensures ∙ sym (ap adjacent_shape c.requires)) (c.in_ok-finding-in-None.ensures r)
