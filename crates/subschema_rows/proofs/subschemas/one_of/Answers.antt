use Rattle.std.proofs.Common.{◌≡◌, map, ap, ◌∙◌}
use Rattle.schema_tree.specs.Document.{view}
use Rattle.convert_defs.specs.Table.{one_of_finding}
use Rattle.member_rows.specs.Members.{member_view}
use Rattle.subschema_rows.proofs.subschemas.one_of.Goals as goal

pub returns : goal.returns
returns c =
    λ r name.
    c.in_ok-finding.ensures r name
    ∙ ap (one_of_finding (view c.args.document.now) name) (ap (map member_view) c.as_slice-2.ensures.value ∙ c.in_ok-members.ensures)
