use Rattle.std.proofs.Common.{◌≡◌, map, sym, ◌∙◌}
use Rattle.std.specs.Prelude.{if◌then◌else◌}
use Rattle.schema_tree.specs.Document.{view}
use Rattle.convert_defs.specs.Row.{plainly}
use Rattle.convert_defs.specs.Table.{one_of_finding, untagged_row}
use Rattle.member_rows.specs.Members.{member_view}
use Rattle.subschema_rows.proofs.lists.several.Goals as goal

pub returns-then-is_exclusive : goal.returns-then-is_exclusive
returns-then-is_exclusive c =
    let d = view c.args.document.now in
    let ms = map member_view c.args.members.now in
    λ r name.
    c.in_ok-finding.ensures r name
    ∙ sym (λ i. if (sym c.is_exclusive.ensures ∙ c.if-is_exclusive.true) i then one_of_finding d name ms else plainly (untagged_row ms))
