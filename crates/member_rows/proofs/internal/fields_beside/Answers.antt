use Rattle.std.proofs.Common.{◌≡◌, List, map, sym, ap, ◌∙◌}
use Rattle.schema_defs.specs.Schema.{Named}
use Rattle.enum_defs.specs.Words.{props_of, required_of}
use Rattle.convert_defs.specs.Row.{FieldRow}
use Rattle.convert_defs.specs.Shapes.{placed_field, less_property}
use Rattle.convert_defs.specs.Owners.{property_fields}
use Rattle.row_findings.specs.View.{field_view}
use Rattle.object_rows.proofs.MemberViews.{members_seen}
use Rattle.member_rows.specs.Members.{member_view}
use Rattle.member_rows.proofs.internal.fields_beside.Goals as goal

pub returns-in_ok-fields-in-Some : goal.returns-in_ok-fields-in-Some
returns-in_ok-fields-in-Some c =
    let beside : Named → List FieldRow = λ ns. map (placed_field (member_view c.args.member.now).0) (property_fields c.args.setting (required_of ns) (less_property c.args.tag.now (props_of ns))) in
    c.in_ok-fields-in-Some.ensures ∙ sym (ap beside (members_seen c.in-Some.members.now)) ∙ ap beside c.in-Some.ensures

pub returns-in-None : goal.returns-in-None
returns-in-None c =
    let beside : Named → List FieldRow = λ ns. map (placed_field (member_view c.args.member.now).0) (property_fields c.args.setting (required_of ns) (less_property c.args.tag.now (props_of ns))) in
    ap (map field_view) c.new.ensures.items ∙ ap beside c.in-None.ensures
