use Rattle.std.proofs.Common.{◌≡◌, ◌++◌, map, string_bytes}
use Rattle.schema_types.specs.View.{properties_view}
use Rattle.convert_defs.specs.Shapes.{placed_field, less_property}
use Rattle.convert_defs.specs.Owners.{property_fields}
use Rattle.row_findings.specs.View.{field_view}
use Rattle.member_rows.specs.Members.{member_view}
use Rattle.member_rows.proofs.internal.fields_in.Given as goal

abbrev pub invariant-loop-name : goal.invariant-loop-name
invariant-loop-name l =
    map (placed_field (member_view l.member).0) (property_fields l.setting (map string_bytes l.required.keys) (less_property l.tag (properties_view l.properties.entries)))
    ≡ map field_view l.fields.items ++ map (placed_field (member_view l.member).0) (property_fields l.setting (map string_bytes l.required.keys) (less_property l.tag (properties_view l.name-iterator)))
