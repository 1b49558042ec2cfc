use Rattle.std.proofs.Common.{◌≡◌, ◌++◌, map, string_bytes}
use Rattle.schema_types.specs.View.{properties_view}
use Rattle.convert_defs.specs.Owners.{property_fields}
use Rattle.row_findings.specs.View.{field_view}
use Rattle.object_rows.proofs.fields.property_fields.Given as goal

abbrev pub invariant-loop-name : goal.invariant-loop-name
invariant-loop-name l =
    property_fields l.setting (map string_bytes l.required.keys) (properties_view l.properties.entries)
    ≡ map field_view l.fields.items ++ property_fields l.setting (map string_bytes l.required.keys) (properties_view l.name-iterator)
