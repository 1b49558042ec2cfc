use Rattle.std.proofs.Common.{◌≡◌, ◌++◌, map, string_bytes}
use Rattle.schema_types.specs.View.{properties_view}
use Rattle.convert_defs.specs.Owners.{outside_names}
use Rattle.object_rows.proofs.fields.outside_names.Given as goal

abbrev pub invariant-loop-name : goal.invariant-loop-name
invariant-loop-name l =
    outside_names (properties_view l.properties.entries) (map string_bytes l.required.keys)
    ≡ map (λ n. n.now) l.names.items ++ outside_names (properties_view l.properties.entries) (map string_bytes l.name-iterator)
