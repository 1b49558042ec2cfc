use Rattle.std.proofs.Common.{◌≡◌, map, string_bytes}
use Rattle.std.specs.List.{list_all}
use Rattle.schema_types.specs.View.{properties_view}
use Rattle.enum_defs.specs.Words.{is_name, names_of}
use Rattle.enum_shapes.proofs.object.has_each.Given as goal

abbrev pub invariant-loop-name : goal.invariant-loop-name
invariant-loop-name l =
    list_all (λ n. is_name n (names_of (properties_view l.properties.entries))) (map string_bytes l.required.keys)
    ≡ list_all (λ n. is_name n (names_of (properties_view l.properties.entries))) (map string_bytes l.name-iterator)
