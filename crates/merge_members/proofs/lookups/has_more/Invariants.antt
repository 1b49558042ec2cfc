use Rattle.std.proofs.Common.{◌≡◌, ◌&&◌, not, map, string_bytes}
use Rattle.std.specs.List.{list_any}
use Rattle.schema_defs.specs.Layer.{is_given, property_at}
use Rattle.schema_types.specs.View.{properties_view}
use Rattle.enum_defs.specs.Words.{is_name, names_of}
use Rattle.merge_members.proofs.lookups.has_more.Given as goal

abbrev pub invariant-loop-name : goal.invariant-loop-name
invariant-loop-name l =
    list_any (λ n. not (is_given (property_at n (properties_view l.others.entries))) && not (is_name n (map string_bytes l.names.keys))) (names_of (properties_view l.properties.entries))
    ≡ list_any (λ n. not (is_given (property_at n (properties_view l.others.entries))) && not (is_name n (map string_bytes l.names.keys))) (names_of (properties_view l.name-iterator))
