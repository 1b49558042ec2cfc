use Rattle.std.proofs.Common.{◌≡◌, ◌&&◌, not, map, string_bytes}
use Rattle.std.specs.List.{list_any}
use Rattle.schema_defs.specs.Layer.{is_given, property_at}
use Rattle.schema_types.specs.View.{properties_view}
use Rattle.enum_defs.specs.Words.{is_name}
use Rattle.merge_members.proofs.lookups.needs_more.Given as goal

abbrev pub invariant-loop-name : goal.invariant-loop-name
invariant-loop-name l =
    list_any (λ n. is_given (property_at n (properties_view l.properties.entries)) && not (is_name n (map string_bytes l.others.keys))) (map string_bytes l.needed.keys)
    ≡ list_any (λ n. is_given (property_at n (properties_view l.properties.entries)) && not (is_name n (map string_bytes l.others.keys))) (map string_bytes l.name-iterator)
