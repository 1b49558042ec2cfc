use Rattle.std.proofs.Common.{◌≡◌, not}
use Rattle.std.specs.List.{list_any}
use Rattle.schema_defs.specs.Layer.{is_given, property_at}
use Rattle.schema_types.specs.View.{properties_view}
use Rattle.enum_defs.specs.Words.{names_of}
use Rattle.merge_members.proofs.lookups.has_unnamed.Given as goal

abbrev pub invariant-loop-name : goal.invariant-loop-name
invariant-loop-name l =
    list_any (λ n. not (is_given (property_at n (properties_view l.others.entries)))) (names_of (properties_view l.properties.entries))
    ≡ list_any (λ n. not (is_given (property_at n (properties_view l.others.entries)))) (names_of (properties_view l.name-iterator))
