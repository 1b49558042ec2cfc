use Rattle.std.proofs.Common.{◌≡◌, ◌++◌, map}
use Rattle.schema_types.specs.View.{properties_view}
use Rattle.enum_defs.specs.Words.{names_of}
use Rattle.merge_members.proofs.lookups.push_properties.Given as goal

abbrev pub invariant-loop-name : goal.invariant-loop-name
invariant-loop-name l =
    map (λ n. n.now) l.names.items ++ names_of (properties_view l.name-iterator) ≡ map (λ n. n.now) l.fn.names.items ++ names_of (properties_view l.properties.entries)
