use Rattle.std.proofs.Common.{◌≡◌, ◌++◌, map}
use Rattle.schema_types.specs.View.{properties_view}
use Rattle.enum_defs.specs.Words.{names_of}
use Rattle.enum_shapes.proofs.adjacent.names_and.Given as goal

abbrev pub invariant-loop-name : goal.invariant-loop-name
invariant-loop-name l =
    map (λ n. n.now) l.fn.names.items ++ names_of (properties_view l.properties.entries) ≡ map (λ n. n.now) l.names.items ++ names_of (properties_view l.name-iterator)
