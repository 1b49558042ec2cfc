use Rattle.std.proofs.Common.{◌≡◌}
use Rattle.std.specs.List.{list_all}
use Rattle.schema_types.specs.View.{properties_view}
use Rattle.enum_defs.specs.Words.{names_of}
use Rattle.enum_defs.specs.Shapes.{is_required}
use Rattle.enum_shapes.specs.View.{shape_view}
use Rattle.enum_shapes.proofs.adjacent.are_required.Given as goal

abbrev pub invariant-loop-name : goal.invariant-loop-name
invariant-loop-name l =
    list_all (λ n. is_required n (shape_view l.shape)) (names_of (properties_view l.properties.entries))
    ≡ list_all (λ n. is_required n (shape_view l.shape)) (names_of (properties_view l.name-iterator))
