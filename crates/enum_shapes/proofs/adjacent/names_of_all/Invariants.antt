use Rattle.std.proofs.Common.{◌≡◌, ◌++◌, map, drop}
use Rattle.std.specs.Prelude.{flat_map}
use Rattle.enum_defs.specs.Shapes.{property_names}
use Rattle.enum_shapes.specs.View.{shape_view}
use Rattle.enum_shapes.proofs.adjacent.names_of_all.Given as goal

abbrev pub invariant-loop-shape : goal.invariant-loop-shape
invariant-loop-shape l =
    flat_map property_names (map shape_view l.shapes) ≡ map (λ n. n.now) l.names.items ++ flat_map property_names (map shape_view (drop l.shape-index l.shapes))
