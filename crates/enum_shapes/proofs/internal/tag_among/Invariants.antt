use Rattle.std.proofs.Common.{◌≡◌, map}
use Rattle.schema_types.specs.View.{properties_view}
use Rattle.enum_defs.specs.Words.{first_some, names_of}
use Rattle.enum_defs.specs.Shapes.{tagged_by}
use Rattle.enum_shapes.specs.View.{shape_view}
use Rattle.enum_shapes.proofs.internal.tag_among.Given as goal

abbrev pub invariant-loop-name : goal.invariant-loop-name
invariant-loop-name l =
    first_some (tagged_by (map shape_view l.shapes)) (names_of (properties_view l.properties.entries))
    ≡ first_some (tagged_by (map shape_view l.shapes)) (names_of (properties_view l.name-iterator))
