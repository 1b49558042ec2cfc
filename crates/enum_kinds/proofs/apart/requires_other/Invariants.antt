use Rattle.std.proofs.Common.{◌≡◌, not, map, string_bytes}
use Rattle.std.specs.List.{list_any}
use Rattle.enum_defs.specs.Words.{is_name, required_of}
use Rattle.enum_defs.specs.Shapes.{property_names}
use Rattle.enum_shapes.specs.View.{shape_view}
use Rattle.enum_kinds.proofs.apart.requires_other.Given as goal

abbrev pub invariant-loop-name : goal.invariant-loop-name
invariant-loop-name l =
    list_any (λ n. not (is_name n (property_names (shape_view l.b)))) (required_of (shape_view l.a).object)
    ≡ list_any (λ n. not (is_name n (property_names (shape_view l.b)))) (map string_bytes l.name-iterator)
