use Rattle.std.proofs.Common.{◌≡◌, ◌&&◌, map, string_bytes}
use Rattle.std.specs.List.{list_any}
use Rattle.enum_defs.specs.Words.{required_of}
use Rattle.enum_defs.specs.Shapes.{constant_at, is_required}
use Rattle.enum_defs.specs.Exclusive.{texts_differ}
use Rattle.enum_shapes.specs.View.{shape_view}
use Rattle.enum_kinds.proofs.apart.differ_by_text.Given as goal

abbrev pub invariant-loop-name : goal.invariant-loop-name
invariant-loop-name l =
    list_any (λ n. is_required n (shape_view l.b) && texts_differ (constant_at n (shape_view l.a)) (constant_at n (shape_view l.b))) (required_of (shape_view l.a).object)
    ≡ list_any (λ n. is_required n (shape_view l.b) && texts_differ (constant_at n (shape_view l.a)) (constant_at n (shape_view l.b))) (map string_bytes l.name-iterator)
