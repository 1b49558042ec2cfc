use Rattle.std.proofs.Common.{◌≡◌, map, drop, not}
use Rattle.std.specs.List.{list_any}
use Rattle.enum_defs.specs.Shapes.{object_shape}
use Rattle.member_rows.specs.Members.{member_view, is_closed_shape}
use Rattle.member_rows.proofs.tagged.some_open.Given as goal

abbrev pub invariant-loop-member : goal.invariant-loop-member
invariant-loop-member l = list_any (λ m. not (is_closed_shape (object_shape m.1))) (map member_view l.members) ≡ list_any (λ m. not (is_closed_shape (object_shape m.1))) (map member_view (drop l.member-index l.members))
