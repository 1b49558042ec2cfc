use Rattle.std.proofs.Common.{◌≡◌, map, drop}
use Rattle.std.specs.List.{list_any}
use Rattle.convert_defs.specs.Shapes.{is_odd_null}
use Rattle.member_rows.specs.Members.{member_view}
use Rattle.member_rows.proofs.nulls.has_odd_null.Given as goal

abbrev pub invariant-loop-member : goal.invariant-loop-member
invariant-loop-member l = list_any is_odd_null (map member_view l.members) ≡ list_any is_odd_null (map member_view (drop l.member-index l.members))
