use Rattle.std.proofs.Common.{◌≡◌, map, drop}
use Rattle.std.specs.List.{list_any}
use Rattle.convert_defs.specs.Shapes.{has_tag_alone}
use Rattle.member_rows.specs.Members.{member_view}
use Rattle.member_rows.proofs.tagged.has_tag_alone.Given as goal

abbrev pub invariant-loop-member : goal.invariant-loop-member
invariant-loop-member l = list_any (has_tag_alone l.tag) (map member_view l.members) ≡ list_any (has_tag_alone l.tag) (map member_view (drop l.member-index l.members))
