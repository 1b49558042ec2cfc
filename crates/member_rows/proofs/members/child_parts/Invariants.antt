use Rattle.std.proofs.Common.{◌≡◌, ◌++◌, map, drop}
use Rattle.convert_defs.specs.Table.{member_part}
use Rattle.row_findings.specs.View.{part_view}
use Rattle.member_rows.specs.Members.{member_view}
use Rattle.member_rows.proofs.members.child_parts.Given as goal

abbrev pub invariant-loop-member : goal.invariant-loop-member
invariant-loop-member l = map member_part (map member_view l.members) ≡ map part_view l.parts.items ++ map member_part (map member_view (drop l.member-index l.members))
