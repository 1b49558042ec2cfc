use Rattle.std.proofs.Common.{◌≡◌, ◌++◌, map, drop}
use Rattle.row_findings.specs.View.{branch_view}
use Rattle.member_rows.specs.Members.{member_view}
use Rattle.member_rows.proofs.members.branches_of.Given as goal

abbrev pub invariant-loop-member : goal.invariant-loop-member
invariant-loop-member l = map member_view l.members ≡ map branch_view l.branches.items ++ map member_view (drop l.member-index l.members)
