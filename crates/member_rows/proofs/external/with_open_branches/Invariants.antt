use Rattle.std.proofs.Common.{◌≡◌, ◌++◌, map, drop}
use Rattle.convert_defs.specs.Table.{open_branches}
use Rattle.row_findings.specs.View.{note_view}
use Rattle.member_rows.specs.Members.{member_view}
use Rattle.member_rows.proofs.external.with_open_branches.Given as goal

abbrev pub invariant-loop-member : goal.invariant-loop-member
invariant-loop-member l =
    map note_view l.fn.notes.items ++ open_branches (map member_view l.members) ≡ map note_view l.notes.items ++ open_branches (map member_view (drop l.member-index l.members))
