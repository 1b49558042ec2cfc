use Rattle.std.proofs.Common.{◌≡◌, ◌++◌, map, drop, filter, option_map}
use Rattle.std.specs.Prelude.{option_to_list}
use Rattle.member_rows.specs.Members.{member_view, is_other}
use Rattle.member_rows.proofs.nulls.the_other.Given as goal

abbrev pub invariant-loop-member : goal.invariant-loop-member
invariant-loop-member l =
    filter is_other (map member_view l.members)
    ≡ option_to_list (option_map member_view l.found) ++ filter is_other (map member_view (drop l.member-index l.members))
