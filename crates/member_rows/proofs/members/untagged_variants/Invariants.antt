use Rattle.std.proofs.Common.{◌≡◌, ◌++◌, map, drop}
use Rattle.convert_defs.specs.Table.{untagged_variant}
use Rattle.row_findings.specs.View.{variant_view}
use Rattle.member_rows.specs.Members.{member_view}
use Rattle.member_rows.proofs.members.untagged_variants.Given as goal

abbrev pub invariant-loop-member : goal.invariant-loop-member
invariant-loop-member l = map untagged_variant (map member_view l.members) ≡ map variant_view l.variants.items ++ map untagged_variant (map member_view (drop l.member-index l.members))
