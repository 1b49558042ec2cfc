use Rattle.std.proofs.Common.{◌≡◌, ◌++◌, map, drop}
use Rattle.std.specs.Prelude.{flat_map}
use Rattle.row_findings.specs.View.{variant_view}
use Rattle.member_rows.specs.Members.{member_view, own_rows}
use Rattle.member_rows.proofs.external.variants_of.Given as goal

abbrev pub invariant-loop-member : goal.invariant-loop-member
invariant-loop-member l = flat_map own_rows (map member_view l.members) ≡ map variant_view l.variants.items ++ flat_map own_rows (map member_view (drop l.member-index l.members))
