use Rattle.std.proofs.Common.{◌≡◌, ◌++◌, map, drop}
use Rattle.convert_defs.specs.Shapes.{internal_variant}
use Rattle.row_findings.specs.View.{variant_view}
use Rattle.member_rows.specs.Members.{member_view}
use Rattle.member_rows.proofs.internal.internal_variants.Given as goal

abbrev pub invariant-loop-member : goal.invariant-loop-member
invariant-loop-member l = map (internal_variant l.setting l.tag) (map member_view l.members) ≡ map variant_view l.variants.items ++ map (internal_variant l.setting l.tag) (map member_view (drop l.member-index l.members))
