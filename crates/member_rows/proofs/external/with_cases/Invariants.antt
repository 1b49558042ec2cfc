use Rattle.std.proofs.Common.{◌≡◌, ◌++◌, map, drop}
use Rattle.enum_shapes.specs.View.{case_view}
use Rattle.convert_defs.specs.Shapes.{case_row}
use Rattle.row_findings.specs.View.{variant_view}
use Rattle.member_rows.specs.Members.{member_view}
use Rattle.member_rows.proofs.external.with_cases.Given as goal

abbrev pub invariant-loop-case : goal.invariant-loop-case
invariant-loop-case l =
    map variant_view l.fn.variants.items ++ map (case_row (member_view l.member).0) (map case_view l.cases)
    ≡ map variant_view l.variants.items ++ map (case_row (member_view l.member).0) (map case_view (drop l.case-index l.cases))
