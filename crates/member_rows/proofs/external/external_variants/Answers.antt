use Rattle.std.proofs.Common.{◌≡◌, map, option_map, sym, ap, ◌∙◌}
use Rattle.enum_defs.specs.Shapes.{external_shape}
use Rattle.enum_shapes.specs.View.{case_view}
use Rattle.convert_defs.specs.Shapes.{external_rows}
use Rattle.row_findings.specs.View.{variant_view}
use Rattle.member_rows.specs.Members.{member_view}
use Rattle.member_rows.proofs.OwnVariants.{members_found}
use Rattle.member_rows.proofs.external.external_variants.Goals as goal

pub returns-in_ok-variants-in-Some : goal.returns-in_ok-variants-in-Some
returns-in_ok-variants-in-Some c =
    members_found (map member_view c.args.members.now) (map case_view c.in-Some.cases.items) (map variant_view c.in_ok-variants-in-Some.variants.items)
    (ap external_shape c.requires ∙ sym c.in_ok-cases.ensures ∙ ap (option_map (λ v. map case_view v.items)) c.in-Some.is) c.in_ok-variants-in-Some.ensures

pub returns-in-None : goal.returns-in-None
returns-in-None c =
    ap (option_map (λ cs. external_rows (map member_view c.args.members.now)))
    (ap (option_map (λ v. map case_view v.items)) (sym c.in-None.is) ∙ c.in_ok-cases.ensures ∙ sym (ap external_shape c.requires))
