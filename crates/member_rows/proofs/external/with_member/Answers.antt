use Rattle.std.proofs.Common.{◌≡◌, ◌++◌, map, option_map, sym, ap, ◌∙◌}
use Rattle.enum_defs.specs.Shapes.{external_shape}
use Rattle.enum_shapes.specs.View.{case_view}
use Rattle.schema_types.specs.View.{schemas_view}
use Rattle.convert_defs.specs.Shapes.{case_row}
use Rattle.row_findings.specs.View.{variant_view}
use Rattle.member_rows.specs.Members.{member_view}
use Rattle.member_rows.proofs.OwnVariants.{own_told, own_none}
use Rattle.member_rows.proofs.external.with_member.Goals as goal

pub returns-in_ok-more-in-Some : goal.returns-in_ok-more-in-Some
returns-in_ok-more-in-Some c =
    let m = member_view c.args.member.now in
    let before = map variant_view c.args.variants.items in
    own_told m.0 m.1 before (map variant_view c.in_ok-more-in-Some.more.items) (map case_view c.in-Some.cases.items)
    (c.in_ok-more-in-Some.ensures ∙ ap (λ cs. before ++ map (case_row m.0) (map case_view cs)) c.as_slice.ensures.value)
    (ap (option_map (λ v. map case_view v.items)) (sym c.in-Some.is) ∙ c.in_ok-cases.ensures ∙ ap (λ xs. external_shape (schemas_view xs)) c.from_ref.ensures.value)

pub returns-in-None : goal.returns-in-None
returns-in-None c =
    let m = member_view c.args.member.now in
    own_none m.0 m.1 (map variant_view c.args.variants.items)
    (ap (option_map (λ v. map case_view v.items)) (sym c.in-None.is) ∙ c.in_ok-cases.ensures ∙ ap (λ xs. external_shape (schemas_view xs)) c.from_ref.ensures.value)
