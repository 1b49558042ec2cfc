use Rattle.std.proofs.Common.{◌≡◌, map, option_map, sym, ap, ◌∙◌}
use Rattle.schema_tree.specs.Document.{view}
use Rattle.row_findings.specs.View.{variant_view, finding_view}
use Rattle.member_rows.specs.Members.{member_view}
use Rattle.one_of_rows.proofs.Cases.{external_case, no_external}
use Rattle.one_of_rows.proofs.one_of.external_finding.Goals as goal

pub returns-in_ok-finding-in-Some : goal.returns-in_ok-finding-in-Some
returns-in_ok-finding-in-Some c =
    λ r.
    external_case (view c.args.document.now) (map member_view c.args.members.now) (finding_view r c.in_ok-finding-in-Some.finding) (map variant_view c.in-Some.variants.items)
    (ap (option_map (λ v. map variant_view v.items)) (sym c.in-Some.is) ∙ c.in_ok-variants.ensures) (c.in_ok-finding-in-Some.ensures r)

pub returns-in_ok-finding-in-None : goal.returns-in_ok-finding-in-None
returns-in_ok-finding-in-None c =
    λ r.
    no_external (view c.args.document.now) (map member_view c.args.members.now) (finding_view r c.in_ok-finding-in-None.finding)
    (ap (option_map (λ v. map variant_view v.items)) (sym c.in-None.is) ∙ c.in_ok-variants.ensures) (c.in_ok-finding-in-None.ensures r)
