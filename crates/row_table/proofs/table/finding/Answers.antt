use Rattle.std.proofs.Common.{◌≡◌, sym, ap, ◌∙◌}
use Rattle.schema_tree.specs.Document.{view}
use Rattle.convert_defs.specs.Table.{finding_of}
use Rattle.row_findings.specs.Given.{keywords_view, source_view}
use Rattle.row_findings.specs.View.{finding_view}
use Rattle.row_table.proofs.table.finding.Goals as goal

pub returns-in-Bool : goal.returns-in-Bool
returns-in-Bool c =
    let d = view c.args.document.now in
    λ r. c.always.ensures r d ∙ ap (λ s. finding_of r d (source_view s)) (sym c.in-Bool.is)

pub returns-in_ok-found-in-Written : goal.returns-in_ok-found-in-Written
returns-in_ok-found-in-Written c =
    let d = view c.args.document.now in
    λ r. c.in_ok-found-in-Written.ensures r ∙ ap (λ s. finding_of r d (source_view s)) (sym c.in-Written.is)

pub returns-in_ok-held-in-Made : goal.returns-in_ok-held-in-Made
returns-in_ok-held-in-Made c =
    let d = view c.args.document.now in
    λ r. ap (finding_view r) c.into_inner.ensures ∙ c.in_ok-held-in-Made.ensures r ∙ ap (λ x. finding_of r d (keywords_view x)) c.deref.ensures ∙ ap (λ s. finding_of r d (source_view s)) (sym c.in-Made.is)
