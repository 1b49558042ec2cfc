use Rattle.std.proofs.Common.{ap, ◌∙◌}
use Rattle.schema_tree.specs.Document.{view}
use Rattle.convert_defs.specs.Table.{finding_of}
use Rattle.row_findings.specs.View.{finding_view}
use Rattle.row_table.proofs.table.by_object.Goals as goal

pub returns : goal.returns
returns c =
    let d = view c.args.document.now in
    λ r. ap (finding_view r) c.into_inner.ensures ∙ c.in_ok-held.ensures r ∙ ap (finding_of r d) c.keywords_of-keywords.ensures
