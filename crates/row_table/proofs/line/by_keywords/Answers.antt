use Rattle.std.proofs.Common.{ap, ◌∙◌}
use Rattle.schema_tree.specs.Document.{view}
use Rattle.row_table.specs.Lines.{first_of}
use Rattle.row_table.proofs.line.by_keywords.Goals as goal

pub returns : goal.returns
returns c =
    let d = view c.args.document.now in
    let k = c.args.keywords.now in
    λ r. c.in_ok-found.ensures r ∙ ap (first_of r d k) c.all_lines.ensures
