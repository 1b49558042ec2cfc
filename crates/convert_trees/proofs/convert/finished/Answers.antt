use Rattle.std.proofs.Common.{ap, ◌∙◌}
use Rattle.tree_types.specs.View.{tree_view}
use Rattle.row_findings.specs.View.{row_view}
use Rattle.row_findings.specs.Given.{source_view}
use Rattle.convert_trees.specs.Keeping.{kept_view, with_before_if}
use Rattle.merged_rows.specs.Starts.{path_by}
use Rattle.convert_trees.specs.Unread.{unread_of}
use Rattle.convert_trees.proofs.Ends.{if_err, none_from}
use Rattle.convert_trees.proofs.convert.finished.Goals as goal

pub returns-clause-values : goal.returns-clause-values
returns-clause-values g c =
    let r = g.T.Texts.relations c.args.texts.now in
    let row = c.args.row.now in
    let l = path_by c.args.scope.now.start.now c.args.trail.now.items in
    c.in_ok-keep_unless.ensures.values
    ∙ ap (λ r. with_before_if c.args.had (unread_of r (kept_view c.args.kept.now).values.known l (source_view c.args.source.now) (row_view r row) (tree_view c.in_ok-tree.tree)) (kept_view c.args.kept.now).values)
    c.in_ok-tree.ensures.keeps

pub returns-in_err-keep_unless-clause-refused : goal.returns-in_err-keep_unless-clause-refused
returns-in_err-keep_unless-clause-refused g c =
    if_err c.from_residual-in_err-keep_unless.result c.in_err-keep_unless.field-0.0 _ c.from_residual-in_err-keep_unless.ensures.1
    (none_from _ _ _ _ _ c.in_ok-tree.ensures.counts c.in_err-keep_unless.ensures.refused)
