use Rattle.std.proofs.Common.{map, Some, ap, sym, ◌∙◌}
use Rattle.convert_defs.specs.Table.{reference_row, target_of}
use Rattle.tree_types.specs.View.{tree_view}
use Rattle.row_findings.specs.View.{row_view}
use Rattle.row_trees.specs.Build.{built}
use Rattle.row_trees.proofs.Turns.{reference_built}
use Rattle.row_trees.proofs.build.tree_of_parts.Goals as goal

pub returns-in-Reference : goal.returns-in-Reference
returns-in-Reference c = λ r.
    let name = c.args.name.now in
    let es = map tree_view c.args.trees.items in
    c.in_ok-tree-in-Reference.ensures name ∙ reference_built name (target_of c.as_str.result.now) es
    ∙ ap (λ q. built name (reference_row (Some q)) es) c.as_str.ensures.value ∙ ap (λ w. built name (row_view r w) es) (sym c.in-Reference.is)
