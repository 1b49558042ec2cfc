use Rattle.std.proofs.Common.{ap, sym, ◌∙◌}
use Rattle.syntax_trees.specs.Syntax.{expr_path}
use Rattle.syntax_trees.specs.View.{path_view, maybe_qself_view}
use Rattle.attr_defs.specs.Rows.{in_module}
use Rattle.attr_rows.specs.Longer.{longer}
use Rattle.attr_rows.proofs.TreeViews.{expr_path_rolled, module_longer}
use Rattle.attr_rows.proofs.defaults.in_module.Goals as goal

pub returns : goal.returns
returns c =
    let r = c.into_parts-qself.result in
    let q = maybe_qself_view r.0 in
    expr_path_rolled r.0 c.in_ok-path.path
    ∙ ap (expr_path q) (c.in_ok-path.ensures ∙ ap (longer (path_view r.1)) c.in_ok-segment.ensures)
    ∙ module_longer q (path_view r.1) c.args.name.0.now c.args.at
    ∙ ap (λ e. in_module e c.args.name.0.now c.args.at) (sym c.into_parts-qself.ensures ∙ c.in_ok-copy.ensures)
