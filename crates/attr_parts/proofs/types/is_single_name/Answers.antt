use Rattle.std.proofs.Common.{◌≤◌, length, subst, ap, sym, ◌∙◌}
use Rattle.syntax_trees.specs.View.{segment_view}
use Rattle.syntax_trees.specs.declared.tree.Path.{out-Path}
use Rattle.syntax_trees.proofs.Views.{path_out}
use Rattle.attr_parts.specs.Types.{is_single}
use Rattle.attr_parts.proofs.Shapes.{many_for_single}
use Rattle.attr_parts.proofs.types.is_single_name.Goals as goal

pub returns-in_default-2 : goal.returns-in_default-2
returns-in_default-2 c =
    let p = out-Path c.args.path.now in
    let long : 2 ≤ length p.segments.items = subst (λ ss. 2 ≤ length ss) c.as_slice.ensures.value c.in_default.len_at_least in
    sym (ap (is_single c.args.name.now) (path_out c.args.path.now) ∙ many_for_single segment_view p.leading c.args.name.now p.segments.items long)
