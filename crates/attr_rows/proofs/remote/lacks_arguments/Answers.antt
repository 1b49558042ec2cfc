use Rattle.std.proofs.Common.{map, ap, sym, ◌∙◌}
use Rattle.syntax_trees.specs.Syntax.{angle, generics_of}
use Rattle.syntax_trees.specs.View.{arguments_view, generic_view}
use Rattle.attr_defs.specs.Rows.{lacks_arguments}
use Rattle.attr_rows.proofs.TreeViews.{angle_view}
use Rattle.attr_rows.proofs.remote.lacks_arguments.Goals as goal

pub returns-in-Angle : goal.returns-in-Angle
returns-in-Angle c =
    let t = c.in-Angle.turbofish in
    c.is_empty_list.ensures
    ∙ ap (λ gs. lacks_arguments (angle t (generics_of (map generic_view gs)))) c.deref.ensures.value
    ∙ ap lacks_arguments (sym (ap arguments_view c.in-Angle.is ∙ angle_view t c.in-Angle.args))
