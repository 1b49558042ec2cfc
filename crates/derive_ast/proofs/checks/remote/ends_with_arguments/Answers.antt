use Rattle.std.proofs.Common.{◌≡◌, ◌-◌, length, Some, subst, ap, sym, ◌∙◌}
use Rattle.std.specs.List.{slice_get}
use Rattle.syntax_trees.specs.Syntax.{PathD}
use Rattle.syntax_trees.specs.View.{segment_view}
use Rattle.syntax_trees.specs.declared.tree.Path.{out-Path}
use Rattle.syntax_trees.proofs.Views.{path_out}
use Rattle.attr_parts.specs.Types.{path_segments}
use Rattle.container_defs.specs.Checks.{last_has_arguments}
use Rattle.derive_ast.proofs.LastOf.{arguments_at}
use Rattle.derive_ast.proofs.checks.remote.ends_with_arguments.Goals as goal

pub returns-in-Some : goal.returns-in-Some
returns-in-Some c =
    let p = out-Path c.args.path.now in
    let h : slice_get p.segments.items (length p.segments.items - 1) ≡ Some c.in-Some.segment.now = subst (λ ss. slice_get ss (length ss - 1) ≡ Some c.in-Some.segment.now) c.deref.ensures.value (sym c.in-Some.ensures.value) in
    c.has_arguments.ensures
    ∙ sym (arguments_at segment_view p.segments.items c.in-Some.segment.now h)
    ∙ ap (λ (q : PathD). last_has_arguments (path_segments q)) (sym (path_out c.args.path.now))
