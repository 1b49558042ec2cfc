use Rattle.std.proofs.Common.{◌≡◌, ◌-◌, length, Some, subst, ap, sym, ◌∙◌, codes}
use Rattle.std.specs.List.{slice_get}
use Rattle.std.specs.Str.{bytes_eq}
use Rattle.syntax_trees.specs.Syntax.{PathD}
use Rattle.syntax_trees.specs.View.{segment_view}
use Rattle.syntax_trees.specs.declared.tree.Path.{out-Path}
use Rattle.syntax_trees.proofs.Views.{path_out}
use Rattle.attr_parts.specs.Types.{last_name, path_segments}
use Rattle.attr_parts.proofs.Shapes.{last_name_at}
use Rattle.derive_ast.proofs.checks.transparent.ends_in_phantom.Goals as goal

pub returns-in-Some : goal.returns-in-Some
returns-in-Some c =
    let p = out-Path c.args.path.now in
    let h : slice_get p.segments.items (length p.segments.items - 1) ≡ Some c.in-Some.segment.now = subst (λ ss. slice_get ss (length ss - 1) ≡ Some c.in-Some.segment.now) c.deref.ensures.value (sym c.in-Some.ensures.value) in
    c.is_phantom_name.ensures
    ∙ ap (λ n. bytes_eq n (codes "PhantomData")) (sym (last_name_at segment_view p.segments.items c.in-Some.segment.now h))
    ∙ ap (λ (q : PathD). bytes_eq (last_name (path_segments q)) (codes "PhantomData")) (sym (path_out c.args.path.now))
