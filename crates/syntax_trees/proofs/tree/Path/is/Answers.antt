use Rattle.std.proofs.Common.{◌≤◌, length, subst}
use Rattle.syntax_trees.specs.Syntax.{PathD, IsWord}
use Rattle.syntax_trees.specs.View.{segment_view}
use Rattle.syntax_trees.specs.declared.tree.Path.{out-Path}
use Rattle.syntax_trees.proofs.Views.{path_out}
use Rattle.syntax_trees.proofs.Fronts.{not_lone}
use Rattle.syntax_trees.proofs.tree.Path.is.Goals as goal

pub returns-in_default-2 : goal.returns-in_default-2
returns-in_default-2 c =
    let p = out-Path c.args.self.now in
    let n = c.args.symbol.0.now in
    let long : 2 ≤ length p.segments.items = subst (λ ss. 2 ≤ length ss) c.as_slice.ensures.value c.in_default.len_at_least in
    (λ h. cc, λ h. absurd (not_lone segment_view p.leading n p.segments.items long (subst (λ (q : PathD). IsWord n q) (path_out c.args.self.now) h)))
