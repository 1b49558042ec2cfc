-- Views, level by level.
use Rattle.std.proofs.Common.{◌≡◌, map, Option, Some, None, Box, Global, sym, ap, ◌∙◌}
use Rattle.syntax_trees.specs.Syntax.{TyD, PathD, path, SegmentD, ArgumentsD, GenericD, QSelfD, ExprD, ExprPathD, expr_path, BoundD, segments_of}
use Rattle.syntax_trees.specs.View.{path_view, segment_view, expr_path_view, maybe_qself_view, bound_step, expr_step, generic_step, arguments_step, ty_step, expr_path_step, path_step, segment_step, qself_step}
use Rattle.syntax_trees.specs.declared.tree.Path.{Path, out-Path, fold_out-Path}
use Rattle.syntax_trees.specs.declared.tree.QSelf.{QSelf}
use Rattle.syntax_trees.specs.declared.tree.ExprPath.{ExprPath, out-ExprPath, roll-ExprPath, roll-out-ExprPath, fold-roll-ExprPath}

pub path_out : (p : Path) → path_view p ≡ path (out-Path p).leading (segments_of (map segment_view (out-Path p).segments.items))
path_out = fold_out-Path BoundD ExprD GenericD ArgumentsD TyD ExprPathD PathD SegmentD QSelfD bound_step expr_step generic_step arguments_step ty_step expr_path_step path_step segment_step qself_step

rolled : (q : Option (Box QSelf Global)) (p : Path) → expr_path_view (roll-ExprPath (record { qself = q; path = p })) ≡ expr_path (maybe_qself_view q) (path_view p)
rolled None p = fold-roll-ExprPath BoundD ExprD GenericD ArgumentsD TyD ExprPathD PathD SegmentD QSelfD bound_step expr_step generic_step arguments_step ty_step expr_path_step path_step segment_step qself_step (record { qself = None; path = p })
rolled (Some b) p = fold-roll-ExprPath BoundD ExprD GenericD ArgumentsD TyD ExprPathD PathD SegmentD QSelfD bound_step expr_step generic_step arguments_step ty_step expr_path_step path_step segment_step qself_step (record { qself = Some b; path = p })

pub expr_path_out : (p : ExprPath) → expr_path_view p ≡ expr_path (maybe_qself_view (out-ExprPath p).qself) (path_view (out-ExprPath p).path)
expr_path_out p = ap expr_path_view (sym (roll-out-ExprPath p)) ∙ rolled (out-ExprPath p).qself (out-ExprPath p).path
