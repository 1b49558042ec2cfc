-- The views of what holds two parts, level by level.
use Rattle.std.proofs.Common.{◌≡◌, map, Option, Some, None, Vec, Box, Global, sym, ap, ◌∙◌}
use Rattle.token_trees.specs.declared.token.TokenStream.{TokenStream}
use Rattle.token_trees.specs.View.{stream}
use Rattle.syntax_trees.specs.Syntax.{TyD, ty_array, ty_fn, ty_macro, ty_path, PathD, SegmentD, ArgumentsD, parens, GenericD, QSelfD, ExprD, ex_binary, ex_call, ex_cast, ex_field, ex_index, ex_unary, ExprPathD, BoundD, tys_of, exprs_of}
use Rattle.syntax_trees.specs.View.{ty, expr, arguments_view, path_view, member_view, maybe_ty_view, maybe_qself_view, bound_step, expr_step, generic_step, arguments_step, ty_step, expr_path_step, path_step, segment_step, qself_step}
use Rattle.syntax_trees.specs.declared.tree.Bound.TheOpen.{Ty-F, Expr-F, PathArguments-F}
use Rattle.syntax_trees.specs.declared.tree.Ty.{Ty, fold-roll-Ty}
use Rattle.syntax_trees.specs.declared.tree.Ty.TheVariants as tys
use Rattle.syntax_trees.specs.declared.tree.Expr.{Expr, fold-roll-Expr}
use Rattle.syntax_trees.specs.declared.tree.Expr.TheVariants as exprs
use Rattle.syntax_trees.specs.declared.tree.PathArguments.{fold-roll-PathArguments}
use Rattle.syntax_trees.specs.declared.tree.PathArguments.TheVariants as args
use Rattle.syntax_trees.specs.declared.tree.Path.{Path}
use Rattle.syntax_trees.specs.declared.tree.QSelf.{QSelf}
use Rattle.syntax_trees.specs.declared.tree.Member.{Member}

pub array_view : (t : Box Ty Global) (e : Box Expr Global) → ty (tys.Array t e) ≡ ty_array (ty t.value) (expr e.value)
array_view t e = ap ty (sym (tys.rolls-Array t e)) ∙ fold-roll-Ty BoundD ExprD GenericD ArgumentsD TyD ExprPathD PathD SegmentD QSelfD bound_step expr_step generic_step arguments_step ty_step expr_path_step path_step segment_step qself_step (Ty-F.Array t e)

pub fn_view : (ts : Vec Ty Global) (o : Option (Box Ty Global)) → ty (tys.FnPtr ts o) ≡ ty_fn (tys_of (map ty ts.items)) (maybe_ty_view o)
fn_view ts None = ap ty (sym (tys.rolls-FnPtr ts None)) ∙ fold-roll-Ty BoundD ExprD GenericD ArgumentsD TyD ExprPathD PathD SegmentD QSelfD bound_step expr_step generic_step arguments_step ty_step expr_path_step path_step segment_step qself_step (Ty-F.FnPtr ts None)
fn_view ts (Some b) = ap ty (sym (tys.rolls-FnPtr ts (Some b))) ∙ fold-roll-Ty BoundD ExprD GenericD ArgumentsD TyD ExprPathD PathD SegmentD QSelfD bound_step expr_step generic_step arguments_step ty_step expr_path_step path_step segment_step qself_step (Ty-F.FnPtr ts (Some b))

pub macro_view : (p : Path) (s : TokenStream) → ty (tys.Macro p s) ≡ ty_macro (path_view p) (stream s)
macro_view p s = ap ty (sym (tys.rolls-Macro p s)) ∙ fold-roll-Ty BoundD ExprD GenericD ArgumentsD TyD ExprPathD PathD SegmentD QSelfD bound_step expr_step generic_step arguments_step ty_step expr_path_step path_step segment_step qself_step (Ty-F.Macro p s)

pub path_type_view : (q : Option (Box QSelf Global)) (p : Path) → ty (tys.Path q p) ≡ ty_path (maybe_qself_view q) (path_view p)
path_type_view None p = ap ty (sym (tys.rolls-Path None p)) ∙ fold-roll-Ty BoundD ExprD GenericD ArgumentsD TyD ExprPathD PathD SegmentD QSelfD bound_step expr_step generic_step arguments_step ty_step expr_path_step path_step segment_step qself_step (Ty-F.Ty::Path None p)
path_type_view (Some b) p = ap ty (sym (tys.rolls-Path (Some b) p)) ∙ fold-roll-Ty BoundD ExprD GenericD ArgumentsD TyD ExprPathD PathD SegmentD QSelfD bound_step expr_step generic_step arguments_step ty_step expr_path_step path_step segment_step qself_step (Ty-F.Ty::Path (Some b) p)

pub parens_view : (ts : Vec Ty Global) (o : Option (Box Ty Global)) → arguments_view (args.Paren ts o) ≡ parens (tys_of (map ty ts.items)) (maybe_ty_view o)
parens_view ts None = ap arguments_view (sym (args.rolls-Paren ts None)) ∙ fold-roll-PathArguments BoundD ExprD GenericD ArgumentsD TyD ExprPathD PathD SegmentD QSelfD bound_step expr_step generic_step arguments_step ty_step expr_path_step path_step segment_step qself_step (PathArguments-F.PathArguments::Paren ts None)
parens_view ts (Some b) = ap arguments_view (sym (args.rolls-Paren ts (Some b))) ∙ fold-roll-PathArguments BoundD ExprD GenericD ArgumentsD TyD ExprPathD PathD SegmentD QSelfD bound_step expr_step generic_step arguments_step ty_step expr_path_step path_step segment_step qself_step (PathArguments-F.PathArguments::Paren ts (Some b))

pub binary_view : (e : Box Expr Global) (s : TokenStream) (f : Box Expr Global) → expr (exprs.Binary e s f) ≡ ex_binary (expr e.value) (stream s) (expr f.value)
binary_view e s f = ap expr (sym (exprs.rolls-Binary e s f)) ∙ fold-roll-Expr BoundD ExprD GenericD ArgumentsD TyD ExprPathD PathD SegmentD QSelfD bound_step expr_step generic_step arguments_step ty_step expr_path_step path_step segment_step qself_step (Expr-F.Binary e s f)

pub call_view : (e : Box Expr Global) (xs : Vec Expr Global) → expr (exprs.Call e xs) ≡ ex_call (expr e.value) (exprs_of (map expr xs.items))
call_view e xs = ap expr (sym (exprs.rolls-Call e xs)) ∙ fold-roll-Expr BoundD ExprD GenericD ArgumentsD TyD ExprPathD PathD SegmentD QSelfD bound_step expr_step generic_step arguments_step ty_step expr_path_step path_step segment_step qself_step (Expr-F.Call e xs)

pub cast_view : (e : Box Expr Global) (t : Box Ty Global) → expr (exprs.Cast e t) ≡ ex_cast (expr e.value) (ty t.value)
cast_view e t = ap expr (sym (exprs.rolls-Cast e t)) ∙ fold-roll-Expr BoundD ExprD GenericD ArgumentsD TyD ExprPathD PathD SegmentD QSelfD bound_step expr_step generic_step arguments_step ty_step expr_path_step path_step segment_step qself_step (Expr-F.Cast e t)

pub field_of_view : (e : Box Expr Global) (m : Member) → expr (exprs.Field e m) ≡ ex_field (expr e.value) (member_view m)
field_of_view e m = ap expr (sym (exprs.rolls-Field e m)) ∙ fold-roll-Expr BoundD ExprD GenericD ArgumentsD TyD ExprPathD PathD SegmentD QSelfD bound_step expr_step generic_step arguments_step ty_step expr_path_step path_step segment_step qself_step (Expr-F.Field e m)

pub index_view : (e : Box Expr Global) (i : Box Expr Global) → expr (exprs.Index e i) ≡ ex_index (expr e.value) (expr i.value)
index_view e i = ap expr (sym (exprs.rolls-Index e i)) ∙ fold-roll-Expr BoundD ExprD GenericD ArgumentsD TyD ExprPathD PathD SegmentD QSelfD bound_step expr_step generic_step arguments_step ty_step expr_path_step path_step segment_step qself_step (Expr-F.Index e i)

pub unary_view : (s : TokenStream) (e : Box Expr Global) → expr (exprs.Unary s e) ≡ ex_unary (stream s) (expr e.value)
unary_view s e = ap expr (sym (exprs.rolls-Unary s e)) ∙ fold-roll-Expr BoundD ExprD GenericD ArgumentsD TyD ExprPathD PathD SegmentD QSelfD bound_step expr_step generic_step arguments_step ty_step expr_path_step path_step segment_step qself_step (Expr-F.Unary s e)
