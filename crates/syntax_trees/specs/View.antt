-- The trees that values of the program stand for.
use Rattle.std.specs.Prelude.{Option, Some, None, option_map, string_bytes}
use Rattle.std.specs.declared.alloc.Global.{Global}
use Rattle.std.specs.declared.boxed.Box.{Box}
use Rattle.token_trees.specs.View.{name_view, fixed_view, stream}
use Rattle.syntax_trees.specs.Syntax.{LifetimeD, LitStrD, MemberD, named, unnamed, TyD, ty_array, ty_fn, ty_group, ty_impl, ty_infer, ty_macro, ty_never, ty_paren, ty_path, ty_pointer, ty_reference, ty_slice, ty_object, ty_tuple, ty_verbatim, PathD, path, SegmentD, segment, ArgumentsD, no_arguments, angle, parens, GenericD, arg_lifetime, arg_ty, arg_const, arg_assoc_ty, arg_assoc_const, arg_constraint, QSelfD, qself, ExprD, ex_binary, ex_call, ex_cast, ex_field, ex_index, ex_fixed, ex_paren, ex_path, ex_unary, ex_verbatim, ExprPathD, expr_path, BoundD, bound_trait, bound_lifetime, MaybeTy, no_ty, some_ty, MaybeQSelf, no_qself, some_qself, tys_of, bounds_of, segments_of, generics_of, exprs_of}
use Rattle.syntax_trees.specs.declared.tree.Lifetime.{Lifetime}
use Rattle.syntax_trees.specs.declared.tree.LitStr.{LitStr}
use Rattle.syntax_trees.specs.declared.tree.Member.{Member}
use Rattle.syntax_trees.specs.declared.tree.Member.TheVariants.{Named, Unnamed}
use Rattle.syntax_trees.specs.declared.tree.Bound.TheOpen.{Ty-F, Path-F, PathSegment-F, PathArguments-F, GenericArgument-F, QSelf-F, Expr-F, ExprPath-F, Bound-F}
use Rattle.syntax_trees.specs.declared.tree.Ty.{Ty, fold-Ty}
use Rattle.syntax_trees.specs.declared.tree.Path.{Path, fold-Path}
use Rattle.syntax_trees.specs.declared.tree.PathSegment.{PathSegment, fold-PathSegment}
use Rattle.syntax_trees.specs.declared.tree.PathArguments.{PathArguments, fold-PathArguments}
use Rattle.syntax_trees.specs.declared.tree.GenericArgument.{GenericArgument, fold-GenericArgument}
use Rattle.syntax_trees.specs.declared.tree.QSelf.{QSelf, fold-QSelf}
use Rattle.syntax_trees.specs.declared.tree.Expr.{Expr, fold-Expr}
use Rattle.syntax_trees.specs.declared.tree.ExprPath.{ExprPath, fold-ExprPath}
use Rattle.syntax_trees.specs.declared.tree.Bound.{Bound, fold-Bound}

abbrev pub lifetime_view : Lifetime → LifetimeD
lifetime_view l = record { name = name_view l.ident; span = l.span }

abbrev pub lit_str_view : LitStr → LitStrD
lit_str_view l = record { text = string_bytes l.value; suffix = string_bytes l.suffix; span = l.span }

abbrev pub member_view : Member → MemberD
member_view (Named i) = named (name_view i)
member_view (Unnamed n) = unnamed n

abbrev pub maybe_ty : Option (Box TyD Global) → MaybeTy
maybe_ty None = no_ty
maybe_ty (Some b) = some_ty b.value

abbrev pub maybe_qself : Option (Box QSelfD Global) → MaybeQSelf
maybe_qself None = no_qself
maybe_qself (Some b) = some_qself b.value

-- one level each, with the trees inside already seen
abbrev pub bound_step : Bound-F BoundD ExprD GenericD ArgumentsD TyD ExprPathD PathD SegmentD QSelfD → BoundD
bound_step (Bound-F.Trait p) = bound_trait p
bound_step (Bound-F.Bound::Lifetime l) = bound_lifetime (lifetime_view l)

abbrev pub expr_step : Expr-F BoundD ExprD GenericD ArgumentsD TyD ExprPathD PathD SegmentD QSelfD → ExprD
expr_step (Expr-F.Binary a o b) = ex_binary a.value (stream o) b.value
expr_step (Expr-F.Call f xs) = ex_call f.value (exprs_of xs.items)
expr_step (Expr-F.Cast e t) = ex_cast e.value t.value
expr_step (Expr-F.Field e m) = ex_field e.value (member_view m)
expr_step (Expr-F.Index e i) = ex_index e.value i.value
expr_step (Expr-F.Lit l) = ex_fixed (fixed_view l.lit) l.span
expr_step (Expr-F.Expr::Paren e) = ex_paren e.value
expr_step (Expr-F.Expr::Path p) = ex_path p
expr_step (Expr-F.Unary o e) = ex_unary (stream o) e.value
expr_step (Expr-F.Expr::Verbatim s) = ex_verbatim (stream s)

abbrev pub generic_step : GenericArgument-F BoundD ExprD GenericD ArgumentsD TyD ExprPathD PathD SegmentD QSelfD → GenericD
generic_step (GenericArgument-F.GenericArgument::Lifetime l) = arg_lifetime (lifetime_view l)
generic_step (GenericArgument-F.Ty t) = arg_ty t
generic_step (GenericArgument-F.Const e) = arg_const e
generic_step (GenericArgument-F.AssocType i t) = arg_assoc_ty (name_view i) t
generic_step (GenericArgument-F.AssocConst i e) = arg_assoc_const (name_view i) e
generic_step (GenericArgument-F.Constraint i bs) = arg_constraint (name_view i) (bounds_of bs.items)

abbrev pub arguments_step : PathArguments-F BoundD ExprD GenericD ArgumentsD TyD ExprPathD PathD SegmentD QSelfD → ArgumentsD
arguments_step PathArguments-F.None = no_arguments
arguments_step (PathArguments-F.Angle t gs) = angle t (generics_of gs.items)
arguments_step (PathArguments-F.PathArguments::Paren ts o) = parens (tys_of ts.items) (maybe_ty o)

abbrev pub ty_step : Ty-F BoundD ExprD GenericD ArgumentsD TyD ExprPathD PathD SegmentD QSelfD → TyD
ty_step (Ty-F.Array t e) = ty_array t.value e.value
ty_step (Ty-F.FnPtr ts o) = ty_fn (tys_of ts.items) (maybe_ty o)
ty_step (Ty-F.Group t) = ty_group t.value
ty_step (Ty-F.ImplTrait bs) = ty_impl (bounds_of bs.items)
ty_step (Ty-F.Infer s) = ty_infer s
ty_step (Ty-F.Macro p s) = ty_macro p (stream s)
ty_step (Ty-F.Never s) = ty_never s
ty_step (Ty-F.Ty::Paren t) = ty_paren t.value
ty_step (Ty-F.Ty::Path q p) = ty_path (maybe_qself q) p
ty_step (Ty-F.Ptr m t) = ty_pointer m t.value
ty_step (Ty-F.Reference l m t) = ty_reference (option_map lifetime_view l) m t.value
ty_step (Ty-F.Slice t) = ty_slice t.value
ty_step (Ty-F.TraitObject bs) = ty_object (bounds_of bs.items)
ty_step (Ty-F.Tuple ts) = ty_tuple (tys_of ts.items)
ty_step (Ty-F.Ty::Verbatim s) = ty_verbatim (stream s)

abbrev pub expr_path_step : ExprPath-F BoundD ExprD GenericD ArgumentsD TyD ExprPathD PathD SegmentD QSelfD → ExprPathD
expr_path_step p = expr_path (maybe_qself p.qself) p.path

abbrev pub path_step : Path-F BoundD ExprD GenericD ArgumentsD TyD ExprPathD PathD SegmentD QSelfD → PathD
path_step p = path p.leading (segments_of p.segments.items)

abbrev pub segment_step : PathSegment-F BoundD ExprD GenericD ArgumentsD TyD ExprPathD PathD SegmentD QSelfD → SegmentD
segment_step s = segment (name_view s.ident) s.arguments

abbrev pub qself_step : QSelf-F BoundD ExprD GenericD ArgumentsD TyD ExprPathD PathD SegmentD QSelfD → QSelfD
qself_step q = qself q.ty q.position

abbrev pub ty : Ty → TyD
ty = fold-Ty BoundD ExprD GenericD ArgumentsD TyD ExprPathD PathD SegmentD QSelfD bound_step expr_step generic_step arguments_step ty_step expr_path_step path_step segment_step qself_step

abbrev pub path_view : Path → PathD
path_view = fold-Path BoundD ExprD GenericD ArgumentsD TyD ExprPathD PathD SegmentD QSelfD bound_step expr_step generic_step arguments_step ty_step expr_path_step path_step segment_step qself_step

abbrev pub segment_view : PathSegment → SegmentD
segment_view = fold-PathSegment BoundD ExprD GenericD ArgumentsD TyD ExprPathD PathD SegmentD QSelfD bound_step expr_step generic_step arguments_step ty_step expr_path_step path_step segment_step qself_step

abbrev pub arguments_view : PathArguments → ArgumentsD
arguments_view = fold-PathArguments BoundD ExprD GenericD ArgumentsD TyD ExprPathD PathD SegmentD QSelfD bound_step expr_step generic_step arguments_step ty_step expr_path_step path_step segment_step qself_step

abbrev pub generic_view : GenericArgument → GenericD
generic_view = fold-GenericArgument BoundD ExprD GenericD ArgumentsD TyD ExprPathD PathD SegmentD QSelfD bound_step expr_step generic_step arguments_step ty_step expr_path_step path_step segment_step qself_step

abbrev pub qself_view : QSelf → QSelfD
qself_view = fold-QSelf BoundD ExprD GenericD ArgumentsD TyD ExprPathD PathD SegmentD QSelfD bound_step expr_step generic_step arguments_step ty_step expr_path_step path_step segment_step qself_step

abbrev pub expr : Expr → ExprD
expr = fold-Expr BoundD ExprD GenericD ArgumentsD TyD ExprPathD PathD SegmentD QSelfD bound_step expr_step generic_step arguments_step ty_step expr_path_step path_step segment_step qself_step

abbrev pub expr_path_view : ExprPath → ExprPathD
expr_path_view = fold-ExprPath BoundD ExprD GenericD ArgumentsD TyD ExprPathD PathD SegmentD QSelfD bound_step expr_step generic_step arguments_step ty_step expr_path_step path_step segment_step qself_step

abbrev pub bound_view : Bound → BoundD
bound_view = fold-Bound BoundD ExprD GenericD ArgumentsD TyD ExprPathD PathD SegmentD QSelfD bound_step expr_step generic_step arguments_step ty_step expr_path_step path_step segment_step qself_step

abbrev pub maybe_lifetime_view : Option Lifetime → Option LifetimeD
maybe_lifetime_view l = option_map lifetime_view l

abbrev pub maybe_ty_view : Option (Box Ty Global) → MaybeTy
maybe_ty_view None = no_ty
maybe_ty_view (Some b) = some_ty (ty b.value)

abbrev pub maybe_qself_view : Option (Box QSelf Global) → MaybeQSelf
maybe_qself_view None = no_qself
maybe_qself_view (Some b) = some_qself (qself_view b.value)
