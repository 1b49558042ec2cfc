-- Lists that were walked, member by member.
use Rattle.std.proofs.Common.{◌≡◌, ◌<◌, List, [], ◌∷◌, map, length, Bool, true, refl, ap, sym, ◌∙◌, arith}
use Rattle.std.proofs.lemmas.List.{length-map}
use Rattle.token_trees.specs.Token.{Name}
use Rattle.token_trees.specs.View.{name_view}
use Rattle.syntax_trees.specs.Syntax.{TyD, ty_path, SegmentD, segment, ArgumentsD, GenericD, QSelfD, ExprD, BoundD, MaybeQSelf, some_qself, qself, PathD, path, ExprPathD, expr_path, more_tys, more_bounds, more_segments, more_generics, more_exprs, tys_of, bounds_of, segments_of, generics_of, exprs_of}
use Rattle.syntax_trees.specs.View.{segment_view, arguments_view, bound_step, expr_step, generic_step, arguments_step, ty_step, expr_path_step, path_step, segment_step, qself_step}
use Rattle.syntax_trees.specs.declared.tree.PathSegment.{PathSegment, out-PathSegment, fold_out-PathSegment}
use Rattle.derive_receiver.specs.Own.{Own, own_ty}
use Rattle.derive_receiver.specs.Replaced.{instead, as_ty, in_ty, in_segment, in_generic, in_expr, in_bound, in_tys, in_bounds, in_segments, in_generics, in_exprs}

pub tys_walked : (o : Own) (ts : List TyD) → tys_of (map (in_ty o) ts) ≡ in_tys o (tys_of ts)
tys_walked o [] = refl
tys_walked o (t ∷ ts) = ap (more_tys (in_ty o t)) (tys_walked o ts)

pub bounds_walked : (o : Own) (bs : List BoundD) → bounds_of (map (in_bound o) bs) ≡ in_bounds o (bounds_of bs)
bounds_walked o [] = refl
bounds_walked o (b ∷ bs) = ap (more_bounds (in_bound o b)) (bounds_walked o bs)

pub segments_walked : (o : Own) (ss : List SegmentD) → segments_of (map (in_segment o) ss) ≡ in_segments o (segments_of ss)
segments_walked o [] = refl
segments_walked o (s ∷ ss) = ap (more_segments (in_segment o s)) (segments_walked o ss)

pub generics_walked : (o : Own) (gs : List GenericD) → generics_of (map (in_generic o) gs) ≡ in_generics o (generics_of gs)
generics_walked o [] = refl
generics_walked o (g ∷ gs) = ap (more_generics (in_generic o g)) (generics_walked o gs)

pub exprs_walked : (o : Own) (es : List ExprD) → exprs_of (map (in_expr o) es) ≡ in_exprs o (exprs_of es)
exprs_walked o [] = refl
exprs_walked o (e ∷ es) = ap (more_exprs (in_expr o e)) (exprs_walked o es)

pub as_ty_of : (q : MaybeQSelf) (p : PathD) (e : ExprPathD) → expr_path q p ≡ e → ty_path q p ≡ as_ty e
as_ty_of q p e h = ap as_ty h

pub segment_out : (s : PathSegment) → segment_view s ≡ segment (name_view (out-PathSegment s).ident) (arguments_view (out-PathSegment s).arguments)
segment_out = fold_out-PathSegment BoundD ExprD GenericD ArgumentsD TyD ExprPathD PathD SegmentD QSelfD bound_step expr_step generic_step arguments_step ty_step expr_path_step path_step segment_step qself_step

more_there : (o : Own) (k : Bool) (n : Name) (a : ArgumentsD) (ss : List SegmentD) → 0 < length ss → expr_path (some_qself (qself (own_ty n.span o) 0)) (path true (segments_of ss)) ≡ instead o k (segment n a) (segments_of ss)
more_there o k n a [] h = absurd (omega arith)
more_there o k n a (s ∷ ss) h = refl

-- what stands instead of `Self` with more behind it
pub instead_more : (o : Own) (k : Bool) (s : PathSegment) (xs : List PathSegment) → 0 < length xs → expr_path (some_qself (qself (own_ty (out-PathSegment s).ident.span o) 0)) (path true (segments_of (map segment_view xs))) ≡ instead o k (segment_view s) (segments_of (map segment_view xs))
instead_more o k s xs h =
    let x = name_view (out-PathSegment s).ident in
    let a = arguments_view (out-PathSegment s).arguments in
    let long : 0 < length (map segment_view xs) = simp length-map h in
    more_there o k x a (map segment_view xs) long
    ∙ ap (λ v. instead o k v (segments_of (map segment_view xs))) (sym (segment_out s))
