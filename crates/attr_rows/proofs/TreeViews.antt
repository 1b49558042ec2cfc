-- The views of paths and of lists of arguments that are put together.
use Rattle.std.proofs.Common.{◌≡◌, ◌≤◌, ℕ, Bool, false, List, length, arith, [], ◌∷◌, ◌++◌, map, Option, Some, None, Vec, Box, Global, refl, sym, ap, ◌∙◌}
use Rattle.std.proofs.lemmas.List.{map-append}
use Rattle.syntax_trees.specs.Syntax.{TyD, PathD, path, SegmentD, segment, Segments, MaybeQSelf, ArgumentsD, no_arguments, angle, GenericD, QSelfD, ExprD, ExprPathD, expr_path, BoundD, more_segments, segments_of, generics_of}
use Rattle.syntax_trees.specs.View.{path_view, segment_view, arguments_view, generic_view, expr_path_view, maybe_qself_view, bound_step, expr_step, generic_step, arguments_step, ty_step, expr_path_step, path_step, segment_step, qself_step}
use Rattle.syntax_trees.specs.declared.tree.Bound.TheOpen.{PathArguments-F}
use Rattle.syntax_trees.specs.declared.tree.GenericArgument.{GenericArgument}
use Rattle.syntax_trees.specs.declared.tree.PathArguments.{fold-roll-PathArguments}
use Rattle.syntax_trees.specs.declared.tree.PathArguments.TheVariants as args
use Rattle.syntax_trees.specs.declared.tree.PathSegment.{PathSegment}
use Rattle.syntax_trees.specs.declared.tree.Path.{Path, roll-Path, fold-roll-Path}
use Rattle.syntax_trees.specs.declared.tree.QSelf.{QSelf}
use Rattle.syntax_trees.specs.declared.tree.ExprPath.{ExprPath, roll-ExprPath, fold-roll-ExprPath}
use Rattle.token_trees.specs.declared.token.Span.{Span}
use Rattle.attr_defs.specs.Rows.{and_segment, in_module, is_self, lacks_arguments}
use Rattle.attr_rows.specs.Longer.{longer}

pub angle_view : (t : Bool) (gs : Vec GenericArgument Global) → arguments_view (args.Angle t gs) ≡ angle t (generics_of (map generic_view gs.items))
angle_view t gs = ap arguments_view (sym (args.rolls-Angle t gs)) ∙ fold-roll-PathArguments BoundD ExprD GenericD ArgumentsD TyD ExprPathD PathD SegmentD QSelfD bound_step expr_step generic_step arguments_step ty_step expr_path_step path_step segment_step qself_step (PathArguments-F.Angle t gs)

segment_last : (ss : List SegmentD) (s : SegmentD) → segments_of (ss ++ s ∷ []) ≡ and_segment (segments_of ss) s
segment_last [] s = refl
segment_last (t ∷ ss) s = ap (more_segments t) (segment_last ss s)

-- a path with one more segment
pub path_longer : (leading : Bool) (ss : List PathSegment) (s : PathSegment) → path leading (segments_of (map segment_view (ss ++ s ∷ []))) ≡ longer (path leading (segments_of (map segment_view ss))) (segment_view s)
path_longer leading ss s =
    ap (λ l. path leading (segments_of l)) (map-append segment_view ss (s ∷ [])) ∙ ap (path leading) (segment_last (map segment_view ss) (segment_view s))

pub path_rolled : (leading : Bool) (ss : Vec PathSegment Global) → path_view (roll-Path (record { leading = leading; segments = ss })) ≡ path leading (segments_of (map segment_view ss.items))
path_rolled leading ss = fold-roll-Path BoundD ExprD GenericD ArgumentsD TyD ExprPathD PathD SegmentD QSelfD bound_step expr_step generic_step arguments_step ty_step expr_path_step path_step segment_step qself_step (record { leading = leading; segments = ss })

pub expr_path_rolled : (q : Option (Box QSelf Global)) (p : Path) → expr_path_view (roll-ExprPath (record { qself = q; path = p })) ≡ expr_path (maybe_qself_view q) (path_view p)
expr_path_rolled None p = fold-roll-ExprPath BoundD ExprD GenericD ArgumentsD TyD ExprPathD PathD SegmentD QSelfD bound_step expr_step generic_step arguments_step ty_step expr_path_step path_step segment_step qself_step (record { qself = None; path = p })
expr_path_rolled (Some b) p = fold-roll-ExprPath BoundD ExprD GenericD ArgumentsD TyD ExprPathD PathD SegmentD QSelfD bound_step expr_step generic_step arguments_step ty_step expr_path_step path_step segment_step qself_step (record { qself = Some b; path = p })

pub some_arguments : {X : Type 0} → (f : X → GenericD) (t : Bool) (xs : List X) → 1 ≤ length xs → lacks_arguments (angle t (generics_of (map f xs))) ≡ false
some_arguments f t [] h = absurd (omega arith)
some_arguments f t (x ∷ xs) h = refl

two_segments : (leading : Bool) (s t : SegmentD) (ss : Segments) → is_self (path leading (more_segments s (more_segments t ss))) ≡ false
two_segments leading (segment n a) t ss = refl

pub many_not_self : {X : Type 0} → (f : X → SegmentD) (leading : Bool) (xs : List X) → 2 ≤ length xs → is_self (path leading (segments_of (map f xs))) ≡ false
many_not_self f leading [] h = absurd (omega arith)
many_not_self f leading (x ∷ []) h = absurd (omega arith)
many_not_self f leading (x ∷ y ∷ xs) h = two_segments leading (f x) (f y) (segments_of (map f xs))

-- the function of that name in a module
pub module_longer : (q : MaybeQSelf) (p : PathD) (name : List ℕ) (at : Span) → expr_path q (longer p (segment (record { text = name; span = at }) no_arguments)) ≡ in_module (expr_path q p) name at
module_longer q (path leading ss) name at = refl
