-- What a tree is printed as, some text has, where some text has each of its parts.
use Rattle.std.proofs.Common.{ℕ, ◌-◌, Bool, true, false, List, [], ◌∷◌, ◌++◌, cond, Option, Some, None}
use Rattle.std.specs.Prelude.{codes, nat_eq}
use Rattle.token_trees.specs.Token.{Tok, site}
use Rattle.syntax_trees.specs.Syntax.{LifetimeD, TyD, ty_array, ty_fn, ty_group, ty_impl, ty_infer, ty_macro, ty_never, ty_paren, ty_path, ty_pointer, ty_reference, ty_slice, ty_object, ty_tuple, ty_verbatim, PathD, path, SegmentD, segment, ArgumentsD, no_arguments, angle, parens, GenericD, arg_lifetime, arg_ty, arg_const, arg_assoc_ty, arg_assoc_const, arg_constraint, QSelfD, qself, ExprD, ex_binary, ex_call, ex_cast, ex_field, ex_index, ex_fixed, ex_paren, ex_path, ex_unary, ex_verbatim, ExprPathD, expr_path, BoundD, bound_trait, bound_lifetime, MaybeTy, no_ty, some_ty, MaybeQSelf, no_qself, some_qself, Tys, end_tys, more_tys, Bounds, end_bounds, more_bounds, Segments, end_segments, more_segments, Generics, end_generics, more_generics, Exprs, end_exprs, more_exprs, bounds_of}
use Rattle.syntax_trees.specs.Item.{PredicateD, predicate_ty, predicate_lifetime}
use Rattle.syntax_printing.specs.Print.{sign, keyword, colons, arrow, within_parens, within_brackets, print_name, print_lifetime, print_maybe_lifetime, print_member, when, any_ty, position, print_ty, print_output, print_tys, print_bound, print_bounds, print_qself, print_front, print_path, print_behind, print_expr_path, print_segments, print_segment, print_arguments, print_generics, print_generic, print_expr, print_exprs}
use Rattle.syntax_printing.specs.PrintPredicates.{print_lifetimes, print_predicate, print_predicates}
use Rattle.syntax_laws.specs.RoundTrip.{AreOfText}
use Rattle.printing_laws.specs.Parts.{MaybeLifetimeParts, TyParts, OutputParts, TysParts, BoundParts, BoundsParts, FrontParts, QSelfParts, PathParts, SegmentsParts, SegmentParts, ArgumentsParts, GenericsParts, GenericParts, ExprPathParts, ExprParts, ExprsParts, LifetimesParts, PredicateParts, PredicatesParts}
use Rattle.printing_laws.specs.Laws.{PrintingsAreOfText}
use Rattle.printing_laws.proofs.Written.{none_written, join, before, when_written, parens_written, brackets_written, lifetime_written, plus, star, ampersand, comma, full_stop, semicolon, colon, equals, less, greater, exclamation, colons_written, arrow_written, underscore, as_written, fn_written, dyn_written, impl_written, mut_written, const_written}

-- an element of a list, behind its separator
listed : (b : Bool) (t : Tok) (ts us : List Tok) → AreOfText (t ∷ []) → AreOfText ts → AreOfText us → AreOfText (when b (t ∷ []) ++ ts ++ us)
listed b t ts us h k l = join (when b (t ∷ []) ++ ts) us (join (when b (t ∷ [])) ts (when_written b (t ∷ []) h) k) l

pointer_word : (m : Bool) → AreOfText (keyword (cond m (codes "mut") (codes "const")) ∷ [])
pointer_word true = mut_written
pointer_word false = const_written

front_end : (b : Bool) → AreOfText (cond b (sign 62) (keyword (codes "as")) ∷ [])
front_end true = greater
front_end false = as_written

maybe_lifetime : (l : Option LifetimeD) → MaybeLifetimeParts l → AreOfText (print_maybe_lifetime l)
maybe_lifetime None h = none_written
maybe_lifetime (Some l) h = lifetime_written l h

mutual
  ty : (t : TyD) → TyParts t → AreOfText (print_ty t)
  ty (ty_array t e) h = brackets_written (print_ty t ++ (sign 59 ∷ print_expr e)) (join (print_ty t) (sign 59 ∷ print_expr e) (ty t h.0) (before (sign 59) (print_expr e) semicolon (expr e h.1)))
  ty (ty_fn is o) h = before (keyword (codes "fn")) (within_parens (print_tys false is) ∷ print_output o) fn_written (before (within_parens (print_tys false is)) (print_output o) (parens_written (print_tys false is) (tys false is h.0)) (output o h.1))
  ty (ty_group t) h = absurd h
  ty (ty_impl bs) h = before (keyword (codes "impl")) (print_bounds false bs) impl_written (bounds false bs h)
  ty (ty_infer s) h = underscore s
  ty (ty_macro p m) h = join (print_path p) (sign 33 ∷ m) (path_of_text p h.0) (before (sign 33) m (exclamation site) h.1)
  ty (ty_never s) h = exclamation s
  ty (ty_paren t) h = parens_written (print_ty t) (ty t h)
  ty (ty_path q p) h = join (print_front q) (print_behind (position q) p) (front q h.0) (behind (position q) p h.1)
  ty (ty_pointer m t) h = before (sign 42) (keyword (cond m (codes "mut") (codes "const")) ∷ print_ty t) star (before (keyword (cond m (codes "mut") (codes "const"))) (print_ty t) (pointer_word m) (ty t h))
  ty (ty_reference l m t) h =
      let words = when m (keyword (codes "mut") ∷ []) in
      before (sign 38) (print_maybe_lifetime l ++ words ++ print_ty t) ampersand (join (print_maybe_lifetime l ++ words) (print_ty t) (join (print_maybe_lifetime l) words (maybe_lifetime l h.0) (when_written m (keyword (codes "mut") ∷ []) mut_written)) (ty t h.1))
  ty (ty_slice t) h = brackets_written (print_ty t) (ty t h)
  ty (ty_object bs) h = before (keyword (codes "dyn")) (print_bounds false bs) dyn_written (bounds false bs h)
  ty (ty_tuple is) h = parens_written (print_tys false is ++ when (any_ty is) (sign 44 ∷ [])) (join (print_tys false is) (when (any_ty is) (sign 44 ∷ [])) (tys false is h) (when_written (any_ty is) (sign 44 ∷ []) comma))
  ty (ty_verbatim m) h = h

  output : (o : MaybeTy) → OutputParts o → AreOfText (print_output o)
  output no_ty h = none_written
  output (some_ty t) h = join arrow (print_ty t) arrow_written (ty t h)

  tys : (b : Bool) (is : Tys) → TysParts is → AreOfText (print_tys b is)
  tys b end_tys h = none_written
  tys b (more_tys t is) h = listed b (sign 44) (print_ty t) (print_tys true is) comma (ty t h.0) (tys true is h.1)

  bound : (b : BoundD) → BoundParts b → AreOfText (print_bound b)
  bound (bound_trait p) h = path_of_text p h
  bound (bound_lifetime l) h = lifetime_written l h

  bounds : (b : Bool) (bs : Bounds) → BoundsParts bs → AreOfText (print_bounds b bs)
  bounds b end_bounds h = none_written
  bounds b (more_bounds x bs) h = listed b (sign 43) (print_bound x) (print_bounds true bs) plus (bound x h.0) (bounds true bs h.1)

  qualified : (q : QSelfD) → QSelfParts q → AreOfText (print_qself q)
  qualified (qself t n) h =
      let end = cond (nat_eq n 0) (sign 62) (keyword (codes "as")) ∷ [] in
      before (sign 60) (print_ty t ++ end) less (join (print_ty t) end (ty t h) (front_end (nat_eq n 0)))

  front : (q : MaybeQSelf) → FrontParts q → AreOfText (print_front q)
  front no_qself h = none_written
  front (some_qself q) h = qualified q h

  path_of_text : (p : PathD) → PathParts p → AreOfText (print_path p)
  path_of_text (path l ss) h = segments 0 l ss h

  behind : (n : ℕ) (p : PathD) → PathParts p → AreOfText (print_behind n p)
  behind n (path l ss) h = segments n l ss h

  expr_path_of_text : (p : ExprPathD) → ExprPathParts p → AreOfText (print_expr_path p)
  expr_path_of_text (expr_path q p) h = join (print_front q) (print_behind (position q) p) (front q h.0) (behind (position q) p h.1)

  segments : (n : ℕ) (b : Bool) (ss : Segments) → SegmentsParts ss → AreOfText (print_segments n b ss)
  segments n b end_segments h = none_written
  segments n b (more_segments s ss) h =
      let rest = print_segments (n - 1) true ss in
      let end = when (nat_eq n 1) (sign 62 ∷ []) in
      let first = join (when b colons) (print_segment s) (when_written b colons colons_written) (segment_of_text s h.0) in
      join (when b colons ++ print_segment s ++ end) rest (join (when b colons ++ print_segment s) end first (when_written (nat_eq n 1) (sign 62 ∷ []) greater)) (segments (n - 1) true ss h.1)

  segment_of_text : (s : SegmentD) → SegmentParts s → AreOfText (print_segment s)
  segment_of_text (segment x a) h = before (print_name x) (print_arguments a) h.0 (arguments a h.1)

  arguments : (a : ArgumentsD) → ArgumentsParts a → AreOfText (print_arguments a)
  arguments no_arguments h = none_written
  arguments (angle b gs) h =
      let inner = print_generics false gs ++ (sign 62 ∷ []) in
      join (when b colons) (sign 60 ∷ inner) (when_written b colons colons_written) (before (sign 60) inner less (join (print_generics false gs) (sign 62 ∷ []) (generics false gs h) greater))
  arguments (parens is o) h = before (within_parens (print_tys false is)) (print_output o) (parens_written (print_tys false is) (tys false is h.0)) (output o h.1)

  generics : (b : Bool) (gs : Generics) → GenericsParts gs → AreOfText (print_generics b gs)
  generics b end_generics h = none_written
  generics b (more_generics g gs) h = listed b (sign 44) (print_generic g) (print_generics true gs) comma (generic g h.0) (generics true gs h.1)

  generic : (g : GenericD) → GenericParts g → AreOfText (print_generic g)
  generic (arg_lifetime l) h = lifetime_written l h
  generic (arg_ty t) h = ty t h
  generic (arg_const e) h = expr e h
  generic (arg_assoc_ty x t) h = before (print_name x) (sign 61 ∷ print_ty t) h.0 (before (sign 61) (print_ty t) equals (ty t h.1))
  generic (arg_assoc_const x e) h = before (print_name x) (sign 61 ∷ print_expr e) h.0 (before (sign 61) (print_expr e) equals (expr e h.1))
  generic (arg_constraint x bs) h = before (print_name x) (sign 58 ∷ print_bounds false bs) h.0 (before (sign 58) (print_bounds false bs) colon (bounds false bs h.1))

  expr : (e : ExprD) → ExprParts e → AreOfText (print_expr e)
  expr (ex_binary a o b) h = join (print_expr a ++ o) (print_expr b) (join (print_expr a) o (expr a h.0) h.1) (expr b h.2)
  expr (ex_call f es) h = join (print_expr f) (within_parens (print_exprs false es) ∷ []) (expr f h.0) (parens_written (print_exprs false es) (exprs false es h.1))
  expr (ex_cast e t) h = join (print_expr e) (keyword (codes "as") ∷ print_ty t) (expr e h.0) (before (keyword (codes "as")) (print_ty t) as_written (ty t h.1))
  expr (ex_field e m) h = join (print_expr e) (sign 46 ∷ print_member m ∷ []) (expr e h.0) (before (sign 46) (print_member m ∷ []) full_stop h.1)
  expr (ex_index e i) h = join (print_expr e) (within_brackets (print_expr i) ∷ []) (expr e h.0) (brackets_written (print_expr i) (expr i h.1))
  expr (ex_fixed l s) h = h
  expr (ex_paren e) h = parens_written (print_expr e) (expr e h)
  expr (ex_path p) h = expr_path_of_text p h
  expr (ex_unary o e) h = join o (print_expr e) h.0 (expr e h.1)
  expr (ex_verbatim m) h = h

  exprs : (b : Bool) (es : Exprs) → ExprsParts es → AreOfText (print_exprs b es)
  exprs b end_exprs h = none_written
  exprs b (more_exprs e es) h = listed b (sign 44) (print_expr e) (print_exprs true es) comma (expr e h.0) (exprs true es h.1)

lifetimes : (b : Bool) (ls : List LifetimeD) → LifetimesParts ls → AreOfText (print_lifetimes b ls)
lifetimes b [] h = none_written
lifetimes b (l ∷ ls) h = listed b (sign 43) (print_lifetime l) (print_lifetimes true ls) plus (lifetime_written l h.0) (lifetimes true ls h.1)

predicate : (p : PredicateD) → PredicateParts p → AreOfText (print_predicate p)
predicate (predicate_ty t bs) h = join (print_ty t) (sign 58 ∷ print_bounds false (bounds_of bs)) (ty t h.0) (before (sign 58) (print_bounds false (bounds_of bs)) colon (bounds false (bounds_of bs) h.1))
predicate (predicate_lifetime l ls) h = join (print_lifetime l) (sign 58 ∷ print_lifetimes false ls) (lifetime_written l h.0) (before (sign 58) (print_lifetimes false ls) colon (lifetimes false ls h.1))

predicates : (b : Bool) (ps : List PredicateD) → PredicatesParts ps → AreOfText (print_predicates b ps)
predicates b [] h = none_written
predicates b (p ∷ ps) h = listed b (sign 44) (print_predicate p) (print_predicates true ps) comma (predicate p h.0) (predicates true ps h.1)

pub printings_are_of_text : PrintingsAreOfText
printings_are_of_text = record { types = ty; paths = path_of_text; expr_paths = expr_path_of_text; exprs = expr; bounds = bounds false; predicates = predicates false; lifetimes = lifetimes false }
