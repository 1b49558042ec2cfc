-- Trees and tokens up to their spans.
use Rattle.std.specs.Prelude.{◌≡◌, ℕ, ◌*◌, ◌<◌, List, map, Option, Some, None}
use Rattle.token_trees.specs.declared.token.Span.{Span}
use Rattle.token_trees.specs.Token.{Tok, Name, placed, site}
use Rattle.syntax_trees.specs.Syntax.{LifetimeD, MemberD, named, unnamed, TyD, ty_array, ty_fn, ty_group, ty_impl, ty_infer, ty_macro, ty_never, ty_paren, ty_path, ty_pointer, ty_reference, ty_slice, ty_object, ty_tuple, ty_verbatim, PathD, path, SegmentD, segment, ArgumentsD, no_arguments, angle, parens, GenericD, arg_lifetime, arg_ty, arg_const, arg_assoc_ty, arg_assoc_const, arg_constraint, QSelfD, qself, ExprD, ex_binary, ex_call, ex_cast, ex_field, ex_index, ex_fixed, ex_paren, ex_path, ex_unary, ex_verbatim, ExprPathD, expr_path, BoundD, bound_trait, bound_lifetime, MaybeTy, no_ty, some_ty, MaybeQSelf, no_qself, some_qself, Tys, end_tys, more_tys, Bounds, end_bounds, more_bounds, Segments, end_segments, more_segments, Generics, end_generics, more_generics, Exprs, end_exprs, more_exprs}
use Rattle.syntax_printing.specs.Print.{print_ty, print_path, print_expr_path}
use Rattle.syntax_parsers.specs.Fronts.{weight}
use Rattle.syntax_parsers.specs.SpellingForm.{IsParsedTy, IsParsedPath, IsParsedExprPath, SpellsTy, SpellsPath, SpellsExprPath, SpellsBounds}
use Rattle.syntax_parsers.specs.SpellingLaws.{ReadsTy, ReadsPath, ReadsExprPath}

abbrev pub name_at : Span → Name → Name
name_at s x = record { text = x.text; span = s }

abbrev pub lifetime_at : Span → LifetimeD → LifetimeD
lifetime_at s l = record { name = name_at s l.name; span = s }

abbrev pub maybe_lifetime_at : Span → Option LifetimeD → Option LifetimeD
maybe_lifetime_at s None = None
maybe_lifetime_at s (Some l) = Some (lifetime_at s l)

abbrev pub member_at : Span → MemberD → MemberD
member_at s (named x) = named (name_at s x)
member_at s (unnamed n) = unnamed n

-- the same tree, with the span s everywhere
abbrev mutual
  pub ty_at : Span → TyD → TyD
  ty_at s (ty_array t e) = ty_array (ty_at s t) (expr_at s e)
  ty_at s (ty_fn is o) = ty_fn (tys_at s is) (output_at s o)
  ty_at s (ty_group t) = ty_group (ty_at s t)
  ty_at s (ty_impl bs) = ty_impl (bounds_at s bs)
  ty_at s (ty_infer _) = ty_infer s
  ty_at s (ty_macro p m) = ty_macro (path_at s p) (map (placed s) m)
  ty_at s (ty_never _) = ty_never s
  ty_at s (ty_paren t) = ty_paren (ty_at s t)
  ty_at s (ty_path q p) = ty_path (front_at s q) (path_at s p)
  ty_at s (ty_pointer m t) = ty_pointer m (ty_at s t)
  ty_at s (ty_reference l m t) = ty_reference (maybe_lifetime_at s l) m (ty_at s t)
  ty_at s (ty_slice t) = ty_slice (ty_at s t)
  ty_at s (ty_object bs) = ty_object (bounds_at s bs)
  ty_at s (ty_tuple is) = ty_tuple (tys_at s is)
  ty_at s (ty_verbatim m) = ty_verbatim (map (placed s) m)

  pub output_at : Span → MaybeTy → MaybeTy
  output_at s no_ty = no_ty
  output_at s (some_ty t) = some_ty (ty_at s t)

  pub tys_at : Span → Tys → Tys
  tys_at s end_tys = end_tys
  tys_at s (more_tys t is) = more_tys (ty_at s t) (tys_at s is)

  pub bound_at : Span → BoundD → BoundD
  bound_at s (bound_trait p) = bound_trait (path_at s p)
  bound_at s (bound_lifetime l) = bound_lifetime (lifetime_at s l)

  pub bounds_at : Span → Bounds → Bounds
  bounds_at s end_bounds = end_bounds
  bounds_at s (more_bounds b bs) = more_bounds (bound_at s b) (bounds_at s bs)

  pub front_at : Span → MaybeQSelf → MaybeQSelf
  front_at s no_qself = no_qself
  front_at s (some_qself q) = some_qself (qself_at s q)

  pub qself_at : Span → QSelfD → QSelfD
  qself_at s (qself t n) = qself (ty_at s t) n

  pub path_at : Span → PathD → PathD
  path_at s (path l ss) = path l (segments_at s ss)

  pub segments_at : Span → Segments → Segments
  segments_at s end_segments = end_segments
  segments_at s (more_segments x ss) = more_segments (segment_at s x) (segments_at s ss)

  pub segment_at : Span → SegmentD → SegmentD
  segment_at s (segment x a) = segment (name_at s x) (arguments_at s a)

  pub arguments_at : Span → ArgumentsD → ArgumentsD
  arguments_at s no_arguments = no_arguments
  arguments_at s (angle t gs) = angle t (generics_at s gs)
  arguments_at s (parens is o) = parens (tys_at s is) (output_at s o)

  pub generics_at : Span → Generics → Generics
  generics_at s end_generics = end_generics
  generics_at s (more_generics g gs) = more_generics (generic_at s g) (generics_at s gs)

  pub generic_at : Span → GenericD → GenericD
  generic_at s (arg_lifetime l) = arg_lifetime (lifetime_at s l)
  generic_at s (arg_ty t) = arg_ty (ty_at s t)
  generic_at s (arg_const e) = arg_const (expr_at s e)
  generic_at s (arg_assoc_ty x t) = arg_assoc_ty (name_at s x) (ty_at s t)
  generic_at s (arg_assoc_const x e) = arg_assoc_const (name_at s x) (expr_at s e)
  generic_at s (arg_constraint x bs) = arg_constraint (name_at s x) (bounds_at s bs)

  pub expr_at : Span → ExprD → ExprD
  expr_at s (ex_binary a o b) = ex_binary (expr_at s a) (map (placed s) o) (expr_at s b)
  expr_at s (ex_call f xs) = ex_call (expr_at s f) (exprs_at s xs)
  expr_at s (ex_cast e t) = ex_cast (expr_at s e) (ty_at s t)
  expr_at s (ex_field e m) = ex_field (expr_at s e) (member_at s m)
  expr_at s (ex_index e i) = ex_index (expr_at s e) (expr_at s i)
  expr_at s (ex_fixed l _) = ex_fixed l s
  expr_at s (ex_paren e) = ex_paren (expr_at s e)
  expr_at s (ex_path p) = ex_path (expr_path_at s p)
  expr_at s (ex_unary o e) = ex_unary (map (placed s) o) (expr_at s e)
  expr_at s (ex_verbatim m) = ex_verbatim (map (placed s) m)

  pub exprs_at : Span → Exprs → Exprs
  exprs_at s end_exprs = end_exprs
  exprs_at s (more_exprs e es) = more_exprs (expr_at s e) (exprs_at s es)

  pub expr_path_at : Span → ExprPathD → ExprPathD
  expr_path_at s (expr_path q p) = expr_path (front_at s q) (path_at s p)

-- spans aside
abbrev pub SameToks : List Tok → List Tok → Type 0
SameToks ts us = map (placed site) ts ≡ map (placed site) us

abbrev pub SameTy : TyD → TyD → Type 0
SameTy t u = ty_at site t ≡ ty_at site u

abbrev pub SamePath : PathD → PathD → Type 0
SamePath p q = path_at site p ≡ path_at site q

abbrev pub SameExprPath : ExprPathD → ExprPathD → Type 0
SameExprPath p q = expr_path_at site p ≡ expr_path_at site q

abbrev pub SameBounds : Bounds → Bounds → Type 0
SameBounds bs cs = bounds_at site bs ≡ bounds_at site cs

-- Spans are passed over: tokens that are the same, spans aside, spell trees that are the same, spans aside.
abbrev pub SpelledAside : Type 0
SpelledAside =
    ((ts us : List Tok) (t : TyD) → SpellsTy ts t → SameToks ts us → (u : TyD) × SpellsTy us u × SameTy t u)
    × ((ts us : List Tok) (p : PathD) → SpellsPath ts p → SameToks ts us → (q : PathD) × SpellsPath us q × SamePath p q)
    × ((ts us : List Tok) (p : ExprPathD) → SpellsExprPath ts p → SameToks ts us → (q : ExprPathD) × SpellsExprPath us q × SameExprPath p q)
    × ((ts us : List Tok) (bs : Bounds) → SpellsBounds ts bs → SameToks ts us → (cs : Bounds) × SpellsBounds us cs × SameBounds bs cs)

-- Tokens spell a tree, spans aside.
abbrev pub SpellsTyAside : List Tok → TyD → Type 0
SpellsTyAside ts t = (u : TyD) × SpellsTy ts u × SameTy t u

abbrev pub SpellsPathAside : List Tok → PathD → Type 0
SpellsPathAside ts p = (q : PathD) × SpellsPath ts q × SamePath p q

abbrev pub SpellsExprPathAside : List Tok → ExprPathD → Type 0
SpellsExprPathAside ts p = (q : ExprPathD) × SpellsExprPath ts q × SameExprPath p q

-- Spans aside, tokens spell at most one tree of a kind.
abbrev pub SpelledOnceAside : Type 0
SpelledOnceAside =
    ((ts : List Tok) (t u : TyD) → SpellsTyAside ts t → SpellsTyAside ts u → SameTy t u)
    × ((ts : List Tok) (p q : PathD) → SpellsPathAside ts p → SpellsPathAside ts q → SamePath p q)
    × ((ts : List Tok) (p q : ExprPathD) → SpellsExprPathAside ts p → SpellsExprPathAside ts q → SameExprPath p q)

-- The tokens that a tree of parsed form is printed as, with whatever spans, are read as that tree, spans aside.
abbrev pub PrintedIsRead : Type 0
PrintedIsRead =
    ((n : ℕ) (at : Span) (us : List Tok) (t : TyD) → 3 * weight us < n → IsParsedTy t → SameToks (print_ty t) us → (u : TyD) × ReadsTy n at us u × SameTy t u)
    × ((n : ℕ) (at : Span) (us : List Tok) (p : PathD) → 3 * weight us < n → IsParsedPath p → SameToks (print_path p) us → (q : PathD) × ReadsPath n at us q × SamePath p q)
    × ((n : ℕ) (at : Span) (us : List Tok) (p : ExprPathD) → 3 * weight us < n → IsParsedExprPath p → SameToks (print_expr_path p) us → (q : ExprPathD) × ReadsExprPath n at us q × SameExprPath p q)
