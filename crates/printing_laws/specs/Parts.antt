-- Trees each identifier, literal and embedded stream of which some text has.
use Rattle.std.specs.Prelude.{List, [], ◌∷◌, Option, Some, None}
use Rattle.token_trees.specs.Token.{fixed, Name}
use Rattle.syntax_trees.specs.Syntax.{LifetimeD, TyD, ty_array, ty_fn, ty_group, ty_impl, ty_infer, ty_macro, ty_never, ty_paren, ty_path, ty_pointer, ty_reference, ty_slice, ty_object, ty_tuple, ty_verbatim, PathD, path, SegmentD, segment, ArgumentsD, no_arguments, angle, parens, GenericD, arg_lifetime, arg_ty, arg_const, arg_assoc_ty, arg_assoc_const, arg_constraint, QSelfD, qself, ExprD, ex_binary, ex_call, ex_cast, ex_field, ex_index, ex_fixed, ex_paren, ex_path, ex_unary, ex_verbatim, ExprPathD, expr_path, BoundD, bound_trait, bound_lifetime, MaybeTy, no_ty, some_ty, MaybeQSelf, no_qself, some_qself, Tys, end_tys, more_tys, Bounds, end_bounds, more_bounds, Segments, end_segments, more_segments, Generics, end_generics, more_generics, Exprs, end_exprs, more_exprs, bounds_of}
use Rattle.syntax_trees.specs.Item.{PredicateD, predicate_ty, predicate_lifetime}
use Rattle.syntax_printing.specs.Print.{print_name, print_member}
use Rattle.syntax_laws.specs.RoundTrip.{AreOfText}

-- the identifier alone is one that a text has
abbrev pub NameParts : Name → Type 0
NameParts x = AreOfText (print_name x ∷ [])

abbrev pub LifetimeParts : LifetimeD → Type 0
LifetimeParts l = NameParts l.name

abbrev pub MaybeLifetimeParts : Option LifetimeD → Type 0
MaybeLifetimeParts None = Unit {0}
MaybeLifetimeParts (Some l) = LifetimeParts l

-- so is each identifier, literal and embedded stream of a tree; no text has a group that no bracket shows
abbrev mutual
  pub TyParts : TyD → Type 0
  TyParts (ty_array t e) = TyParts t × ExprParts e
  TyParts (ty_fn is o) = TysParts is × OutputParts o
  TyParts (ty_group t) = ⊥
  TyParts (ty_impl bs) = BoundsParts bs
  TyParts (ty_infer s) = Unit {0}
  TyParts (ty_macro p m) = PathParts p × AreOfText m
  TyParts (ty_never s) = Unit {0}
  TyParts (ty_paren t) = TyParts t
  TyParts (ty_path q p) = FrontParts q × PathParts p
  TyParts (ty_pointer m t) = TyParts t
  TyParts (ty_reference l m t) = MaybeLifetimeParts l × TyParts t
  TyParts (ty_slice t) = TyParts t
  TyParts (ty_object bs) = BoundsParts bs
  TyParts (ty_tuple is) = TysParts is
  TyParts (ty_verbatim m) = AreOfText m

  pub OutputParts : MaybeTy → Type 0
  OutputParts no_ty = Unit {0}
  OutputParts (some_ty t) = TyParts t

  pub TysParts : Tys → Type 0
  TysParts end_tys = Unit {0}
  TysParts (more_tys t is) = TyParts t × TysParts is

  pub BoundParts : BoundD → Type 0
  BoundParts (bound_trait p) = PathParts p
  BoundParts (bound_lifetime l) = LifetimeParts l

  pub BoundsParts : Bounds → Type 0
  BoundsParts end_bounds = Unit {0}
  BoundsParts (more_bounds b bs) = BoundParts b × BoundsParts bs

  pub FrontParts : MaybeQSelf → Type 0
  FrontParts no_qself = Unit {0}
  FrontParts (some_qself q) = QSelfParts q

  pub QSelfParts : QSelfD → Type 0
  QSelfParts (qself t n) = TyParts t

  pub PathParts : PathD → Type 0
  PathParts (path l ss) = SegmentsParts ss

  pub SegmentsParts : Segments → Type 0
  SegmentsParts end_segments = Unit {0}
  SegmentsParts (more_segments s ss) = SegmentParts s × SegmentsParts ss

  pub SegmentParts : SegmentD → Type 0
  SegmentParts (segment x a) = NameParts x × ArgumentsParts a

  pub ArgumentsParts : ArgumentsD → Type 0
  ArgumentsParts no_arguments = Unit {0}
  ArgumentsParts (angle t gs) = GenericsParts gs
  ArgumentsParts (parens is o) = TysParts is × OutputParts o

  pub GenericsParts : Generics → Type 0
  GenericsParts end_generics = Unit {0}
  GenericsParts (more_generics g gs) = GenericParts g × GenericsParts gs

  pub GenericParts : GenericD → Type 0
  GenericParts (arg_lifetime l) = LifetimeParts l
  GenericParts (arg_ty t) = TyParts t
  GenericParts (arg_const e) = ExprParts e
  GenericParts (arg_assoc_ty x t) = NameParts x × TyParts t
  GenericParts (arg_assoc_const x e) = NameParts x × ExprParts e
  GenericParts (arg_constraint x bs) = NameParts x × BoundsParts bs

  pub ExprPathParts : ExprPathD → Type 0
  ExprPathParts (expr_path q p) = FrontParts q × PathParts p

  pub ExprParts : ExprD → Type 0
  ExprParts (ex_binary a o b) = ExprParts a × AreOfText o × ExprParts b
  ExprParts (ex_call f es) = ExprParts f × ExprsParts es
  ExprParts (ex_cast e t) = ExprParts e × TyParts t
  ExprParts (ex_field e m) = ExprParts e × AreOfText (print_member m ∷ [])
  ExprParts (ex_index e i) = ExprParts e × ExprParts i
  ExprParts (ex_fixed l s) = AreOfText (fixed l s ∷ [])
  ExprParts (ex_paren e) = ExprParts e
  ExprParts (ex_path p) = ExprPathParts p
  ExprParts (ex_unary o e) = AreOfText o × ExprParts e
  ExprParts (ex_verbatim m) = AreOfText m

  pub ExprsParts : Exprs → Type 0
  ExprsParts end_exprs = Unit {0}
  ExprsParts (more_exprs e es) = ExprParts e × ExprsParts es

abbrev pub LifetimesParts : List LifetimeD → Type 0
LifetimesParts [] = Unit {0}
LifetimesParts (l ∷ ls) = LifetimeParts l × LifetimesParts ls

abbrev pub PredicateParts : PredicateD → Type 0
PredicateParts (predicate_ty t bs) = TyParts t × BoundsParts (bounds_of bs)
PredicateParts (predicate_lifetime l ls) = LifetimeParts l × LifetimesParts ls

abbrev pub PredicatesParts : List PredicateD → Type 0
PredicatesParts [] = Unit {0}
PredicatesParts (p ∷ ps) = PredicateParts p × PredicatesParts ps
