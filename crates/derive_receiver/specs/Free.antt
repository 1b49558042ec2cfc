-- Where no `Self` stands: in none of the places where one would be replaced.
use Rattle.std.specs.Prelude.{ℕ, ◌≡◌, List, true, false, codes, All}
use Rattle.std.specs.Str.{bytes_eq}
use Rattle.syntax_trees.specs.Syntax.{TyD, ty_array, ty_fn, ty_group, ty_impl, ty_infer, ty_macro, ty_never, ty_paren, ty_path, ty_pointer, ty_reference, ty_slice, ty_object, ty_tuple, ty_verbatim, PathD, path, SegmentD, segment, ArgumentsD, no_arguments, angle, parens, GenericD, arg_lifetime, arg_ty, arg_const, arg_assoc_ty, arg_assoc_const, arg_constraint, QSelfD, qself, ExprD, ex_binary, ex_call, ex_cast, ex_field, ex_index, ex_fixed, ex_paren, ex_path, ex_unary, ex_verbatim, ExprPathD, expr_path, BoundD, bound_trait, bound_lifetime, MaybeTy, no_ty, some_ty, MaybeQSelf, no_qself, some_qself, Tys, end_tys, more_tys, Bounds, end_bounds, more_bounds, Segments, end_segments, more_segments, Generics, end_generics, more_generics, Exprs, end_exprs, more_exprs}
use Rattle.syntax_trees.specs.Item.{FieldD, FieldsD, named_fields, unnamed_fields, unit_fields, VariantD, ParamD, param_ty, param_lifetime, param_const, PredicateD, predicate_ty, predicate_lifetime, BodyD, struct_body, enum_body, union_body, ItemD}
use Rattle.derive_receiver.specs.Own.{Own}
use Rattle.derive_receiver.specs.Replaced.{is_self}

-- the path's first segment isn't `Self`, or the path keeps it anyway
abbrev pub StartsElsewhere : MaybeQSelf → PathD → Type 0
StartsElsewhere (some_qself q) p = Unit {0}
StartsElsewhere no_qself (path true ss) = Unit {0}
StartsElsewhere no_qself (path false end_segments) = Unit {0}
StartsElsewhere no_qself (path false (more_segments s ss)) = is_self s ≡ false

abbrev mutual
  pub TyFree : TyD → Type 0
  TyFree (ty_array t e) = TyFree t × ExprFree e
  TyFree (ty_fn ts t) = TysFree ts × MaybeTyFree t
  TyFree (ty_group t) = TyFree t
  TyFree (ty_impl bs) = BoundsFree bs
  TyFree (ty_infer s) = Unit {0}
  TyFree (ty_macro p ts) = Unit {0}
  TyFree (ty_never s) = Unit {0}
  TyFree (ty_paren t) = TyFree t
  TyFree (ty_path q p) = StartsElsewhere q p × MaybeQSelfFree q × PathFree p
  TyFree (ty_pointer m t) = TyFree t
  TyFree (ty_reference l m t) = TyFree t
  TyFree (ty_slice t) = TyFree t
  TyFree (ty_object bs) = BoundsFree bs
  TyFree (ty_tuple ts) = TysFree ts
  TyFree (ty_verbatim ts) = Unit {0}

  pub PathFree : PathD → Type 0
  PathFree (path leading ss) = SegmentsFree ss

  pub SegmentFree : SegmentD → Type 0
  SegmentFree (segment n a) = ArgumentsFree a

  pub ArgumentsFree : ArgumentsD → Type 0
  ArgumentsFree no_arguments = Unit {0}
  ArgumentsFree (angle t gs) = GenericsFree gs
  ArgumentsFree (parens ts t) = TysFree ts × MaybeTyFree t

  pub GenericFree : GenericD → Type 0
  GenericFree (arg_lifetime l) = Unit {0}
  GenericFree (arg_ty t) = TyFree t
  GenericFree (arg_const e) = Unit {0}
  GenericFree (arg_assoc_ty n t) = TyFree t
  GenericFree (arg_assoc_const n e) = Unit {0}
  GenericFree (arg_constraint n bs) = Unit {0}

  pub QSelfFree : QSelfD → Type 0
  QSelfFree (qself t n) = TyFree t

  pub ExprFree : ExprD → Type 0
  ExprFree (ex_binary a op b) = ExprFree a × ExprFree b
  ExprFree (ex_call f xs) = ExprFree f × ExprsFree xs
  ExprFree (ex_cast e t) = ExprFree e × TyFree t
  ExprFree (ex_field e m) = ExprFree e
  ExprFree (ex_index e i) = ExprFree e × ExprFree i
  ExprFree (ex_fixed l s) = Unit {0}
  ExprFree (ex_paren e) = ExprFree e
  ExprFree (ex_path p) = ExprPathFree p
  ExprFree (ex_unary op e) = ExprFree e
  ExprFree (ex_verbatim ts) = Unit {0}

  pub ExprPathFree : ExprPathD → Type 0
  ExprPathFree (expr_path q p) = StartsElsewhere q p × MaybeQSelfFree q × PathFree p

  pub BoundFree : BoundD → Type 0
  BoundFree (bound_trait p) = PathFree p
  BoundFree (bound_lifetime l) = Unit {0}

  pub MaybeTyFree : MaybeTy → Type 0
  MaybeTyFree no_ty = Unit {0}
  MaybeTyFree (some_ty t) = TyFree t

  pub MaybeQSelfFree : MaybeQSelf → Type 0
  MaybeQSelfFree no_qself = Unit {0}
  MaybeQSelfFree (some_qself q) = QSelfFree q

  pub TysFree : Tys → Type 0
  TysFree end_tys = Unit {0}
  TysFree (more_tys t ts) = TyFree t × TysFree ts

  pub BoundsFree : Bounds → Type 0
  BoundsFree end_bounds = Unit {0}
  BoundsFree (more_bounds b bs) = BoundFree b × BoundsFree bs

  pub SegmentsFree : Segments → Type 0
  SegmentsFree end_segments = Unit {0}
  SegmentsFree (more_segments s ss) = SegmentFree s × SegmentsFree ss

  pub GenericsFree : Generics → Type 0
  GenericsFree end_generics = Unit {0}
  GenericsFree (more_generics g gs) = GenericFree g × GenericsFree gs

  pub ExprsFree : Exprs → Type 0
  ExprsFree end_exprs = Unit {0}
  ExprsFree (more_exprs e es) = ExprFree e × ExprsFree es

abbrev pub ParamFree : ParamD → Type 0
ParamFree (param_ty n bs) = All BoundFree bs
ParamFree (param_lifetime l) = Unit {0}
ParamFree (param_const n t) = Unit {0}

abbrev pub PredicateFree : PredicateD → Type 0
PredicateFree (predicate_ty t bs) = TyFree t × All BoundFree bs
PredicateFree (predicate_lifetime l ls) = Unit {0}

abbrev pub FieldFree : FieldD → Type 0
FieldFree f = TyFree f.ty

abbrev pub FieldsFree : FieldsD → Type 0
FieldsFree (named_fields fs) = All FieldFree fs
FieldsFree (unnamed_fields fs) = All FieldFree fs
FieldsFree unit_fields = Unit {0}

abbrev pub VariantFree : VariantD → Type 0
VariantFree v = FieldsFree v.fields

abbrev pub BodyFree : BodyD → Type 0
BodyFree (struct_body fs at) = FieldsFree fs
BodyFree (enum_body vs at) = All VariantFree vs
BodyFree (union_body fs at) = Unit {0}

-- no `Self` stands in the item
pub record ItemFree (d : ItemD) : Type 0 where
  pub params : All ParamFree d.params
  pub predicates : All PredicateFree d.predicates
  pub body : BodyFree d.body

abbrev pub IsOther : List ℕ → Type 0
IsOther x = bytes_eq x (codes "Self") ≡ false

-- neither the item nor a type or constant parameter of it is named `Self`
pub record IsNamedElsewise (o : Own) : Type 0 where
  pub name : IsOther o.name
  pub others : All IsOther o.others
