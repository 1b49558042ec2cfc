-- The spans that trees hold, in the order of their printing, and the place from the first to the last of them. A group of
-- tokens has its own span before and after what is in it; what a tree prints of its own has no span.
use Rattle.std.specs.Prelude.{List, [], ◌∷◌, ◌++◌, Option, Some, None}
use Rattle.token_trees.specs.declared.token.Span.{Span}
use Rattle.token_trees.specs.Token.{Tok, word, mark, fixed, group, Toks, no_toks, tok, toks_of, Name, site}
use Rattle.syntax_trees.specs.Syntax.{LifetimeD, MemberD, named, unnamed, TyD, ty_array, ty_fn, ty_group, ty_impl, ty_infer, ty_macro, ty_never, ty_paren, ty_path, ty_pointer, ty_reference, ty_slice, ty_object, ty_tuple, ty_verbatim, PathD, path, SegmentD, segment, ArgumentsD, no_arguments, angle, parens, GenericD, arg_lifetime, arg_ty, arg_const, arg_assoc_ty, arg_assoc_const, arg_constraint, QSelfD, qself, ExprD, ex_binary, ex_call, ex_cast, ex_field, ex_index, ex_fixed, ex_paren, ex_path, ex_unary, ex_verbatim, ExprPathD, expr_path, BoundD, bound_trait, bound_lifetime, MaybeTy, no_ty, some_ty, MaybeQSelf, no_qself, some_qself, Tys, end_tys, more_tys, Bounds, end_bounds, more_bounds, bounds_of, Segments, end_segments, more_segments, Generics, end_generics, more_generics, Exprs, end_exprs, more_exprs}
use Rattle.syntax_trees.specs.Item.{MetaD, meta_path, meta_list, meta_value, FieldD, FieldsD, named_fields, unnamed_fields, unit_fields, VariantD, ParamD, param_ty, param_lifetime, param_const, PredicateD, predicate_ty, predicate_lifetime, BodyD, struct_body, enum_body, union_body, ItemD}

abbrev pub last_span : Span → List Span → Span
last_span s [] = s
last_span s (t ∷ ts) = last_span t ts

-- from the beginning of the first span to the end of the last, in the file of the first; `call_site` where there is none
abbrev pub place_of : List Span → Span
place_of [] = site
place_of (s ∷ ss) = record { file = s.file; lo = s.lo; hi = (last_span s ss).hi }

abbrev mutual
  pub tok_spans : Tok → List Span
  tok_spans (word x s) = s ∷ []
  tok_spans (mark c j s) = s ∷ []
  tok_spans (fixed l s) = s ∷ []
  tok_spans (group d ts s) = s ∷ (toks_spans ts ++ s ∷ [])

  pub toks_spans : Toks → List Span
  toks_spans no_toks = []
  toks_spans (tok t ts) = tok_spans t ++ toks_spans ts

abbrev pub tokens_spans : List Tok → List Span
tokens_spans ts = toks_spans (toks_of ts)

abbrev pub lifetime_spans : LifetimeD → List Span
lifetime_spans l = l.span ∷ l.name.span ∷ []

abbrev pub maybe_lifetime_spans : Option LifetimeD → List Span
maybe_lifetime_spans None = []
maybe_lifetime_spans (Some l) = lifetime_spans l

abbrev pub member_spans : MemberD → List Span
member_spans (named x) = x.span ∷ []
member_spans (unnamed n) = []

abbrev mutual
  pub ty_spans : TyD → List Span
  ty_spans (ty_array t e) = ty_spans t ++ expr_spans e
  ty_spans (ty_fn ts o) = tys_spans ts ++ output_spans o
  ty_spans (ty_group t) = ty_spans t
  ty_spans (ty_impl bs) = bounds_spans bs
  ty_spans (ty_infer s) = s ∷ []
  ty_spans (ty_macro p ts) = path_spans p ++ tokens_spans ts
  ty_spans (ty_never s) = s ∷ []
  ty_spans (ty_paren t) = ty_spans t
  ty_spans (ty_path q p) = front_spans q ++ path_spans p
  ty_spans (ty_pointer m t) = ty_spans t
  ty_spans (ty_reference l m t) = maybe_lifetime_spans l ++ ty_spans t
  ty_spans (ty_slice t) = ty_spans t
  ty_spans (ty_object bs) = bounds_spans bs
  ty_spans (ty_tuple ts) = tys_spans ts
  ty_spans (ty_verbatim ts) = tokens_spans ts

  pub output_spans : MaybeTy → List Span
  output_spans no_ty = []
  output_spans (some_ty t) = ty_spans t

  pub tys_spans : Tys → List Span
  tys_spans end_tys = []
  tys_spans (more_tys t ts) = ty_spans t ++ tys_spans ts

  pub bound_spans : BoundD → List Span
  bound_spans (bound_trait p) = path_spans p
  bound_spans (bound_lifetime l) = lifetime_spans l

  pub bounds_spans : Bounds → List Span
  bounds_spans end_bounds = []
  bounds_spans (more_bounds b bs) = bound_spans b ++ bounds_spans bs

  pub qself_spans : QSelfD → List Span
  qself_spans (qself t n) = ty_spans t

  pub front_spans : MaybeQSelf → List Span
  front_spans no_qself = []
  front_spans (some_qself q) = qself_spans q

  pub path_spans : PathD → List Span
  path_spans (path leading ss) = segments_spans ss

  pub segments_spans : Segments → List Span
  segments_spans end_segments = []
  segments_spans (more_segments s ss) = segment_spans s ++ segments_spans ss

  pub segment_spans : SegmentD → List Span
  segment_spans (segment x a) = x.span ∷ arguments_spans a

  pub arguments_spans : ArgumentsD → List Span
  arguments_spans no_arguments = []
  arguments_spans (angle t gs) = generics_spans gs
  arguments_spans (parens ts o) = tys_spans ts ++ output_spans o

  pub generics_spans : Generics → List Span
  generics_spans end_generics = []
  generics_spans (more_generics g gs) = generic_spans g ++ generics_spans gs

  pub generic_spans : GenericD → List Span
  generic_spans (arg_lifetime l) = lifetime_spans l
  generic_spans (arg_ty t) = ty_spans t
  generic_spans (arg_const e) = expr_spans e
  generic_spans (arg_assoc_ty x t) = x.span ∷ ty_spans t
  generic_spans (arg_assoc_const x e) = x.span ∷ expr_spans e
  generic_spans (arg_constraint x bs) = x.span ∷ bounds_spans bs

  pub expr_spans : ExprD → List Span
  expr_spans (ex_binary a o b) = expr_spans a ++ (tokens_spans o ++ expr_spans b)
  expr_spans (ex_call f xs) = expr_spans f ++ exprs_spans xs
  expr_spans (ex_cast e t) = expr_spans e ++ ty_spans t
  expr_spans (ex_field e m) = expr_spans e ++ member_spans m
  expr_spans (ex_index e i) = expr_spans e ++ expr_spans i
  expr_spans (ex_fixed l s) = s ∷ []
  expr_spans (ex_paren e) = expr_spans e
  expr_spans (ex_path p) = expr_path_spans p
  expr_spans (ex_unary o e) = tokens_spans o ++ expr_spans e
  expr_spans (ex_verbatim ts) = tokens_spans ts

  pub expr_path_spans : ExprPathD → List Span
  expr_path_spans (expr_path q p) = front_spans q ++ path_spans p

  pub exprs_spans : Exprs → List Span
  exprs_spans end_exprs = []
  exprs_spans (more_exprs e es) = expr_spans e ++ exprs_spans es

-- a list in parentheses has the group's own span before and after it
abbrev pub meta_spans : MetaD → List Span
meta_spans (meta_path p) = path_spans p
meta_spans (meta_list p ts at) = path_spans p ++ (at ∷ (tokens_spans ts ++ at ∷ []))
meta_spans (meta_value p ts) = path_spans p ++ tokens_spans ts

abbrev pub metas_spans : List MetaD → List Span
metas_spans [] = []
metas_spans (m ∷ ms) = meta_spans m ++ metas_spans ms

abbrev pub maybe_name_spans : Option Name → List Span
maybe_name_spans None = []
maybe_name_spans (Some x) = x.span ∷ []

abbrev pub field_spans : FieldD → List Span
field_spans f = metas_spans f.attrs ++ (maybe_name_spans f.name ++ ty_spans f.ty)

abbrev pub each_field_spans : List FieldD → List Span
each_field_spans [] = []
each_field_spans (f ∷ fs) = field_spans f ++ each_field_spans fs

abbrev pub fields_spans : FieldsD → List Span
fields_spans (named_fields fs) = each_field_spans fs
fields_spans (unnamed_fields fs) = each_field_spans fs
fields_spans unit_fields = []

abbrev pub variant_spans : VariantD → List Span
variant_spans v = metas_spans v.attrs ++ (v.name.span ∷ fields_spans v.fields)

abbrev pub each_variant_spans : List VariantD → List Span
each_variant_spans [] = []
each_variant_spans (v ∷ vs) = variant_spans v ++ each_variant_spans vs

abbrev pub param_spans : ParamD → List Span
param_spans (param_ty x bs) = x.span ∷ bounds_spans (bounds_of bs)
param_spans (param_lifetime l) = lifetime_spans l
param_spans (param_const x t) = x.span ∷ ty_spans t

abbrev pub params_spans : List ParamD → List Span
params_spans [] = []
params_spans (p ∷ ps) = param_spans p ++ params_spans ps

abbrev pub lifetimes_spans : List LifetimeD → List Span
lifetimes_spans [] = []
lifetimes_spans (l ∷ ls) = lifetime_spans l ++ lifetimes_spans ls

abbrev pub predicate_spans : PredicateD → List Span
predicate_spans (predicate_ty t bs) = ty_spans t ++ bounds_spans (bounds_of bs)
predicate_spans (predicate_lifetime l ls) = lifetime_spans l ++ lifetimes_spans ls

abbrev pub predicates_spans : List PredicateD → List Span
predicates_spans [] = []
predicates_spans (p ∷ ps) = predicate_spans p ++ predicates_spans ps

-- the span of the word that the item begins with
abbrev pub kind_span : BodyD → Span
kind_span (struct_body fs at) = at
kind_span (enum_body vs at) = at
kind_span (union_body fs at) = at

-- the `where` clause stands before named fields, variants and a union's fields, and behind other fields
abbrev pub struct_end_spans : List PredicateD → FieldsD → List Span
struct_end_spans ps (named_fields fs) = predicates_spans ps ++ each_field_spans fs
struct_end_spans ps (unnamed_fields fs) = each_field_spans fs ++ predicates_spans ps
struct_end_spans ps unit_fields = predicates_spans ps

abbrev pub end_spans : List PredicateD → BodyD → List Span
end_spans ps (struct_body fs at) = struct_end_spans ps fs
end_spans ps (enum_body vs at) = predicates_spans ps ++ each_variant_spans vs
end_spans ps (union_body fs at) = predicates_spans ps ++ each_field_spans fs

abbrev pub item_spans : ItemD → List Span
item_spans i = metas_spans i.attrs ++ (kind_span i.body ∷ i.name.span ∷ (params_spans i.params ++ end_spans i.predicates i.body))

-- what was reached by a place, if one was, and then by those spans
abbrev pub joined : Option Span → Span → Span
joined None s = s
joined (Some p) s = record { file = p.file; lo = p.lo; hi = s.hi }

abbrev pub reached : Option Span → List Span → Option Span
reached p [] = p
reached p (s ∷ ss) = reached (Some (joined p s)) ss
