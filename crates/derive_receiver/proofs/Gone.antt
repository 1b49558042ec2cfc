-- No `Self` stands in what was replaced, unless the item or a parameter has that name.
use Rattle.std.proofs.Common.{◌≡◌, ℕ, List, [], ◌∷◌, map, Bool, true, false, cond, refl}
use Rattle.std.specs.List.{All}
use Rattle.std.proofs.lemmas.List.Elements.{All-head, All-tail, All-map, All-weaker, All-append}
use Rattle.token_trees.specs.declared.token.Span.{Span}
use Rattle.syntax_trees.specs.Syntax.{TyD, ty_array, ty_fn, ty_group, ty_impl, ty_infer, ty_macro, ty_never, ty_paren, ty_path, ty_pointer, ty_reference, ty_slice, ty_object, ty_tuple, ty_verbatim, PathD, path, SegmentD, segment, ArgumentsD, no_arguments, angle, parens, GenericD, arg_lifetime, arg_ty, arg_const, arg_assoc_ty, arg_assoc_const, arg_constraint, QSelfD, qself, ExprD, ex_binary, ex_call, ex_cast, ex_field, ex_index, ex_fixed, ex_paren, ex_path, ex_unary, ex_verbatim, ExprPathD, expr_path, BoundD, bound_trait, bound_lifetime, MaybeTy, no_ty, some_ty, MaybeQSelf, no_qself, some_qself, Tys, end_tys, more_tys, Bounds, end_bounds, more_bounds, Segments, end_segments, more_segments, Generics, end_generics, more_generics, Exprs, end_exprs, more_exprs, generics_of}
use Rattle.syntax_trees.specs.Item.{FieldD, FieldsD, named_fields, unnamed_fields, unit_fields, VariantD, ParamD, param_ty, param_lifetime, param_const, PredicateD, predicate_ty, predicate_lifetime, BodyD, struct_body, enum_body, union_body, ItemD}
use Rattle.derive_receiver.specs.Own.{Own, lifetime_at, parameter_at, arguments_at, in_angles}
use Rattle.derive_receiver.specs.Replaced.{is_self, turbofish_at, instead, headed, as_ty, in_ty, in_path, in_segment, in_arguments, in_generic, in_qself, in_expr, in_expr_path, in_bound, in_maybe_ty, in_maybe_qself, in_tys, in_bounds, in_segments, in_generics, in_exprs, in_param, in_predicate, in_field, in_fields, in_variant, in_body, own, replaced}
use Rattle.derive_receiver.specs.Free.{TyFree, PathFree, SegmentFree, ArgumentsFree, GenericFree, QSelfFree, ExprFree, ExprPathFree, BoundFree, MaybeTyFree, MaybeQSelfFree, TysFree, BoundsFree, SegmentsFree, GenericsFree, ExprsFree, ParamFree, PredicateFree, FieldFree, FieldsFree, VariantFree, BodyFree, ItemFree, IsOther, IsNamedElsewise}
use Rattle.derive_receiver.proofs.Same.{same_item}

generics_free : (gs : List GenericD) → All GenericFree gs → GenericsFree (generics_of gs)
generics_free [] h = tt
generics_free (g ∷ gs) h = (All-head GenericFree g gs h, generics_free gs (All-tail GenericFree g gs h))

lifetime_free : (at : Span) (x : List ℕ) → GenericFree (lifetime_at at x)
lifetime_free at x = tt

parameter_free : (at : Span) (x : List ℕ) → IsOther x → GenericFree (parameter_at at x)
parameter_free at x h = (h, tt, (tt, tt))

all_lifetimes : (at : Span) (xs : List (List ℕ)) → All GenericFree (map (lifetime_at at) xs)
all_lifetimes at xs = All-map GenericFree (lifetime_at at) xs (λ k d h. tt)

all_parameters : (at : Span) (xs : List (List ℕ)) → All IsOther xs → All GenericFree (map (parameter_at at) xs)
all_parameters at xs h =
    All-map GenericFree (parameter_at at) xs (All-weaker IsOther (λ x. GenericFree (parameter_at at x)) (parameter_free at) xs h)

angles_free : (t : Bool) (gs : List GenericD) → All GenericFree gs → ArgumentsFree (in_angles t gs)
angles_free t [] h = tt
angles_free t (g ∷ gs) h = generics_free (g ∷ gs) h

arguments_free : (t : Bool) (at : Span) (o : Own) → IsNamedElsewise o → ArgumentsFree (in_angles t (arguments_at at o))
arguments_free t at o h =
    angles_free t (arguments_at at o)
    (All-append GenericFree (map (lifetime_at at) o.lifetimes) (map (parameter_at at) o.others) (all_lifetimes at o.lifetimes) (all_parameters at o.others h.others))

-- what stands instead of `Self`
instead_free : (o : Own) → IsNamedElsewise o → (k : Bool) (s : SegmentD) (ss : Segments) → SegmentsFree ss → ExprPathFree (instead o k s ss)
instead_free o n k (segment x a) end_segments h = (n.name, tt, (arguments_free (turbofish_at k a) x.span o n, tt))
instead_free o n k (segment x a) (more_segments s ss) h = (tt, (n.name, tt, (arguments_free false x.span o n, tt)), h)

first_free : (o : Own) → IsNamedElsewise o → (k : Bool) (s : SegmentD) (ss : Segments) → SegmentFree s → SegmentsFree ss → (b : Bool) → is_self s ≡ b → ExprPathFree (cond b (instead o k s ss) (expr_path no_qself (path false (more_segments s ss))))
first_free o n k s ss h hs true e = instead_free o n k s ss hs
first_free o n k s ss h hs false e = (e, tt, (h, hs))

headed_free : (o : Own) → IsNamedElsewise o → (k : Bool) (q : MaybeQSelf) (p : PathD) → MaybeQSelfFree q → PathFree p → ExprPathFree (headed o k q p)
headed_free o n k (some_qself q) p h i = (tt, h, i)
headed_free o n k no_qself (path true ss) h i = (tt, tt, i)
headed_free o n k no_qself (path false end_segments) h i = (tt, tt, tt)
headed_free o n k no_qself (path false (more_segments s ss)) h i = first_free o n k s ss i.0 i.1 (is_self s) refl

as_ty_free : (p : ExprPathD) → ExprPathFree p → TyFree (as_ty p)
as_ty_free (expr_path q p) h = h

mutual
  pub gone_ty : (o : Own) → IsNamedElsewise o → (t : TyD) → TyFree (in_ty o t)
  gone_ty o n (ty_array t e) = (gone_ty o n t, gone_expr o n e)
  gone_ty o n (ty_fn ts t) = (gone_tys o n ts, gone_maybe_ty o n t)
  gone_ty o n (ty_group t) = gone_ty o n t
  gone_ty o n (ty_impl bs) = gone_bounds o n bs
  gone_ty o n (ty_infer s) = tt
  gone_ty o n (ty_macro p ts) = tt
  gone_ty o n (ty_never s) = tt
  gone_ty o n (ty_paren t) = gone_ty o n t
  gone_ty o n (ty_path q p) =
      as_ty_free (headed o true (in_maybe_qself o q) (in_path o p)) (headed_free o n true (in_maybe_qself o q) (in_path o p) (gone_maybe_qself o n q) (gone_path o n p))
  gone_ty o n (ty_pointer m t) = gone_ty o n t
  gone_ty o n (ty_reference l m t) = gone_ty o n t
  gone_ty o n (ty_slice t) = gone_ty o n t
  gone_ty o n (ty_object bs) = gone_bounds o n bs
  gone_ty o n (ty_tuple ts) = gone_tys o n ts
  gone_ty o n (ty_verbatim ts) = tt

  pub gone_path : (o : Own) → IsNamedElsewise o → (p : PathD) → PathFree (in_path o p)
  gone_path o n (path leading ss) = gone_segments o n ss

  pub gone_segment : (o : Own) → IsNamedElsewise o → (s : SegmentD) → SegmentFree (in_segment o s)
  gone_segment o n (segment x a) = gone_arguments o n a

  pub gone_arguments : (o : Own) → IsNamedElsewise o → (a : ArgumentsD) → ArgumentsFree (in_arguments o a)
  gone_arguments o n no_arguments = tt
  gone_arguments o n (angle t gs) = gone_generics o n gs
  gone_arguments o n (parens ts t) = (gone_tys o n ts, gone_maybe_ty o n t)

  pub gone_generic : (o : Own) → IsNamedElsewise o → (g : GenericD) → GenericFree (in_generic o g)
  gone_generic o n (arg_lifetime l) = tt
  gone_generic o n (arg_ty t) = gone_ty o n t
  gone_generic o n (arg_const e) = tt
  gone_generic o n (arg_assoc_ty x t) = gone_ty o n t
  gone_generic o n (arg_assoc_const x e) = tt
  gone_generic o n (arg_constraint x bs) = tt

  pub gone_qself : (o : Own) → IsNamedElsewise o → (q : QSelfD) → QSelfFree (in_qself o q)
  gone_qself o n (qself t i) = gone_ty o n t

  pub gone_expr : (o : Own) → IsNamedElsewise o → (e : ExprD) → ExprFree (in_expr o e)
  gone_expr o n (ex_binary a op b) = (gone_expr o n a, gone_expr o n b)
  gone_expr o n (ex_call f xs) = (gone_expr o n f, gone_exprs o n xs)
  gone_expr o n (ex_cast e t) = (gone_expr o n e, gone_ty o n t)
  gone_expr o n (ex_field e m) = gone_expr o n e
  gone_expr o n (ex_index e i) = (gone_expr o n e, gone_expr o n i)
  gone_expr o n (ex_fixed l s) = tt
  gone_expr o n (ex_paren e) = gone_expr o n e
  gone_expr o n (ex_path p) = gone_expr_path o n p
  gone_expr o n (ex_unary op e) = gone_expr o n e
  gone_expr o n (ex_verbatim ts) = tt

  pub gone_expr_path : (o : Own) → IsNamedElsewise o → (p : ExprPathD) → ExprPathFree (in_expr_path o p)
  gone_expr_path o n (expr_path q p) = headed_free o n false (in_maybe_qself o q) (in_path o p) (gone_maybe_qself o n q) (gone_path o n p)

  pub gone_bound : (o : Own) → IsNamedElsewise o → (b : BoundD) → BoundFree (in_bound o b)
  gone_bound o n (bound_trait p) = gone_path o n p
  gone_bound o n (bound_lifetime l) = tt

  pub gone_maybe_ty : (o : Own) → IsNamedElsewise o → (t : MaybeTy) → MaybeTyFree (in_maybe_ty o t)
  gone_maybe_ty o n no_ty = tt
  gone_maybe_ty o n (some_ty t) = gone_ty o n t

  pub gone_maybe_qself : (o : Own) → IsNamedElsewise o → (q : MaybeQSelf) → MaybeQSelfFree (in_maybe_qself o q)
  gone_maybe_qself o n no_qself = tt
  gone_maybe_qself o n (some_qself q) = gone_qself o n q

  pub gone_tys : (o : Own) → IsNamedElsewise o → (ts : Tys) → TysFree (in_tys o ts)
  gone_tys o n end_tys = tt
  gone_tys o n (more_tys t ts) = (gone_ty o n t, gone_tys o n ts)

  pub gone_bounds : (o : Own) → IsNamedElsewise o → (bs : Bounds) → BoundsFree (in_bounds o bs)
  gone_bounds o n end_bounds = tt
  gone_bounds o n (more_bounds b bs) = (gone_bound o n b, gone_bounds o n bs)

  pub gone_segments : (o : Own) → IsNamedElsewise o → (ss : Segments) → SegmentsFree (in_segments o ss)
  gone_segments o n end_segments = tt
  gone_segments o n (more_segments s ss) = (gone_segment o n s, gone_segments o n ss)

  pub gone_generics : (o : Own) → IsNamedElsewise o → (gs : Generics) → GenericsFree (in_generics o gs)
  gone_generics o n end_generics = tt
  gone_generics o n (more_generics g gs) = (gone_generic o n g, gone_generics o n gs)

  pub gone_exprs : (o : Own) → IsNamedElsewise o → (es : Exprs) → ExprsFree (in_exprs o es)
  gone_exprs o n end_exprs = tt
  gone_exprs o n (more_exprs e es) = (gone_expr o n e, gone_exprs o n es)

-- a list each of whose members is free once it is walked
gone_list : {X : Type 0} (f : X → X) (P : X → Type 0) → ((x : X) → P (f x)) → (xs : List X) → All P (map f xs)
gone_list f P e xs = All-map P f xs (λ k d h. e _)

gone_param : (o : Own) → IsNamedElsewise o → (p : ParamD) → ParamFree (in_param o p)
gone_param o n (param_ty x bs) = gone_list (in_bound o) BoundFree (gone_bound o n) bs
gone_param o n (param_lifetime l) = tt
gone_param o n (param_const x t) = tt

gone_predicate : (o : Own) → IsNamedElsewise o → (p : PredicateD) → PredicateFree (in_predicate o p)
gone_predicate o n (predicate_ty t bs) = (gone_ty o n t, gone_list (in_bound o) BoundFree (gone_bound o n) bs)
gone_predicate o n (predicate_lifetime l ls) = tt

gone_field : (o : Own) → IsNamedElsewise o → (f : FieldD) → FieldFree (in_field o f)
gone_field o n f = gone_ty o n f.ty

gone_fields : (o : Own) → IsNamedElsewise o → (fs : FieldsD) → FieldsFree (in_fields o fs)
gone_fields o n (named_fields fs) = gone_list (in_field o) FieldFree (gone_field o n) fs
gone_fields o n (unnamed_fields fs) = gone_list (in_field o) FieldFree (gone_field o n) fs
gone_fields o n unit_fields = tt

gone_variant : (o : Own) → IsNamedElsewise o → (v : VariantD) → VariantFree (in_variant o v)
gone_variant o n v = gone_fields o n v.fields

gone_body : (o : Own) → IsNamedElsewise o → (b : BodyD) → BodyFree (in_body o b)
gone_body o n (struct_body fs at) = gone_fields o n fs
gone_body o n (enum_body vs at) = gone_list (in_variant o) VariantFree (gone_variant o n) vs
gone_body o n (union_body fs at) = tt

pub gone_item : (d : ItemD) → IsNamedElsewise (own d) → ItemFree (replaced d)
gone_item d n = record {
  params = gone_list (in_param (own d)) ParamFree (gone_param (own d) n) d.params;
  predicates = gone_list (in_predicate (own d)) PredicateFree (gone_predicate (own d) n) d.predicates;
  body = gone_body (own d) n d.body;
}

pub settled_item : (d : ItemD) → IsNamedElsewise (own d) → replaced (replaced d) ≡ replaced d
settled_item d n = same_item (replaced d) (gone_item d n)
