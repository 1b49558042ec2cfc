-- An item with its `Self` replaced. Trees are walked form by form: what is walked into is written `in_..`, and what
-- stands as it is on the right stays as it is.
use Rattle.std.specs.Prelude.{map, Bool, true, false, cond, codes}
use Rattle.std.specs.Str.{bytes_eq}
use Rattle.syntax_trees.specs.Syntax.{TyD, ty_array, ty_fn, ty_group, ty_impl, ty_infer, ty_macro, ty_never, ty_paren, ty_path, ty_pointer, ty_reference, ty_slice, ty_object, ty_tuple, ty_verbatim, PathD, path, SegmentD, segment, ArgumentsD, no_arguments, angle, parens, GenericD, arg_lifetime, arg_ty, arg_const, arg_assoc_ty, arg_assoc_const, arg_constraint, QSelfD, qself, ExprD, ex_binary, ex_call, ex_cast, ex_field, ex_index, ex_fixed, ex_paren, ex_path, ex_unary, ex_verbatim, ExprPathD, expr_path, BoundD, bound_trait, bound_lifetime, MaybeTy, no_ty, some_ty, MaybeQSelf, no_qself, some_qself, Tys, end_tys, more_tys, Bounds, end_bounds, more_bounds, Segments, end_segments, more_segments, Generics, end_generics, more_generics, Exprs, end_exprs, more_exprs, segment_name}
use Rattle.syntax_trees.specs.Item.{FieldD, FieldsD, named_fields, unnamed_fields, unit_fields, VariantD, ParamD, param_ty, param_lifetime, param_const, PredicateD, predicate_ty, predicate_lifetime, BodyD, struct_body, enum_body, union_body, ItemD}
use Rattle.derive_receiver.specs.Own.{Own, own_of, own_path, own_ty}

abbrev pub is_self : SegmentD → Bool
is_self s = bytes_eq (segment_name s) (codes "Self")

-- `::` stands before the arguments in an expression, and in a type whose `Self` had an argument list of its own
abbrev pub turbofish_at : Bool → ArgumentsD → Bool
turbofish_at false a = true
turbofish_at true no_arguments = false
turbofish_at true (angle t gs) = true
turbofish_at true (parens ts t) = true

-- a lone `Self` becomes the item's name with its arguments, and `Self::rest` becomes `<Name>::rest`;
-- the arguments that `Self` had are gone, and new tokens stand where it stood
abbrev pub instead : Own → Bool → SegmentD → Segments → ExprPathD
instead o is_ty (segment n a) end_segments = expr_path no_qself (own_path (turbofish_at is_ty a) n.span o)
instead o is_ty (segment n a) (more_segments s ss) = expr_path (some_qself (qself (own_ty n.span o) 0)) (path true (more_segments s ss))

abbrev pub at_first : Own → Bool → SegmentD → Segments → ExprPathD
at_first o is_ty s ss = cond (is_self s) (instead o is_ty s ss) (expr_path no_qself (path false (more_segments s ss)))

-- a path that has a leading `::` or a qualified self keeps its first segment
abbrev pub headed : Own → Bool → MaybeQSelf → PathD → ExprPathD
headed o is_ty (some_qself q) p = expr_path (some_qself q) p
headed o is_ty no_qself (path true ss) = expr_path no_qself (path true ss)
headed o is_ty no_qself (path false end_segments) = expr_path no_qself (path false end_segments)
headed o is_ty no_qself (path false (more_segments s ss)) = at_first o is_ty s ss

abbrev pub as_ty : ExprPathD → TyD
as_ty (expr_path q p) = ty_path q p

abbrev mutual
  pub in_ty : Own → TyD → TyD
  in_ty o (ty_array t e) = ty_array (in_ty o t) (in_expr o e)
  in_ty o (ty_fn ts t) = ty_fn (in_tys o ts) (in_maybe_ty o t)
  in_ty o (ty_group t) = ty_group (in_ty o t)
  in_ty o (ty_impl bs) = ty_impl (in_bounds o bs)
  in_ty o (ty_infer s) = ty_infer s
  in_ty o (ty_macro p ts) = ty_macro p ts
  in_ty o (ty_never s) = ty_never s
  in_ty o (ty_paren t) = ty_paren (in_ty o t)
  in_ty o (ty_path q p) = as_ty (headed o true (in_maybe_qself o q) (in_path o p))
  in_ty o (ty_pointer m t) = ty_pointer m (in_ty o t)
  in_ty o (ty_reference l m t) = ty_reference l m (in_ty o t)
  in_ty o (ty_slice t) = ty_slice (in_ty o t)
  in_ty o (ty_object bs) = ty_object (in_bounds o bs)
  in_ty o (ty_tuple ts) = ty_tuple (in_tys o ts)
  in_ty o (ty_verbatim ts) = ty_verbatim ts

  -- the arguments of a path: its segments keep their names
  pub in_path : Own → PathD → PathD
  in_path o (path leading ss) = path leading (in_segments o ss)

  pub in_segment : Own → SegmentD → SegmentD
  in_segment o (segment n a) = segment n (in_arguments o a)

  pub in_arguments : Own → ArgumentsD → ArgumentsD
  in_arguments o no_arguments = no_arguments
  in_arguments o (angle t gs) = angle t (in_generics o gs)
  in_arguments o (parens ts t) = parens (in_tys o ts) (in_maybe_ty o t)

  pub in_generic : Own → GenericD → GenericD
  in_generic o (arg_lifetime l) = arg_lifetime l
  in_generic o (arg_ty t) = arg_ty (in_ty o t)
  in_generic o (arg_const e) = arg_const e
  in_generic o (arg_assoc_ty n t) = arg_assoc_ty n (in_ty o t)
  in_generic o (arg_assoc_const n e) = arg_assoc_const n e
  in_generic o (arg_constraint n bs) = arg_constraint n bs

  pub in_qself : Own → QSelfD → QSelfD
  in_qself o (qself t n) = qself (in_ty o t) n

  pub in_expr : Own → ExprD → ExprD
  in_expr o (ex_binary a op b) = ex_binary (in_expr o a) op (in_expr o b)
  in_expr o (ex_call f xs) = ex_call (in_expr o f) (in_exprs o xs)
  in_expr o (ex_cast e t) = ex_cast (in_expr o e) (in_ty o t)
  in_expr o (ex_field e m) = ex_field (in_expr o e) m
  in_expr o (ex_index e i) = ex_index (in_expr o e) (in_expr o i)
  in_expr o (ex_fixed l s) = ex_fixed l s
  in_expr o (ex_paren e) = ex_paren (in_expr o e)
  in_expr o (ex_path p) = ex_path (in_expr_path o p)
  in_expr o (ex_unary op e) = ex_unary op (in_expr o e)
  in_expr o (ex_verbatim ts) = ex_verbatim ts

  pub in_expr_path : Own → ExprPathD → ExprPathD
  in_expr_path o (expr_path q p) = headed o false (in_maybe_qself o q) (in_path o p)

  -- the path of a bound keeps its first segment
  pub in_bound : Own → BoundD → BoundD
  in_bound o (bound_trait p) = bound_trait (in_path o p)
  in_bound o (bound_lifetime l) = bound_lifetime l

  pub in_maybe_ty : Own → MaybeTy → MaybeTy
  in_maybe_ty o no_ty = no_ty
  in_maybe_ty o (some_ty t) = some_ty (in_ty o t)

  pub in_maybe_qself : Own → MaybeQSelf → MaybeQSelf
  in_maybe_qself o no_qself = no_qself
  in_maybe_qself o (some_qself q) = some_qself (in_qself o q)

  pub in_tys : Own → Tys → Tys
  in_tys o end_tys = end_tys
  in_tys o (more_tys t ts) = more_tys (in_ty o t) (in_tys o ts)

  pub in_bounds : Own → Bounds → Bounds
  in_bounds o end_bounds = end_bounds
  in_bounds o (more_bounds b bs) = more_bounds (in_bound o b) (in_bounds o bs)

  pub in_segments : Own → Segments → Segments
  in_segments o end_segments = end_segments
  in_segments o (more_segments s ss) = more_segments (in_segment o s) (in_segments o ss)

  pub in_generics : Own → Generics → Generics
  in_generics o end_generics = end_generics
  in_generics o (more_generics g gs) = more_generics (in_generic o g) (in_generics o gs)

  pub in_exprs : Own → Exprs → Exprs
  in_exprs o end_exprs = end_exprs
  in_exprs o (more_exprs e es) = more_exprs (in_expr o e) (in_exprs o es)

-- the bounds of a type parameter are walked; the type of a const parameter stays
abbrev pub in_param : Own → ParamD → ParamD
in_param o (param_ty n bs) = param_ty n (map (in_bound o) bs)
in_param o (param_lifetime l) = param_lifetime l
in_param o (param_const n t) = param_const n t

-- predicates on types are walked, those on lifetimes stay
abbrev pub in_predicate : Own → PredicateD → PredicateD
in_predicate o (predicate_ty t bs) = predicate_ty (in_ty o t) (map (in_bound o) bs)
in_predicate o (predicate_lifetime l ls) = predicate_lifetime l ls

abbrev pub in_field : Own → FieldD → FieldD
in_field o f = record { attrs = f.attrs; name = f.name; ty = in_ty o f.ty }

abbrev pub in_fields : Own → FieldsD → FieldsD
in_fields o (named_fields fs) = named_fields (map (in_field o) fs)
in_fields o (unnamed_fields fs) = unnamed_fields (map (in_field o) fs)
in_fields o unit_fields = unit_fields

abbrev pub in_variant : Own → VariantD → VariantD
in_variant o v = record { attrs = v.attrs; name = v.name; fields = in_fields o v.fields }

-- the fields of structs and enums are walked, those of unions stay
abbrev pub in_body : Own → BodyD → BodyD
in_body o (struct_body fs at) = struct_body (in_fields o fs) at
in_body o (enum_body vs at) = enum_body (map (in_variant o) vs) at
in_body o (union_body fs at) = union_body fs at

-- an item's own type
abbrev pub own : ItemD → Own
own d = own_of d.name d.params

-- the item with each `Self` of it replaced
abbrev pub replaced : ItemD → ItemD
replaced d = record {
  attrs = d.attrs;
  name = d.name;
  params = map (in_param (own d)) d.params;
  predicates = map (in_predicate (own d)) d.predicates;
  body = in_body (own d) d.body;
}
