-- Where no `Self` stands, nothing changes.
use Rattle.std.proofs.Common.{◌≡◌, List, [], ◌∷◌, map, Bool, true, false, cond, refl, ap, ◌∙◌}
use Rattle.std.specs.List.{All}
use Rattle.std.proofs.lemmas.List.Elements.{All-head, All-tail}
use Rattle.syntax_trees.specs.Syntax.{TyD, ty_array, ty_fn, ty_group, ty_impl, ty_infer, ty_macro, ty_never, ty_paren, ty_path, ty_pointer, ty_reference, ty_slice, ty_object, ty_tuple, ty_verbatim, PathD, path, SegmentD, segment, ArgumentsD, no_arguments, angle, parens, GenericD, arg_lifetime, arg_ty, arg_const, arg_assoc_ty, arg_assoc_const, arg_constraint, QSelfD, qself, ExprD, ex_binary, ex_call, ex_cast, ex_field, ex_index, ex_fixed, ex_paren, ex_path, ex_unary, ex_verbatim, ExprPathD, expr_path, BoundD, bound_trait, bound_lifetime, MaybeTy, no_ty, some_ty, MaybeQSelf, no_qself, some_qself, Tys, end_tys, more_tys, Bounds, end_bounds, more_bounds, Segments, end_segments, more_segments, Generics, end_generics, more_generics, Exprs, end_exprs, more_exprs}
use Rattle.syntax_trees.specs.Item.{FieldD, FieldsD, named_fields, unnamed_fields, unit_fields, VariantD, ParamD, param_ty, param_lifetime, param_const, PredicateD, predicate_ty, predicate_lifetime, BodyD, struct_body, enum_body, union_body, ItemD}
use Rattle.derive_receiver.specs.Own.{Own}
use Rattle.derive_receiver.specs.Replaced.{instead, headed, as_ty, in_ty, in_path, in_segment, in_arguments, in_generic, in_qself, in_expr, in_expr_path, in_bound, in_maybe_ty, in_maybe_qself, in_tys, in_bounds, in_segments, in_generics, in_exprs, in_param, in_predicate, in_field, in_fields, in_variant, in_body, own, replaced}
use Rattle.derive_receiver.specs.Free.{StartsElsewhere, TyFree, PathFree, SegmentFree, ArgumentsFree, GenericFree, QSelfFree, ExprFree, ExprPathFree, BoundFree, MaybeTyFree, MaybeQSelfFree, TysFree, BoundsFree, SegmentsFree, GenericsFree, ExprsFree, ParamFree, PredicateFree, FieldFree, FieldsFree, VariantFree, BodyFree, ItemFree}

both : {A B C : Type 0} (f : A → B → C) {a a' : A} {b b' : B} → a ≡ a' → b ≡ b' → f a b ≡ f a' b'
both f {a = a} {a' = a'} {b = b} {b' = b'} p q = ap (λ x. f x b) p ∙ ap (λ y. f a' y) q

-- a path that doesn't begin with `Self`
headed_same : (o : Own) (k : Bool) (q : MaybeQSelf) (p : PathD) → StartsElsewhere q p → headed o k q p ≡ expr_path q p
headed_same o k (some_qself q) p h = refl
headed_same o k no_qself (path true ss) h = refl
headed_same o k no_qself (path false end_segments) h = refl
headed_same o k no_qself (path false (more_segments s ss)) h =
    ap (λ b. cond b (instead o k s ss) (expr_path no_qself (path false (more_segments s ss)))) h

-- what was walked, where it didn't change
headed_of : (o : Own) (k : Bool) (q q' : MaybeQSelf) (p p' : PathD) → StartsElsewhere q p → q' ≡ q → p' ≡ p → headed o k q' p' ≡ expr_path q p
headed_of o k q q' p p' h e f = both (headed o k) e f ∙ headed_same o k q p h

mutual
  pub same_ty : (o : Own) (t : TyD) → TyFree t → in_ty o t ≡ t
  same_ty o (ty_array t e) h = both ty_array (same_ty o t h.0) (same_expr o e h.1)
  same_ty o (ty_fn ts t) h = both ty_fn (same_tys o ts h.0) (same_maybe_ty o t h.1)
  same_ty o (ty_group t) h = ap ty_group (same_ty o t h)
  same_ty o (ty_impl bs) h = ap ty_impl (same_bounds o bs h)
  same_ty o (ty_infer s) h = refl
  same_ty o (ty_macro p ts) h = refl
  same_ty o (ty_never s) h = refl
  same_ty o (ty_paren t) h = ap ty_paren (same_ty o t h)
  same_ty o (ty_path q p) h =
      ap as_ty (headed_of o true q (in_maybe_qself o q) p (in_path o p) h.0 (same_maybe_qself o q h.1) (same_path o p h.2))
  same_ty o (ty_pointer m t) h = ap (ty_pointer m) (same_ty o t h)
  same_ty o (ty_reference l m t) h = ap (ty_reference l m) (same_ty o t h)
  same_ty o (ty_slice t) h = ap ty_slice (same_ty o t h)
  same_ty o (ty_object bs) h = ap ty_object (same_bounds o bs h)
  same_ty o (ty_tuple ts) h = ap ty_tuple (same_tys o ts h)
  same_ty o (ty_verbatim ts) h = refl

  pub same_path : (o : Own) (p : PathD) → PathFree p → in_path o p ≡ p
  same_path o (path leading ss) h = ap (path leading) (same_segments o ss h)

  pub same_segment : (o : Own) (s : SegmentD) → SegmentFree s → in_segment o s ≡ s
  same_segment o (segment n a) h = ap (segment n) (same_arguments o a h)

  pub same_arguments : (o : Own) (a : ArgumentsD) → ArgumentsFree a → in_arguments o a ≡ a
  same_arguments o no_arguments h = refl
  same_arguments o (angle t gs) h = ap (angle t) (same_generics o gs h)
  same_arguments o (parens ts t) h = both parens (same_tys o ts h.0) (same_maybe_ty o t h.1)

  pub same_generic : (o : Own) (g : GenericD) → GenericFree g → in_generic o g ≡ g
  same_generic o (arg_lifetime l) h = refl
  same_generic o (arg_ty t) h = ap arg_ty (same_ty o t h)
  same_generic o (arg_const e) h = refl
  same_generic o (arg_assoc_ty n t) h = ap (arg_assoc_ty n) (same_ty o t h)
  same_generic o (arg_assoc_const n e) h = refl
  same_generic o (arg_constraint n bs) h = refl

  pub same_qself : (o : Own) (q : QSelfD) → QSelfFree q → in_qself o q ≡ q
  same_qself o (qself t n) h = ap (λ u. qself u n) (same_ty o t h)

  pub same_expr : (o : Own) (e : ExprD) → ExprFree e → in_expr o e ≡ e
  same_expr o (ex_binary a op b) h = both (λ x y. ex_binary x op y) (same_expr o a h.0) (same_expr o b h.1)
  same_expr o (ex_call f xs) h = both ex_call (same_expr o f h.0) (same_exprs o xs h.1)
  same_expr o (ex_cast e t) h = both ex_cast (same_expr o e h.0) (same_ty o t h.1)
  same_expr o (ex_field e m) h = ap (λ x. ex_field x m) (same_expr o e h)
  same_expr o (ex_index e i) h = both ex_index (same_expr o e h.0) (same_expr o i h.1)
  same_expr o (ex_fixed l s) h = refl
  same_expr o (ex_paren e) h = ap ex_paren (same_expr o e h)
  same_expr o (ex_path p) h = ap ex_path (same_expr_path o p h)
  same_expr o (ex_unary op e) h = ap (ex_unary op) (same_expr o e h)
  same_expr o (ex_verbatim ts) h = refl

  pub same_expr_path : (o : Own) (p : ExprPathD) → ExprPathFree p → in_expr_path o p ≡ p
  same_expr_path o (expr_path q p) h =
      headed_of o false q (in_maybe_qself o q) p (in_path o p) h.0 (same_maybe_qself o q h.1) (same_path o p h.2)

  pub same_bound : (o : Own) (b : BoundD) → BoundFree b → in_bound o b ≡ b
  same_bound o (bound_trait p) h = ap bound_trait (same_path o p h)
  same_bound o (bound_lifetime l) h = refl

  pub same_maybe_ty : (o : Own) (t : MaybeTy) → MaybeTyFree t → in_maybe_ty o t ≡ t
  same_maybe_ty o no_ty h = refl
  same_maybe_ty o (some_ty t) h = ap some_ty (same_ty o t h)

  pub same_maybe_qself : (o : Own) (q : MaybeQSelf) → MaybeQSelfFree q → in_maybe_qself o q ≡ q
  same_maybe_qself o no_qself h = refl
  same_maybe_qself o (some_qself q) h = ap some_qself (same_qself o q h)

  pub same_tys : (o : Own) (ts : Tys) → TysFree ts → in_tys o ts ≡ ts
  same_tys o end_tys h = refl
  same_tys o (more_tys t ts) h = both more_tys (same_ty o t h.0) (same_tys o ts h.1)

  pub same_bounds : (o : Own) (bs : Bounds) → BoundsFree bs → in_bounds o bs ≡ bs
  same_bounds o end_bounds h = refl
  same_bounds o (more_bounds b bs) h = both more_bounds (same_bound o b h.0) (same_bounds o bs h.1)

  pub same_segments : (o : Own) (ss : Segments) → SegmentsFree ss → in_segments o ss ≡ ss
  same_segments o end_segments h = refl
  same_segments o (more_segments s ss) h = both more_segments (same_segment o s h.0) (same_segments o ss h.1)

  pub same_generics : (o : Own) (gs : Generics) → GenericsFree gs → in_generics o gs ≡ gs
  same_generics o end_generics h = refl
  same_generics o (more_generics g gs) h = both more_generics (same_generic o g h.0) (same_generics o gs h.1)

  pub same_exprs : (o : Own) (es : Exprs) → ExprsFree es → in_exprs o es ≡ es
  same_exprs o end_exprs h = refl
  same_exprs o (more_exprs e es) h = both more_exprs (same_expr o e h.0) (same_exprs o es h.1)

-- a list each of whose members stays
same_list : {X : Type 0} (f : X → X) (P : X → Type 0) → ((x : X) → P x → f x ≡ x) → (xs : List X) → All P xs → map f xs ≡ xs
same_list f P e [] h = refl
same_list f P e (x ∷ xs) h = both (λ y ys. y ∷ ys) (e x (All-head P x xs h)) (same_list f P e xs (All-tail P x xs h))

same_param : (o : Own) (p : ParamD) → ParamFree p → in_param o p ≡ p
same_param o (param_ty n bs) h = ap (param_ty n) (same_list (in_bound o) BoundFree (same_bound o) bs h)
same_param o (param_lifetime l) h = refl
same_param o (param_const n t) h = refl

same_predicate : (o : Own) (p : PredicateD) → PredicateFree p → in_predicate o p ≡ p
same_predicate o (predicate_ty t bs) h = both predicate_ty (same_ty o t h.0) (same_list (in_bound o) BoundFree (same_bound o) bs h.1)
same_predicate o (predicate_lifetime l ls) h = refl

same_field : (o : Own) (f : FieldD) → FieldFree f → in_field o f ≡ f
same_field o f h = ap (λ t. record f { ty = t }) (same_ty o f.ty h)

same_fields : (o : Own) (fs : FieldsD) → FieldsFree fs → in_fields o fs ≡ fs
same_fields o (named_fields fs) h = ap named_fields (same_list (in_field o) FieldFree (same_field o) fs h)
same_fields o (unnamed_fields fs) h = ap unnamed_fields (same_list (in_field o) FieldFree (same_field o) fs h)
same_fields o unit_fields h = refl

same_variant : (o : Own) (v : VariantD) → VariantFree v → in_variant o v ≡ v
same_variant o v h = ap (λ fs. record v { fields = fs }) (same_fields o v.fields h)

same_body : (o : Own) (b : BodyD) → BodyFree b → in_body o b ≡ b
same_body o (struct_body fs at) h = ap (λ gs. struct_body gs at) (same_fields o fs h)
same_body o (enum_body vs at) h = ap (λ ws. enum_body ws at) (same_list (in_variant o) VariantFree (same_variant o) vs h)
same_body o (union_body fs at) h = refl

same_parts : (d : ItemD) (ps : List ParamD) (ws : List PredicateD) (b : BodyD) → ps ≡ d.params → ws ≡ d.predicates → b ≡ d.body → record d { params = ps; predicates = ws; body = b } ≡ d
same_parts d ps ws b e f g =
    ap (λ (x : List ParamD). record d { params = x; predicates = ws; body = b }) e
    ∙ ap (λ (x : List PredicateD). record d { params = d.params; predicates = x; body = b }) f
    ∙ ap (λ (x : BodyD). record d { params = d.params; predicates = d.predicates; body = x }) g

pub same_item : (d : ItemD) → ItemFree d → replaced d ≡ d
same_item d h =
    same_parts d (replaced d).params (replaced d).predicates (replaced d).body
    (same_list (in_param (own d)) ParamFree (same_param (own d)) d.params h.params)
    (same_list (in_predicate (own d)) PredicateFree (same_predicate (own d)) d.predicates h.predicates)
    (same_body (own d) d.body h.body)
