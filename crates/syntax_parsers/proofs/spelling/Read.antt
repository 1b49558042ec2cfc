-- What a reader at one level reads is a printing, where the readers that it stands on read printings.
use Rattle.std.proofs.Common.{◌≡◌, ◌⊎◌, ℕ, zero, suc, ◌-◌, ◌<◌, List, [], ◌∷◌, ◌++◌, Bool, true, false, Some, None, cond, refl, ap, sym, ◌∙◌, subst, inl, inr, length, codes, arith}
use Rattle.std.specs.Prelude.{Option, Result, Ok, Err, nat_eq, option_map, is_some}
use Rattle.std.proofs.lemmas.Bool.{ne_eqb}
use Rattle.std.proofs.lemmas.List.{append-nil}
use Rattle.token_trees.specs.declared.token.Span.{Span}
use Rattle.token_trees.specs.declared.token.Delimiter.TheVariants.{Parenthesis, Bracket, Brace}
use Rattle.token_trees.specs.Token.{Tok, word, mark, fixed, group, Toks, Fixed, Name, list_of}
use Rattle.syntax_trees.specs.Syntax.{LifetimeD, TyD, ty_array, ty_fn, ty_impl, ty_infer, ty_macro, ty_never, ty_path, ty_pointer, ty_reference, ty_slice, ty_object, PathD, path, SegmentD, segment, ArgumentsD, no_arguments, angle, parens, GenericD, arg_lifetime, arg_ty, arg_const, arg_assoc_ty, arg_assoc_const, arg_constraint, qself, ExprD, ex_fixed, ex_verbatim, ExprPathD, expr_path, BoundD, bound_trait, bound_lifetime, MaybeTy, no_ty, some_ty, no_qself, some_qself, Segments, end_segments, more_segments, tys_of, bounds_of, segments_of, generics_of}
use Rattle.syntax_trees.specs.Metas.{is_sign, sign_next, place}
use Rattle.syntax_trees.specs.declared.cursor.SyntaxKind.TheVariants.{ExpectedComma, ExpectedGt}
use Rattle.syntax_trees.specs.declared.cursor.SyntaxError.{SyntaxError}
use Rattle.syntax_parsers.specs.Fronts.{sign_front, colons_front, arrow_front, keyword_front, literal_front, name_front, group_front, tree_front, lifetime_front, bound_next, path_next, further_front, colon_front, angle_front, labelled, is_parens, is_brackets, is_braces}
use Rattle.syntax_parsers.specs.Grammar.{Readers, choose, required, whole, output_body, path_body, trait_body, behind_body, qualified_body, expr_path_body, other_length, length_body, bracketed_body, parenthesised, mut_front, maybe_lifetime_front, reference_body, pointer_body, signature_body, function_body, some_bounds, path_ty, qualified_ty, ty_body, tys_body, bound_body, bounds_body, arguments_body, segment_body, segments_body, constant_front, generic_body, generics_body, gives_segment, gives_path}
use Rattle.syntax_parsers.specs.Read.{stuck, level, levels}
use Rattle.syntax_parsers.specs.Spelling.{SignThen, PairThen, WordThen, NameThen, GroupThen, MaybeLifetimeThen, MutThen, ColonsThen, CloseThen, ends_ty, ends_output, ends_path, ends_segments, ends_segment, ends_arguments, ends_bound, TyThen, OutputThen, TysThen, BoundThen, BoundsThen, FrontThen, PathThen, BehindThen, SegmentsThen, SegmentThen, ArgumentsThen, GenericsThen, GenericThen, ExprThen, ExprPathThen}
use Rattle.syntax_parsers.specs.SpellingForm.{has_bounds, segments_count, IsConstant, TyForm, OutputForm, TysForm, BoundForm, BoundsForm, PathForm, BehindForm, is_last, SegmentsForm, SegmentForm, ArgumentsForm, GenericsForm, GenericForm, LengthForm, ExprPathForm}
use Rattle.syntax_parsers.proofs.Results.{ok_same, bind_ok, cond_ok}
use Rattle.syntax_parsers.proofs.spelling.Stands.{some_same, choose_ok, required_ok, whole_ok, sign_stands, pair_stands, keyword_stands, name_stands, segment_stands, literal_stands, lifetime_stands, parens_stand, brackets_stand, braces_stand, tree_stands, sign_then_next}

-- where a printing ends in a trait object or an `impl`, no `+` stands behind it
abbrev pub NoPlus : Bool → List Tok → Type 0
NoPlus b ts = b ≡ true → sign_next 43 ts ≡ false

abbrev pub TyRead : List Tok → TyD × List Tok → Type 0
TyRead ts y = TyForm y.0 × TyThen y.0 ts y.1 × NoPlus (ends_ty y.0) y.1

abbrev pub TysRead : List Tok → List TyD × Bool → Type 0
TysRead ts y = TysForm (tys_of y.0) × TysThen y.1 (tys_of y.0) ts

abbrev pub BoundsRead : List Tok → List BoundD × List Tok → Type 0
BoundsRead ts y = BoundsForm (bounds_of y.0) × BoundsThen (bounds_of y.0) ts y.1 × (sign_next 43 y.1 ≡ false) × (bound_next ts ≡ true → has_bounds (bounds_of y.0) ≡ true)

abbrev pub SegmentsRead : List Tok → List SegmentD × List Tok → Type 0
SegmentsRead ts y = (0 < segments_count (segments_of y.0)) × SegmentsForm 0 (segments_of y.0) × SegmentsThen 0 false (segments_of y.0) ts y.1 × NoPlus (ends_segments false (segments_of y.0)) y.1

abbrev pub GenericsRead : List Tok → List GenericD × List Tok → Type 0
GenericsRead ts y = GenericsForm (generics_of y.0) × GenericsThen (generics_of y.0) ts y.1

abbrev pub ends_expr_path : ExprPathD → Bool
ends_expr_path (expr_path q p) = ends_path p

abbrev pub ExprPathRead : List Tok → ExprPathD × List Tok → Type 0
ExprPathRead ts y = ExprPathForm y.0 × ExprPathThen y.0 ts y.1 × NoPlus (ends_expr_path y.0) y.1

pub record Printed (r : Readers) : Type 0 where
  pub ty : (at : Span) (ts : List Tok) (y : TyD × List Tok) → r.ty at ts ≡ Ok y → TyRead ts y
  pub tys : (at : Span) (ts : List Tok) (y : List TyD × Bool) → r.tys at ts ≡ Ok y → TysRead ts y
  pub bounds : (at : Span) (ts : List Tok) (y : List BoundD × List Tok) → r.bounds at ts ≡ Ok y → BoundsRead ts y
  pub segments : (at : Span) (ts : List Tok) (y : List SegmentD × List Tok) → r.segments at ts ≡ Ok y → SegmentsRead ts y
  pub generics : (at : Span) (ts : List Tok) (y : List GenericD × List Tok) → r.generics at ts ≡ Ok y → GenericsRead ts y
  pub expr_path : (at : Span) (ts : List Tok) (y : ExprPathD × List Tok) → r.expr_path at ts ≡ Ok y → ExprPathRead ts y

closed : (ts : List Tok) → NoPlus false ts
closed ts e = absurd (cc)

cond_either : {A : Type 0} → (b : Bool) (x y z : A) → cond b x y ≡ z → ((b ≡ true) × (x ≡ z)) ⊎ ((b ≡ false) × (y ≡ z))
cond_either true x y z e = inl (refl, e)
cond_either false x y z e = inr (refl, e)

choose_some : {A B : Type 0} → (o : Option A) (f : A → Option B) (y : B) → choose o f None ≡ Some y → (x : A) × (o ≡ Some x) × (f x ≡ Some y)
choose_some None f y e = absurd (cc)
choose_some (Some x) f y e = (x, refl, e)

unless : {A : Type 0} → (b : Bool) (o : Option A) (y : A) → cond b None o ≡ Some y → (b ≡ false) × (o ≡ Some y)
unless true o y e = absurd (cc)
unless false o y e = (refl, e)

-- paths

lead : (ss : Segments) (ts a rest : List Tok) → 0 < segments_count ss → PairThen 58 58 ts a → SegmentsThen 0 false ss a rest → SegmentsThen 0 true ss ts rest
lead end_segments ts a rest n p h = absurd (omega (arith, n))
lead (more_segments s ss) ts a rest n p h = (h.0, h.1, h.2, subst (λ z. PairThen 58 58 ts z) h.3 p, h.4, h.5, h.6)

abbrev pub OutputRead : List Tok → MaybeTy × List Tok → Type 0
OutputRead ts y = OutputForm y.0 × OutputThen y.0 ts y.1 × NoPlus (ends_output y.0) y.1

output_read : (r : Readers) → Printed r → (at : Span) (ts : List Tok) (y : MaybeTy × List Tok) → output_body r at ts ≡ Ok y → OutputRead ts y
unfolding output_body
output_read r s at ts y e =
    elim (choose_ok (arrow_front ts) _ _ y e) [
      | inl h ↦
          let b = bind_ok (r.ty at h.0) _ y h.2 in
          let k = s.ty at h.0 b.0 b.1 in
          subst (OutputRead ts) (ok_same (some_ty b.0.0, b.0.1) y b.2) (k.0, (h.0, pair_stands 45 62 ts h.0 h.1, k.1), k.2)
      | inr h ↦ subst (OutputRead ts) (ok_same (no_ty, ts) y h.1) (tt, refl, closed ts)
    ]

abbrev pub PathRead : List Tok → PathD × List Tok → Type 0
PathRead ts y = PathForm y.0 × PathThen y.0 ts y.1 × NoPlus (ends_path y.0) y.1

pub path_read : (r : Readers) → Printed r → (at : Span) (ts : List Tok) (y : PathD × List Tok) → path_body r at ts ≡ Ok y → PathRead ts y
unfolding path_body
path_read r s at ts y e =
    elim (choose_ok (colons_front ts) _ _ y e) [
      | inl h ↦
          let b = bind_ok (r.segments at h.0) _ y h.2 in
          let k = s.segments at h.0 b.0 b.1 in
          subst (PathRead ts) (ok_same (path true (segments_of b.0.0), b.0.1) y b.2)
          ((k.0, k.1), lead (segments_of b.0.0) ts h.0 b.0.1 k.0 (pair_stands 58 58 ts h.0 h.1) k.2, k.3)
      | inr h ↦
          let b = bind_ok (r.segments at ts) _ y h.1 in
          let k = s.segments at ts b.0 b.1 in
          subst (PathRead ts) (ok_same (path false (segments_of b.0.0), b.0.1) y b.2) ((k.0, k.1), k.2, k.3)
    ]

-- qualified paths

join : (l : Bool) (s : SegmentD) (ss more : List SegmentD) (ts a b rest : List Tok) → SegmentsThen 0 l (segments_of (s ∷ ss)) ts a → SignThen 62 a b → SegmentsThen 0 true (segments_of more) b rest → SegmentsThen (length (s ∷ ss)) l (segments_of ((s ∷ ss) ++ more)) ts rest
join l s [] more ts a b rest h k m = (h.0, h.1, b, h.3, h.4, subst (λ z. SignThen 62 z b) (sym (h.5 ∙ h.6)) k, m)
join l s (u ∷ us) more ts a b rest h k m =
    let n = length us in
    let e : nat_eq (suc (suc n)) 1 ≡ false = ne_eqb (suc (suc n)) 1 (λ q. omega (arith, q)) in
    let d : suc n ≡ suc (suc n) - 1 = omega arith in
    (h.0, h.1, h.2, h.3, h.4, subst (λ z. CloseThen z h.1 h.2) (sym e) h.5, subst (λ z. SegmentsThen z true (segments_of ((u ∷ us) ++ more)) h.2 rest) d (join true u us more h.2 a b rest h.6 k m))

count_join : (ss more : List SegmentD) → 0 < segments_count (segments_of more) → length ss < segments_count (segments_of (ss ++ more))
count_join [] more h = h
count_join (s ∷ ss) more h = let k = count_join ss more h in omega (arith, k)

form_join : (s : SegmentD) (ss more : List SegmentD) → SegmentsForm 0 (segments_of (s ∷ ss)) → SegmentsForm 0 (segments_of more) → SegmentsForm (length (s ∷ ss)) (segments_of ((s ∷ ss) ++ more))
form_join s [] more h k = (h.0, last more, k)
  where
    last : (ms : List SegmentD) → gives_segment s ≡ true → is_last 1 (segments_of ms) ≡ true
    last [] g = refl
    last (m ∷ ms) g = refl
form_join s (u ∷ us) more h k =
    let n = length us in
    let d : suc n ≡ suc (suc n) - 1 = omega arith in
    (h.0, λ g. let z : false ≡ true = h.1 g in absurd (cc), subst (λ z. SegmentsForm z (segments_of ((u ∷ us) ++ more))) d (form_join u us more h.2 k))

ends_join : (was : Bool) (ss more : List SegmentD) → 0 < segments_count (segments_of more) → ends_segments was (segments_of (ss ++ more)) ≡ ends_segments false (segments_of more)
ends_join was [] [] h = absurd (omega (arith, h))
ends_join was [] (m ∷ ms) h = refl
ends_join was (s ∷ ss) more h = ends_join (ends_segment s) ss more h

abbrev TraitRead : List Tok → Bool × List SegmentD × List Tok → Type 0
TraitRead ts y = (0 < segments_count (segments_of y.1)) × SegmentsForm 0 (segments_of y.1) × SegmentsThen 0 y.0 (segments_of y.1) ts y.2

trait_read : (r : Readers) → Printed r → (at : Span) (ts : List Tok) (y : Bool × List SegmentD × List Tok) → trait_body r at ts ≡ Ok y → TraitRead ts y
unfolding trait_body
trait_read r s at ts y e =
    elim (choose_ok (colons_front ts) _ _ y e) [
      | inl h ↦
          let b = bind_ok (r.segments at h.0) _ y h.2 in
          let k = s.segments at h.0 b.0 b.1 in
          subst (TraitRead ts) (ok_same (true, b.0.0, b.0.1) y b.2) (k.0, k.1, lead (segments_of b.0.0) ts h.0 b.0.1 k.0 (pair_stands 58 58 ts h.0 h.1) k.2)
      | inr h ↦
          let b = bind_ok (r.segments at ts) _ y h.1 in
          let k = s.segments at ts b.0 b.1 in
          subst (TraitRead ts) (ok_same (false, b.0.0, b.0.1) y b.2) (k.0, k.1, k.2)
    ]

abbrev BehindRead : List Tok → List SegmentD × List Tok → Type 0
BehindRead ts y = (b : List Tok) × SignThen 62 ts b × (0 < segments_count (segments_of y.0)) × SegmentsForm 0 (segments_of y.0) × SegmentsThen 0 true (segments_of y.0) b y.1 × NoPlus (ends_segments false (segments_of y.0)) y.1

behind_read : (r : Readers) → Printed r → (at : Span) (ts : List Tok) (y : List SegmentD × List Tok) → behind_body r at ts ≡ Ok y → BehindRead ts y
unfolding behind_body
behind_read r s at ts y e =
    let b = bind_ok _ _ y e in
    let c = bind_ok _ _ y b.2 in
    let k = s.segments at c.0 y c.2 in
    let p = pair_stands 58 58 b.0 c.0 (required_ok _ _ _ _ c.0 c.1) in
    (b.0, sign_stands 62 ts b.0 (required_ok _ _ _ _ b.0 b.1), k.0, k.1, lead (segments_of y.0) b.0 c.0 y.1 k.0 p k.2, k.3)

qualified_joined : (ts us a v w : List Tok) (t : TyD) (l : Bool) (ss more : List SegmentD) (rest : List Tok) → SignThen 60 us ts → TyForm t → TyThen t ts a → WordThen (codes "as") a v → TraitRead v (l, ss, w) → BehindRead w (more, rest) → ExprPathRead us (expr_path (some_qself (qself t (length ss))) (path l (segments_of (ss ++ more))), rest)
qualified_joined ts us a v w t l [] more rest o f p k q b = absurd (omega (arith, q.0))
qualified_joined ts us a v w t l (s ∷ ss) more rest o f p k q b =
    let e : nat_eq (suc (length ss)) 0 ≡ false = ne_eqb (suc (length ss)) 0 (λ z. omega (arith, z)) in
    let n = count_join (s ∷ ss) more b.2 in
    let front : FrontThen (some_qself (qself t (length (s ∷ ss)))) us v = (ts, a, o, p, subst (λ z. cond z (SignThen 62 a v) (WordThen (codes "as") a v)) (sym e) k) in (
      ((f, n, λ z. absurd (omega (arith, z))), (omega (arith, n), form_join s ss more q.1 b.3)),
      (v, front, join l s ss more v w b.0 rest q.2 b.1 b.4),
      subst (λ z. NoPlus z rest) (sym (ends_join false (s ∷ ss) more b.2)) b.5,
    )

qualified_read : (r : Readers) → Printed r → (at : Span) (ts us : List Tok) (y : ExprPathD × List Tok) → SignThen 60 us ts → qualified_body r at ts ≡ Ok y → ExprPathRead us y
unfolding qualified_body
qualified_read r s at ts us y o e =
    let b = bind_ok (r.ty at ts) _ y e in
    let k = s.ty at ts b.0 b.1 in
    elim (choose_ok (keyword_front (codes "as") b.0.1) _ _ y b.2) [
      | inl h ↦
          let c = bind_ok (trait_body r at h.0) _ y h.2 in
          let d = bind_ok (behind_body r at c.0.2) _ y c.2 in
          let p = trait_read r s at h.0 c.0 c.1 in
          let q = behind_read r s at c.0.2 d.0 d.1 in
          subst (ExprPathRead us) (ok_same (expr_path (some_qself (qself b.0.0 (length c.0.1))) (path c.0.0 (segments_of (c.0.1 ++ d.0.0))), d.0.1) y d.2)
          (qualified_joined ts us b.0.1 h.0 c.0.2 b.0.0 c.0.0 c.0.1 d.0.0 d.0.1 o k.0 k.1 (keyword_stands (codes "as") b.0.1 h.0 h.1) p q)
      | inr h ↦
          let d = bind_ok (behind_body r at b.0.1) _ y h.1 in
          let q = behind_read r s at b.0.1 d.0 d.1 in
          subst (ExprPathRead us) (ok_same (expr_path (some_qself (qself b.0.0 0)) (path true (segments_of d.0.0)), d.0.1) y d.2)
          (((k.0, q.2, λ z. refl), (q.2, q.3)), (q.0, (ts, b.0.1, o, k.1, q.1), q.4), q.5)
    ]

behind_form : (p : PathD) → PathForm p → BehindForm 0 p
behind_form (path l ss) h = h

behind_none : (p : PathD) (ts rest : List Tok) → PathThen p ts rest → BehindThen 0 p ts rest
behind_none (path l ss) ts rest h = h

pub expr_path_read : (r : Readers) → Printed r → (at : Span) (ts : List Tok) (y : ExprPathD × List Tok) → expr_path_body r at ts ≡ Ok y → ExprPathRead ts y
unfolding expr_path_body
expr_path_read r s at ts y e =
    elim (choose_ok (sign_front 60 ts) _ _ y e) [
      | inl h ↦ qualified_read r s at h.0 ts y (sign_stands 60 ts h.0 h.1) h.2
      | inr h ↦
          let b = bind_ok (path_body r at ts) _ y h.1 in
          let k = path_read r s at ts b.0 b.1 in
          subst (ExprPathRead ts) (ok_same (expr_path no_qself b.0.0, b.0.1) y b.2) ((tt, behind_form b.0.0 k.0), (ts, refl, behind_none b.0.0 ts b.0.1 k.1), k.2)
    ]

-- lengths, and what stands within brackets

abbrev LengthRead : List Tok → ExprD → Type 0
LengthRead ts e = LengthForm e × ExprThen e ts []

other_read : (r : Readers) → Printed r → (at : Span) (t : Tok) (ts : List Tok) (v : Result ExprPathD SyntaxError) → whole at (r.expr_path at (t ∷ ts)) ≡ v → LengthRead (t ∷ ts) (other_length (t ∷ ts) v)
other_read r s at t ts (Ok p) h = let k = s.expr_path at (t ∷ ts) (p, []) (whole_ok at (r.expr_path at (t ∷ ts)) p h) in (k.0, k.1)
other_read r s at t ts (Err x) h = ((t, ts, refl), sym (append-nil (t ∷ ts)))

length_other : (r : Readers) → Printed r → (at : Span) (t : Tok) (ts : List Tok) (e : ExprD) → other_length (t ∷ ts) (whole at (r.expr_path at (t ∷ ts))) ≡ e → LengthRead (t ∷ ts) e
length_other r s at t ts e h = subst (LengthRead (t ∷ ts)) h (other_read r s at t ts (whole at (r.expr_path at (t ∷ ts))) refl)

length_read : (r : Readers) → Printed r → (at : Span) (ts : List Tok) (y : ExprD) → length_body r at ts ≡ Ok y → LengthRead ts y
unfolding length_body
length_read r s at [] y e = absurd (cc)
length_read r s at (word x u ∷ ts) y e = length_other r s at (word x u) ts y (ok_same _ y e)
length_read r s at (mark c j u ∷ ts) y e = length_other r s at (mark c j u) ts y (ok_same _ y e)
length_read r s at (fixed l u ∷ []) y e = subst (LengthRead (fixed l u ∷ [])) (ok_same (ex_fixed l u) y e) (tt, refl)
length_read r s at (fixed l u ∷ t ∷ ts) y e = length_other r s at (fixed l u) (t ∷ ts) y (ok_same _ y e)
length_read r s at (group d us u ∷ ts) y e = length_other r s at (group d us u) ts y (ok_same _ y e)

bracketed_read : (r : Readers) → Printed r → (at : Span) (us : Toks) (ts rest : List Tok) (y : TyD) → GroupThen Bracket us ts rest → bracketed_body r at (list_of us) ≡ Ok y → TyRead ts (y, rest)
unfolding bracketed_body
bracketed_read r s at us ts rest y g e =
    let b = bind_ok (r.ty at (list_of us)) _ y e in
    let k = s.ty at (list_of us) b.0 b.1 in
    elim (choose_ok (sign_front 59 b.0.1) _ _ y b.2) [
      | inl h ↦
          let c = bind_ok (length_body r at h.0) _ y h.2 in
          let q = length_read r s at h.0 c.0 c.1 in
          subst (λ z. TyRead ts (z, rest)) (ok_same (ty_array b.0.0 c.0) y c.2) ((k.0, q.0), (us, b.0.1, h.0, g, k.1, sign_stands 59 b.0.1 h.0 h.1, q.1), closed rest)
      | inr h ↦
          let w = ok_same (ty_slice b.0.0, b.0.1) (y, []) (whole_ok at _ y h.1) in
          let k1 = subst (λ z. TyThen b.0.0 (list_of us) z) (ap (λ (z : TyD × List Tok). z.1) w) k.1 in
          subst (λ z. TyRead ts (z, rest)) (ap (λ (z : TyD × List Tok). z.0) w) (k.0, (us, g, k1), closed rest)
    ]

-- what stands within parentheses

parenthesised_read : (us : Toks) (ts rest : List Tok) (is : List TyD) (c : Bool) → GroupThen Parenthesis us ts rest → TysRead (list_of us) (is, c) → TyRead ts (parenthesised (is, c), rest)
parenthesised_read us ts rest [] c g k = (k.0, (us, c, g, k.1, λ z. absurd (cc)), closed rest)
parenthesised_read us ts rest (t ∷ []) false g k = (k.0.0, (us, g, subst (λ z. TyThen t (list_of us) z) k.1.2 k.1.1), closed rest)
parenthesised_read us ts rest (t ∷ []) true g k = (k.0, (us, true, g, k.1, λ z. refl), closed rest)
parenthesised_read us ts rest (t ∷ u ∷ is) c g k = (k.0, (us, c, g, k.1, λ z. absurd (cc)), closed rest)

-- the front of a reference

abbrev maybe_lifetime_at : List Tok → Option (LifetimeD × List Tok) → Option LifetimeD × List Tok
maybe_lifetime_at ts o = choose o (λ l. (Some l.0, l.1)) (None, ts)

abbrev mut_at : List Tok → Option (List Tok) → Bool × List Tok
mut_at ts o = choose o (λ rest. (true, rest)) (false, ts)

maybe_lifetime_stands : (ts : List Tok) (o : Option (LifetimeD × List Tok)) → lifetime_front ts ≡ o → MaybeLifetimeThen (maybe_lifetime_at ts o).0 ts (maybe_lifetime_at ts o).1
maybe_lifetime_stands ts None h = refl
maybe_lifetime_stands ts (Some l) h = lifetime_stands ts l h

mut_stands : (ts : List Tok) (o : Option (List Tok)) → keyword_front (codes "mut") ts ≡ o → MutThen (mut_at ts o).0 ts (mut_at ts o).1
mut_stands ts None h = refl
mut_stands ts (Some rest) h = keyword_stands (codes "mut") ts rest h

reference_read : (r : Readers) → Printed r → (at : Span) (us ts : List Tok) (y : TyD × List Tok) → SignThen 38 us ts → reference_body r at ts ≡ Ok y → TyRead us y
unfolding reference_body
reference_read r s at us ts y o e =
    let l = maybe_lifetime_front ts in
    let m = mut_front l.1 in
    let b = bind_ok (r.ty at m.1) (λ t. Ok (ty_reference l.0 m.0 t.0, t.1)) y e in
    let k = s.ty at m.1 b.0 b.1 in
    subst (TyRead us) (ok_same (ty_reference l.0 m.0 b.0.0, b.0.1) y b.2)
    (k.0, (ts, l.1, m.1, o, maybe_lifetime_stands ts (lifetime_front ts) refl, mut_stands l.1 (keyword_front (codes "mut") l.1) refl, k.1), k.2)

pointer_read : (r : Readers) → Printed r → (at : Span) (us ts : List Tok) (y : TyD × List Tok) → SignThen 42 us ts → pointer_body r at ts ≡ Ok y → TyRead us y
unfolding pointer_body
pointer_read r s at us ts y o e =
    elim (choose_ok (keyword_front (codes "mut") ts) _ _ y e) [
      | inl h ↦
          let b = bind_ok (r.ty at h.0) _ y h.2 in
          let k = s.ty at h.0 b.0 b.1 in
          subst (TyRead us) (ok_same (ty_pointer true b.0.0, b.0.1) y b.2) (k.0, (ts, h.0, o, keyword_stands (codes "mut") ts h.0 h.1, k.1), k.2)
      | inr h ↦
          let c = bind_ok _ _ y h.1 in
          let b = bind_ok (r.ty at c.0) _ y c.2 in
          let k = s.ty at c.0 b.0 b.1 in
          subst (TyRead us) (ok_same (ty_pointer false b.0.0, b.0.1) y b.2) (k.0, (ts, c.0, o, keyword_stands (codes "const") ts c.0 (required_ok _ _ _ _ c.0 c.1), k.1), k.2)
    ]

-- functions

abbrev pub SignatureRead : Toks → List Tok → List TyD × MaybeTy × List Tok → Type 0
SignatureRead us ts y = (c : Bool) × TysForm (tys_of y.0) × TysThen c (tys_of y.0) (list_of us) × OutputForm y.1 × OutputThen y.1 ts y.2 × NoPlus (ends_output y.1) y.2

signature_read : (r : Readers) → Printed r → (g : List Tok × Span × List Tok) (at : Span) (us : Toks) → list_of us ≡ g.0 → (y : List TyD × MaybeTy × List Tok) → signature_body r g at ≡ Ok y → SignatureRead us g.2 y
unfolding signature_body
signature_read r s g at us q y e =
    let b = bind_ok (r.tys g.1 g.0) _ y e in
    let c = bind_ok (output_body r at g.2) _ y b.2 in
    let k = s.tys g.1 g.0 b.0 b.1 in
    let o = output_read r s at g.2 c.0 c.1 in
    subst (SignatureRead us g.2) (ok_same (b.0.0, c.0.0, c.0.1) y c.2)
    (b.0.1, k.0, subst (λ z. TysThen b.0.1 (tys_of b.0.0) z) (sym q) k.1, o.0, o.1, o.2)

function_read : (r : Readers) → Printed r → (at : Span) (us ts : List Tok) (y : TyD × List Tok) → WordThen (codes "fn") us ts → function_body r at ts ≡ Ok y → TyRead us y
unfolding function_body
function_read r s at us ts y o e =
    let g = bind_ok _ _ y e in
    let w = parens_stand ts g.0 (required_ok _ _ _ _ g.0 g.1) in
    let f = bind_ok (signature_body r g.0 at) _ y g.2 in
    let k = signature_read r s g.0 at w.0 w.1 f.0 f.1 in
    subst (TyRead us) (ok_same (ty_fn (tys_of f.0.0) f.0.1, f.0.2) y f.2) ((k.1, k.3), (w.0, k.0, ts, g.0.2, o, w.2, k.2, k.4), k.5)

-- types

some_bounds_read : (r : Readers) → Printed r → (at : Span) (ts : List Tok) (y : List BoundD × List Tok) → some_bounds r at ts ≡ Ok y → (has_bounds (bounds_of y.0) ≡ true) × BoundsForm (bounds_of y.0) × BoundsThen (bounds_of y.0) ts y.1 × (sign_next 43 y.1 ≡ false)
unfolding some_bounds
some_bounds_read r s at ts y e =
    let b = cond_ok (bound_next ts) _ _ y e in
    let k = s.bounds at ts y b.1 in
    (k.3 b.0, k.0, k.1, k.2)

macro_read : (p : PathD) (ts a b c : List Tok) (t : Tok) → PathForm p → gives_path p ≡ false → PathThen p ts a → SignThen 33 a b → tree_front b ≡ Some (t, c) → TyRead ts (ty_macro p (t ∷ []), c)
macro_read p ts a b c t f v h k e =
    let g = tree_stands b (t, c) e in
    ((f, v, (g.0, g.1, g.2, ap (λ z. z ∷ []) g.3, g.4)), (a, b, h, k, g.5), closed c)

path_ty_read : (r : Readers) → Printed r → (at : Span) (ts : List Tok) (y : TyD × List Tok) → path_ty r at ts ≡ Ok y → TyRead ts y
unfolding path_ty
path_ty_read r s at ts y e =
    let b = bind_ok (path_body r at ts) _ y e in
    let k = path_read r s at ts b.0 b.1 in
    elim (choose_ok (cond (gives_path b.0.0) None (choose (sign_front 33 b.0.1) tree_front None)) _ _ y b.2) [
      | inl h ↦
          let v = unless (gives_path b.0.0) (choose (sign_front 33 b.0.1) tree_front None) h.0 h.1 in
          let g = choose_some (sign_front 33 b.0.1) tree_front h.0 v.1 in
          subst (TyRead ts) (ok_same (ty_macro b.0.0 (h.0.0 ∷ []), h.0.1) y h.2) (macro_read b.0.0 ts b.0.1 g.0 h.0.1 h.0.0 k.0 v.0 k.1 (sign_stands 33 b.0.1 g.0 g.1) g.2)
      | inr h ↦ subst (TyRead ts) (ok_same (ty_path no_qself b.0.0, b.0.1) y h.1) ((tt, behind_form b.0.0 k.0), (ts, refl, behind_none b.0.0 ts b.0.1 k.1), k.2)
    ]

qualified_ty_read : (ts : List Tok) (p : ExprPathD) (rest : List Tok) → ExprPathRead ts (p, rest) → TyRead ts (qualified_ty p, rest)
qualified_ty_read ts (expr_path q p) rest h = h

never_read : (at : Span) (ts rest : List Tok) → SignThen 33 ts rest → TyRead ts (ty_never (place at ts), rest)
never_read at ts rest h = subst (λ z. TyRead z (ty_never (place at z), rest)) (sym h.2) (tt, (h.0, refl), closed rest)

infer_read : (at : Span) (ts rest : List Tok) → WordThen (codes "_") ts rest → TyRead ts (ty_infer (place at ts), rest)
infer_read at ts rest h = subst (λ z. TyRead z (ty_infer (place at z), rest)) (sym h.1) (tt, refl, closed rest)

pub ty_read : (r : Readers) → Printed r → (at : Span) (ts : List Tok) (y : TyD × List Tok) → ty_body r at ts ≡ Ok y → TyRead ts y
unfolding ty_body
ty_read r s at ts y e =
    elim (choose_ok (sign_front 38 ts) _ _ y e) [
      | inl h ↦ reference_read r s at ts h.0 y (sign_stands 38 ts h.0 h.1) h.2
      | inr h1 ↦ elim (choose_ok (sign_front 42 ts) _ _ y h1.1) [
        | inl h ↦ pointer_read r s at ts h.0 y (sign_stands 42 ts h.0 h.1) h.2
        | inr h2 ↦ elim (choose_ok (sign_front 33 ts) _ _ y h2.1) [
          | inl h ↦ subst (TyRead ts) (ok_same (ty_never (place at ts), h.0) y h.2) (never_read at ts h.0 (sign_stands 33 ts h.0 h.1))
          | inr h3 ↦ elim (choose_ok (sign_front 60 ts) _ _ y h3.1) [
            | inl h ↦
                let b = bind_ok (qualified_body r at h.0) _ y h.2 in
                subst (TyRead ts) (ok_same (qualified_ty b.0.0, b.0.1) y b.2) (qualified_ty_read ts b.0.0 b.0.1 (qualified_read r s at h.0 ts b.0 (sign_stands 60 ts h.0 h.1) b.1))
            | inr h4 ↦ elim (choose_ok (group_front is_brackets ts) _ _ y h4.1) [
              | inl h ↦
                  let g = brackets_stand ts h.0 h.1 in
                  let b = bind_ok (bracketed_body r h.0.1 h.0.0) _ y h.2 in
                  subst (TyRead ts) (ok_same (b.0, h.0.2) y b.2) (bracketed_read r s h.0.1 g.0 ts h.0.2 b.0 g.2 (ap (bracketed_body r h.0.1) g.1 ∙ b.1))
              | inr h5 ↦ elim (choose_ok (group_front is_parens ts) _ _ y h5.1) [
                | inl h ↦
                    let g = parens_stand ts h.0 h.1 in
                    let b = bind_ok (r.tys h.0.1 h.0.0) _ y h.2 in
                    let k = s.tys h.0.1 h.0.0 b.0 b.1 in
                    subst (TyRead ts) (ok_same (parenthesised b.0, h.0.2) y b.2) (parenthesised_read g.0 ts h.0.2 b.0.0 b.0.1 g.2 (subst (λ z. TysRead z b.0) (sym g.1) k))
                | inr h6 ↦ elim (choose_ok (keyword_front (codes "_") ts) _ _ y h6.1) [
                  | inl h ↦ subst (TyRead ts) (ok_same (ty_infer (place at ts), h.0) y h.2) (infer_read at ts h.0 (keyword_stands (codes "_") ts h.0 h.1))
                  | inr h7 ↦ elim (choose_ok (keyword_front (codes "fn") ts) _ _ y h7.1) [
                    | inl h ↦ function_read r s at ts h.0 y (keyword_stands (codes "fn") ts h.0 h.1) h.2
                    | inr h8 ↦ elim (choose_ok (keyword_front (codes "impl") ts) _ _ y h8.1) [
                      | inl h ↦
                          let b = bind_ok (some_bounds r at h.0) _ y h.2 in
                          let k = some_bounds_read r s at h.0 b.0 b.1 in
                          subst (TyRead ts) (ok_same (ty_impl (bounds_of b.0.0), b.0.1) y b.2) ((k.0, k.1), (h.0, keyword_stands (codes "impl") ts h.0 h.1, k.2), λ z. k.3)
                      | inr h9 ↦ elim (choose_ok (keyword_front (codes "dyn") ts) _ _ y h9.1) [
                        | inl h ↦
                            let b = bind_ok (some_bounds r at h.0) _ y h.2 in
                            let k = some_bounds_read r s at h.0 b.0 b.1 in
                            subst (TyRead ts) (ok_same (ty_object (bounds_of b.0.0), b.0.1) y b.2) ((k.0, k.1), (h.0, keyword_stands (codes "dyn") ts h.0 h.1, k.2), λ z. k.3)
                        | inr h ↦ path_ty_read r s at ts y (cond_ok (path_next ts) _ _ y h.1).1
                      ]
                    ]
                  ]
                ]
              ]
            ]
          ]
        ]
      ]
    ]

-- lists of types

tys_joined : (us ws c : List Tok) (v w : Tok) (t : TyD) (is : List TyD) (b : Bool) → TyRead us (t, v ∷ w ∷ ws) → SignThen 44 (v ∷ w ∷ ws) c → TysRead c (is, b) → TysRead us (t ∷ is, b)
tys_joined us ws c v w t [] b k m n = let z : c ≡ [] = n.1.0 in let q : w ∷ ws ≡ c = cc (m.2) in absurd (cc)
tys_joined us ws c v w t (i ∷ is) b k m n = ((k.0, n.0), (v ∷ w ∷ ws, k.1, (c, n.1.0, m, n.1.1, n.1.2)))

tys_behind : (r : Readers) → Printed r → (at : Span) (u : Tok) (us : List Tok) (y : List TyD × Bool) (t : TyD) (ts : List Tok) → r.ty at (u ∷ us) ≡ Ok (t, ts) → TyRead (u ∷ us) (t, ts) → tys_body r at (u ∷ us) ≡ Ok y → TysRead (u ∷ us) y
unfolding tys_body
tys_behind r s at u us y t [] e k h =
    let g = rw e at h in
    subst (TysRead (u ∷ us)) (ok_same (t ∷ [], false) y g) ((k.0, tt), ([], k.1, refl))
tys_behind r s at u us y t (v ∷ []) e k h =
    let g = rw e at h in
    let c = bind_ok (required (sign_front 44 (v ∷ [])) ExpectedComma at (v ∷ [])) _ y g in
    let m = sign_stands 44 (v ∷ []) c.0 (required_ok _ _ _ _ c.0 c.1) in
    let q : [] ≡ c.0 = cc (m.2) in
    subst (TysRead (u ∷ us)) (ok_same (t ∷ [], true) y c.2) ((k.0, tt), (v ∷ [], k.1, subst (λ z. SignThen 44 (v ∷ []) z) (sym q) m))
tys_behind r s at u us y t (v ∷ w ∷ ws) e k h =
    let g = rw e at h in
    let c = bind_ok (required (sign_front 44 (v ∷ w ∷ ws)) ExpectedComma at (v ∷ w ∷ ws)) _ y g in
    let m = sign_stands 44 (v ∷ w ∷ ws) c.0 (required_ok _ _ _ _ c.0 c.1) in
    let d = bind_ok (r.tys at c.0) _ y c.2 in
    subst (TysRead (u ∷ us)) (ok_same (t ∷ d.0.0, d.0.1) y d.2) (tys_joined (u ∷ us) ws c.0 v w t d.0.0 d.0.1 k m (s.tys at c.0 d.0 d.1))

pub tys_read : (r : Readers) → Printed r → (at : Span) (ts : List Tok) (y : List TyD × Bool) → tys_body r at ts ≡ Ok y → TysRead ts y
unfolding tys_body
tys_read r s at [] y e = subst (TysRead []) (ok_same ([], false) y e) (tt, (refl, refl))
tys_read r s at (u ∷ us) y e =
    let b = bind_ok (r.ty at (u ∷ us)) _ y e in
    tys_behind r s at u us y b.0.0 b.0.1 b.1 (s.ty at (u ∷ us) b.0 b.1) e

-- bounds

abbrev BoundRead : List Tok → BoundD × List Tok → Type 0
BoundRead ts y = BoundForm y.0 × BoundThen y.0 ts y.1 × NoPlus (ends_bound y.0) y.1

bound_read : (r : Readers) → Printed r → (at : Span) (ts : List Tok) (y : BoundD × List Tok) → bound_body r at ts ≡ Ok y → BoundRead ts y
unfolding bound_body
bound_read r s at ts y e =
    elim (choose_ok (lifetime_front ts) _ _ y e) [
      | inl h ↦ subst (BoundRead ts) (ok_same (bound_lifetime h.0.0, h.0.1) y h.2) (tt, lifetime_stands ts h.0 h.1, closed h.0.1)
      | inr h ↦
          let b = bind_ok (path_body r at ts) _ y h.1 in
          let k = path_read r s at ts b.0 b.1 in
          subst (BoundRead ts) (ok_same (bound_trait b.0.0, b.0.1) y b.2) k
    ]

not_open : (b n : Bool) → (b ≡ true → n ≡ false) → n ≡ true → b ≡ false
not_open true n h e = let k = h refl in absurd (cc)
not_open false n h e = refl

not_next : (b : Bool) → (b ≡ true → false ≡ true) → b ≡ false
not_next true h = let k = h refl in absurd (cc)
not_next false h = refl

no_sign : (c : ℕ) (ts : List Tok) → sign_front c ts ≡ None → sign_next c ts ≡ false
no_sign c [] e = refl
no_sign c (t ∷ ts) e = none (is_sign c t) refl e
  where
    none : (b : Bool) → is_sign c t ≡ b → cond b (Some ts) None ≡ None → is_sign c t ≡ false
    none true h e = absurd (cc)
    none false h e = h

more_read : (b : BoundD) (ms : List BoundD) (ts a c rest : List Tok) → bound_next ts ≡ true → BoundRead ts (b, a) → sign_front 43 a ≡ Some c → BoundsRead c (ms, rest) → BoundsRead ts (b ∷ ms, rest)
more_read b [] ts a c rest n k e m =
    let o = not_open (ends_bound b) (sign_next 43 a) k.2 (sign_then_next 43 a c e) in
    let z : bound_next rest ≡ false = subst (λ v. bound_next v ≡ false) m.1 (not_next (bound_next c) m.3) in
    ((k.0, λ z. o, tt), (a, k.1, inr (subst (λ z. SignThen 43 a z) m.1 (sign_stands 43 a c e), o, z)), m.2, λ z. refl)
more_read b (d ∷ ds) ts a c rest n k e m =
    let o = not_open (ends_bound b) (sign_next 43 a) k.2 (sign_then_next 43 a c e) in
    ((k.0, λ z. o, m.0), (a, k.1, (c, m.1.0, sign_stands 43 a c e, m.1.1, m.1.2)), m.2, λ z. refl)

pub bounds_read : (r : Readers) → Printed r → (at : Span) (ts : List Tok) (y : List BoundD × List Tok) → bounds_body r at ts ≡ Ok y → BoundsRead ts y
unfolding bounds_body
bounds_read r s at ts y e =
    elim (cond_either (bound_next ts) _ _ (Ok y) e) [
      | inl h ↦
          let b = bind_ok (bound_body r at ts) _ y h.1 in
          let k = bound_read r s at ts b.0 b.1 in
          elim (choose_ok (sign_front 43 b.0.1) _ _ y b.2) [
            | inl w ↦
                let c = bind_ok (r.bounds at w.0) _ y w.2 in
                subst (BoundsRead ts) (ok_same (b.0.0 ∷ c.0.0, c.0.1) y c.2) (more_read b.0.0 c.0.0 ts b.0.1 w.0 c.0.1 h.0 k w.1 (s.bounds at w.0 c.0 c.1))
            | inr w ↦ subst (BoundsRead ts) (ok_same (b.0.0 ∷ [], b.0.1) y w.1) ((k.0, λ z. absurd (cc), tt), (b.0.1, k.1, inl refl), no_sign 43 b.0.1 w.0, λ z. refl)
          ]
      | inr h ↦
          elim (cond_either (sign_next 43 ts) _ _ (Ok y) h.1) [
            | inl w ↦ absurd (cc)
            | inr w ↦ subst (BoundsRead ts) (ok_same ([], ts) y w.1) (tt, refl, w.0, λ z. absurd (cc))
          ]
    ]

-- segments

angle_stands : (ts : List Tok) (y : Bool × List Tok) → angle_front ts ≡ Some y → (b : List Tok) × ColonsThen y.0 ts b × SignThen 60 b y.1
angle_stands ts y e = at (sign_front 60 ts) refl (colons_front ts) refl e
  where
    behind : (rest : List Tok) → colons_front ts ≡ Some rest → (o : Option (List Tok)) → sign_front 60 rest ≡ o → option_map (λ us. (true, us)) o ≡ Some y → (b : List Tok) × ColonsThen y.0 ts b × SignThen 60 b y.1
    behind rest q None h e = absurd (cc)
    behind rest q (Some us) h e = subst (λ (z : Bool × List Tok). (b : List Tok) × ColonsThen z.0 ts b × SignThen 60 b z.1) (some_same (true, us) y e) (rest, pair_stands 58 58 ts rest q, sign_stands 60 rest us h)

    at : (o : Option (List Tok)) → sign_front 60 ts ≡ o → (p : Option (List Tok)) → colons_front ts ≡ p → (elim o [ Some rest ↦ Some (false, rest) | None ↦ elim p [ None ↦ None | Some rest ↦ option_map (λ us. (true, us)) (sign_front 60 rest) ] ]) ≡ Some y → (b : List Tok) × ColonsThen y.0 ts b × SignThen 60 b y.1
    at (Some rest) h p q e = subst (λ (z : Bool × List Tok). (b : List Tok) × ColonsThen z.0 ts b × SignThen 60 b z.1) (some_same (false, rest) y e) (ts, refl, sign_stands 60 ts rest h)
    at None h None q e = absurd (cc)
    at None h (Some rest) q e = behind rest q (sign_front 60 rest) refl e

abbrev ArgumentsRead : List Tok → ArgumentsD × List Tok → Type 0
ArgumentsRead ts y = ArgumentsForm y.0 × ArgumentsThen y.0 ts y.1 × NoPlus (ends_arguments y.0) y.1

arguments_read : (r : Readers) → Printed r → (at : Span) (ts : List Tok) (y : ArgumentsD × List Tok) → arguments_body r at ts ≡ Ok y → ArgumentsRead ts y
unfolding arguments_body
arguments_read r s at ts y e =
    elim (choose_ok (angle_front ts) _ _ y e) [
      | inl h ↦
          let a = angle_stands ts h.0 h.1 in
          let b = bind_ok (r.generics at h.0.1) _ y h.2 in
          let k = s.generics at h.0.1 b.0 b.1 in
          subst (ArgumentsRead ts) (ok_same (angle h.0.0 (generics_of b.0.0), b.0.1) y b.2) (k.0, (a.0, h.0.1, a.1, a.2, k.1), closed b.0.1)
      | inr h1 ↦ elim (choose_ok (group_front is_parens ts) _ _ y h1.1) [
        | inl h ↦
            let g = parens_stand ts h.0 h.1 in
            let f = bind_ok (signature_body r h.0 at) _ y h.2 in
            let k = signature_read r s h.0 at g.0 g.1 f.0 f.1 in
            subst (ArgumentsRead ts) (ok_same (parens (tys_of f.0.0) f.0.1, f.0.2) y f.2) ((k.1, k.3), (g.0, k.0, h.0.2, g.2, k.2, k.4), k.5)
        | inr h ↦ subst (ArgumentsRead ts) (ok_same (no_arguments, ts) y h.1) (tt, refl, closed ts)
      ]
    ]

abbrev SegmentRead : List Tok → SegmentD × List Tok → Type 0
SegmentRead ts y = SegmentForm y.0 × SegmentThen y.0 ts y.1 × NoPlus (ends_segment y.0) y.1

segment_read : (r : Readers) → Printed r → (at : Span) (ts : List Tok) (y : SegmentD × List Tok) → segment_body r at ts ≡ Ok y → SegmentRead ts y
unfolding segment_body
segment_read r s at ts y e =
    let x = bind_ok _ _ y e in
    let n = segment_stands ts x.0 (required_ok _ _ _ _ x.0 x.1) in
    let a = bind_ok (arguments_body r at x.0.1) _ y x.2 in
    let k = arguments_read r s at x.0.1 a.0 a.1 in
    subst (SegmentRead ts) (ok_same (segment x.0.0 a.0.0, a.0.1) y a.2) ((n.1, k.0), (x.0.1, n.0, k.1), k.2)

further_stands : (ts rest : List Tok) → further_front ts ≡ Some rest → PairThen 58 58 ts rest
further_stands ts rest e = at (colons_front ts) refl e
  where
    third : (us : List Tok) (b : Bool) → colons_front ts ≡ Some us → cond b None (Some us) ≡ Some rest → PairThen 58 58 ts rest
    third us true h e = absurd (cc)
    third us false h e = pair_stands 58 58 ts rest (h ∙ e)

    at : (o : Option (List Tok)) → colons_front ts ≡ o → (elim o [ None ↦ None | Some us ↦ cond (sign_next 58 us) None (Some us) ]) ≡ Some rest → PairThen 58 58 ts rest
    at None h e = absurd (cc)
    at (Some us) h e = third us (sign_next 58 us) h e

segments_joined : (s : SegmentD) (more : List SegmentD) (ts a b rest : List Tok) → gives_segment s ≡ false → SegmentRead ts (s, a) → PairThen 58 58 a b → SegmentsRead b (more, rest) → SegmentsRead ts (s ∷ more, rest)
segments_joined s [] ts a b rest v k p m = absurd (omega (arith, m.0))
segments_joined s (u ∷ us) ts a b rest v k p m = (omega (arith, m.0), (k.0, λ g. absurd (cc), m.1), (ts, a, a, refl, k.1, refl, lead (segments_of (u ∷ us)) a b rest m.0 p m.2), m.3)

pub segments_read : (r : Readers) → Printed r → (at : Span) (ts : List Tok) (y : List SegmentD × List Tok) → segments_body r at ts ≡ Ok y → SegmentsRead ts y
unfolding segments_body
segments_read r s at ts y e =
    let b = bind_ok (segment_body r at ts) _ y e in
    let k = segment_read r s at ts b.0 b.1 in
    elim (choose_ok (cond (gives_segment b.0.0) None (further_front b.0.1)) _ _ y b.2) [
      | inl h ↦
          let v = unless (gives_segment b.0.0) (further_front b.0.1) h.0 h.1 in
          let c = bind_ok (r.segments at h.0) _ y h.2 in
          subst (SegmentsRead ts) (ok_same (b.0.0 ∷ c.0.0, c.0.1) y c.2) (segments_joined b.0.0 c.0.0 ts b.0.1 h.0 c.0.1 v.0 k (further_stands b.0.1 h.0 v.1) (s.segments at h.0 c.0 c.1))
      | inr h ↦ subst (SegmentsRead ts) (ok_same (b.0.0 ∷ [], b.0.1) y h.1) (omega arith, (k.0, λ g. refl, tt), (ts, b.0.1, b.0.1, refl, k.1, refl, refl), k.2)
    ]

-- generic arguments

abbrev ConstantRead : List Tok → ExprD × List Tok → Type 0
ConstantRead ts y = IsConstant y.0 × ExprThen y.0 ts y.1

minus_stands : (t : Tok) (ts : List Tok) (l : Fixed × Span × List Tok) → choose (sign_front 45 (t ∷ ts)) literal_front None ≡ Some l → ConstantRead (t ∷ ts) (ex_verbatim (t ∷ fixed l.0 l.1 ∷ []), l.2)
minus_stands t ts l e =
    let h = choose_some (sign_front 45 (t ∷ ts)) literal_front l e in
    let m = sign_stands 45 (t ∷ ts) h.0 h.1 in
    let q = literal_stands h.0 l h.2 in
    let ht : t ≡ mark 45 m.0 m.1 = cc (m.2) in
    let hr : ts ≡ h.0 = cc (m.2) in
    (inl (m.0, m.1, l.0, l.1, ap (λ z. z ∷ fixed l.0 l.1 ∷ []) ht), ap (λ z. t ∷ z) (hr ∙ q))

pub constant_stands : (ts : List Tok) (y : ExprD × List Tok) → constant_front ts ≡ Some y → ConstantRead ts y
constant_stands [] y e = absurd (cc)
constant_stands (t ∷ ts) y e = literal (literal_front (t ∷ ts)) refl e
  where
    minus : (o : Option (Fixed × Span × List Tok)) → choose (sign_front 45 (t ∷ ts)) literal_front None ≡ o → choose o (λ l. Some (ex_verbatim (t ∷ fixed l.0 l.1 ∷ []), l.2)) None ≡ Some y → ConstantRead (t ∷ ts) y
    minus None h e = absurd (cc)
    minus (Some l) h e = subst (ConstantRead (t ∷ ts)) (some_same (ex_verbatim (t ∷ fixed l.0 l.1 ∷ []), l.2) y e) (minus_stands t ts l h)

    brace : (o : Option (List Tok × Span × List Tok)) → group_front is_braces (t ∷ ts) ≡ o → choose o (λ g. Some (ex_verbatim (t ∷ []), g.2)) (choose (choose (sign_front 45 (t ∷ ts)) literal_front None) (λ l. Some (ex_verbatim (t ∷ fixed l.0 l.1 ∷ []), l.2)) None) ≡ Some y → ConstantRead (t ∷ ts) y
    brace None h e = minus (choose (sign_front 45 (t ∷ ts)) literal_front None) refl e
    brace (Some g) h e =
        let w = braces_stand (t ∷ ts) g h in
        let ht : t ≡ group Brace w.0 w.2.0 = cc (w.2.1) in
        let hr : ts ≡ g.2 = cc (w.2.1) in
        subst (ConstantRead (t ∷ ts)) (some_same (ex_verbatim (t ∷ []), g.2) y e) (inr (w.0, w.2.0, ap (λ z. z ∷ []) ht), ap (λ z. t ∷ z) hr)

    literal : (o : Option (Fixed × Span × List Tok)) → literal_front (t ∷ ts) ≡ o → choose o (λ l. Some (ex_fixed l.0 l.1, l.2)) (choose (group_front is_braces (t ∷ ts)) (λ g. Some (ex_verbatim (t ∷ []), g.2)) (choose (choose (sign_front 45 (t ∷ ts)) literal_front None) (λ l. Some (ex_verbatim (t ∷ fixed l.0 l.1 ∷ []), l.2)) None)) ≡ Some y → ConstantRead (t ∷ ts) y
    literal None h e = brace (group_front is_braces (t ∷ ts)) refl e
    literal (Some l) h e = subst (ConstantRead (t ∷ ts)) (some_same (ex_fixed l.0 l.1, l.2) y e) (tt, literal_stands (t ∷ ts) l h)

abbrev GenericRead : List Tok → GenericD × List Tok → Type 0
GenericRead ts y = GenericForm y.0 × GenericThen y.0 ts y.1

labelled_stands : (f : List Tok → Option (List Tok)) (c : ℕ) → ((ts us : List Tok) → f ts ≡ Some us → SignThen c ts us) → (ts : List Tok) (y : Name × List Tok) → labelled f (name_front ts) ≡ Some y → (b : List Tok) × NameThen y.0 ts b × SignThen c b y.1
labelled_stands f c is ts y e = at (name_front ts) refl e
  where
    behind : (x : Name) (us : List Tok) → name_front ts ≡ Some (x, us) → (o : Option (List Tok)) → f us ≡ o → option_map (λ vs. (x, vs)) o ≡ Some y → (b : List Tok) × NameThen y.0 ts b × SignThen c b y.1
    behind x us h None k e = absurd (cc)
    behind x us h (Some vs) k e = subst (λ (z : Name × List Tok). (b : List Tok) × NameThen z.0 ts b × SignThen c b z.1) (some_same (x, vs) y e) (us, name_stands ts (x, us) h, is us vs k)

    at : (o : Option (Name × List Tok)) → name_front ts ≡ o → labelled f o ≡ Some y → (b : List Tok) × NameThen y.0 ts b × SignThen c b y.1
    at None h e = absurd (cc)
    at (Some (x, us)) h e = behind x us h (f us) refl e

colon_stands : (ts us : List Tok) → colon_front ts ≡ Some us → SignThen 58 ts us
colon_stands ts us e = at (further_front ts) e
  where
    at : (o : Option (List Tok)) → cond (is_some o) None (sign_front 58 ts) ≡ Some us → SignThen 58 ts us
    at None e = sign_stands 58 ts us e
    at (Some x) e = absurd (cc)

generic_read : (r : Readers) → Printed r → (at : Span) (ts : List Tok) (y : GenericD × List Tok) → generic_body r at ts ≡ Ok y → GenericRead ts y
unfolding generic_body
generic_read r s at ts y e =
    elim (choose_ok (lifetime_front ts) _ _ y e) [
      | inl h ↦ subst (GenericRead ts) (ok_same (arg_lifetime h.0.0, h.0.1) y h.2) (tt, lifetime_stands ts h.0 h.1)
      | inr h1 ↦ elim (choose_ok (constant_front ts) _ _ y h1.1) [
        | inl h ↦ subst (GenericRead ts) (ok_same (arg_const h.0.0, h.0.1) y h.2) (constant_stands ts h.0 h.1)
        | inr h2 ↦ elim (choose_ok (labelled (sign_front 61) (name_front ts)) _ _ y h2.1) [
          | inl h ↦
              let l = labelled_stands (sign_front 61) 61 (sign_stands 61) ts h.0 h.1 in
              elim (choose_ok (constant_front h.0.1) _ _ y h.2) [
                | inl w ↦
                    let k = constant_stands h.0.1 w.0 w.1 in
                    subst (GenericRead ts) (ok_same (arg_assoc_const h.0.0 w.0.0, w.0.1) y w.2) (k.0, (l.0, h.0.1, l.1, l.2, k.1))
                | inr w ↦
                    let b = bind_ok (r.ty at h.0.1) _ y w.1 in
                    let k = s.ty at h.0.1 b.0 b.1 in
                    subst (GenericRead ts) (ok_same (arg_assoc_ty h.0.0 b.0.0, b.0.1) y b.2) (k.0, (l.0, h.0.1, l.1, l.2, k.1))
              ]
          | inr h3 ↦ elim (choose_ok (labelled colon_front (name_front ts)) _ _ y h3.1) [
            | inl h ↦
                let l = labelled_stands colon_front 58 colon_stands ts h.0 h.1 in
                let b = bind_ok (r.bounds at h.0.1) _ y h.2 in
                let k = s.bounds at h.0.1 b.0 b.1 in
                subst (GenericRead ts) (ok_same (arg_constraint h.0.0 (bounds_of b.0.0), b.0.1) y b.2) (k.0, (l.0, h.0.1, l.1, l.2, k.1))
            | inr h ↦
                let b = bind_ok (r.ty at ts) _ y h.1 in
                let k = s.ty at ts b.0 b.1 in
                subst (GenericRead ts) (ok_same (arg_ty b.0.0, b.0.1) y b.2) (k.0, k.1)
          ]
        ]
      ]
    ]

generics_joined : (g : GenericD) (more : List GenericD) (ts a b rest : List Tok) → GenericRead ts (g, a) → SignThen 44 a b → GenericsRead b (more, rest) → GenericsRead ts (g ∷ more, rest)
generics_joined g [] ts a b rest k c m = ((k.0, tt), (a, k.1, (b, inr c, m.1)))
generics_joined g (x ∷ xs) ts a b rest k c m = ((k.0, m.0), (a, k.1, (b, m.1.0, c, m.1.1, m.1.2)))

pub generics_read : (r : Readers) → Printed r → (at : Span) (ts : List Tok) (y : List GenericD × List Tok) → generics_body r at ts ≡ Ok y → GenericsRead ts y
unfolding generics_body
generics_read r s at ts y e =
    elim (choose_ok (sign_front 62 ts) _ _ y e) [
      | inl h ↦ subst (GenericsRead ts) (ok_same ([], h.0) y h.2) (tt, sign_stands 62 ts h.0 h.1)
      | inr h1 ↦
          let b = bind_ok (generic_body r at ts) _ y h1.1 in
          let k = generic_read r s at ts b.0 b.1 in
          elim (choose_ok (sign_front 62 b.0.1) _ _ y b.2) [
            | inl h ↦ subst (GenericsRead ts) (ok_same (b.0.0 ∷ [], h.0) y h.2) ((k.0, tt), (b.0.1, k.1, (b.0.1, inl refl, sign_stands 62 b.0.1 h.0 h.1)))
            | inr h ↦
                let c = bind_ok (required (sign_front 44 b.0.1) ExpectedGt at b.0.1) _ y h.1 in
                let d = bind_ok (r.generics at c.0) _ y c.2 in
                subst (GenericsRead ts) (ok_same (b.0.0 ∷ d.0.0, d.0.1) y d.2)
                (generics_joined b.0.0 d.0.0 ts b.0.1 c.0 d.0.1 k (sign_stands 44 b.0.1 c.0 (required_ok _ _ _ _ c.0 c.1)) (s.generics at c.0 d.0 d.1))
          ]
    ]

-- each level

none_printed : Printed stuck
none_printed = record {
  ty = λ at ts y e. absurd (cc);
  tys = λ at ts y e. absurd (cc);
  bounds = λ at ts y e. absurd (cc);
  segments = λ at ts y e. absurd (cc);
  generics = λ at ts y e. absurd (cc);
  expr_path = λ at ts y e. absurd (cc);
}

level_printed : (r : Readers) → Printed r → Printed (level r)
level_printed r s = record {
  ty = ty_read r s;
  tys = tys_read r s;
  bounds = bounds_read r s;
  segments = segments_read r s;
  generics = generics_read r s;
  expr_path = expr_path_read r s;
}

pub levels_printed : (n : ℕ) → Printed (levels n)
unfolding levels
levels_printed zero = none_printed
levels_printed (suc n) = level_printed (levels n) (levels_printed n)
