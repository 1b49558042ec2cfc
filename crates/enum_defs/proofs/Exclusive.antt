-- Of exclusive schemas no two admit one value.
use Rattle.std.proofs.Common.{◌≡◌, ℕ, zero, suc, ◌≤◌, ◌+◌, List, [], ◌∷◌, Bool, true, false, ◌&&◌, ◌||◌, not, Option, Some, None, option_and_then, refl, sym, ap, subst, ◌∙◌, true≢false, bytes_eq, arith}
use Rattle.std.specs.Prelude.{if◌then◌else◌, count_by}
use Rattle.std.specs.List.{list_all, list_any}
use Rattle.std.proofs.lemmas.List.Sums.{sum_by-cons}
use Rattle.std.proofs.lemmas.Slice.Eq.{bytes_eq-Decides}
use Rattle.json_value.specs.Value as value
use Rattle.json_value.specs.Value.{Value, Members, same, text, has_name}
use Rattle.schema_defs.specs.Texts.{Relations}
use Rattle.schema_defs.specs.Schema.{Schema, boolean, object, MaybeSchema, no_schema, the_schema, Document}
use Rattle.schema_defs.specs.Layer.{MemberPart, if_given, maybe, property_at, is_given}
use Rattle.schema_defs.specs.Admits.{admits, admits-level, parts_of, target, judge_within, follow, follows, allowed, member_parts}
use Rattle.enum_defs.specs.Words.{without_same, without_lists, without_named, is_unruled, is_name, props_of, required_of, names_of}
use Rattle.enum_defs.specs.Shapes.{ObjectShape, object_shape, constant_text, constant_in, constant_at, is_required, property_names}
use Rattle.enum_defs.specs.Kinds.{kinds}
use Rattle.enum_defs.specs.Exclusive.{is_disjoint, texts_differ, differ_by_text, requires_other, shapes_differ, reference_alone, or_stays, led_within, led, are_apart, exclusive}
use Rattle.enum_defs.specs.Laws.{ExclusiveIsSound}
use Rattle.enum_defs.proofs.Tests.{and_left, and_right, impossible, none-some, is_false, not_true}
use Rattle.enum_defs.proofs.Says.{says}
use Rattle.enum_defs.proofs.KindsKept.{kinds_are_sound, disjoint-apart}
use Rattle.enum_defs.proofs.Constants.{constant_texts_are_texts, same-text}
use Rattle.enum_defs.proofs.ObjectShapes.{given-name, bound_in, named_in, part, ShapeSays, shape-says, found}

-- ---- names

itself : (n : List ℕ) → bytes_eq n n ≡ true
itself n = (bytes_eq-Decides n n).1 refl

-- one of the names, of which both hold
any-of : (f g : List ℕ → Bool) (ns : List (List ℕ)) → list_all f ns ≡ true → list_any g ns ≡ true → (n : List ℕ) × (is_name n ns ≡ true) × (f n ≡ true) × (g n ≡ true)
any-of f g [] h k = impossible k
any-of f g (n ∷ ns) h k = by (g n) refl k (any-of f g ns (and_right (f n) _ h))
  where
    further : (a b : Bool) → b ≡ true → (a || b) ≡ true
    further true b h = refl
    further false b h = h

    by : (b : Bool) → g n ≡ b → (b || list_any g ns) ≡ true → (list_any g ns ≡ true → (m : List ℕ) × (is_name m ns ≡ true) × (f m ≡ true) × (g m ≡ true)) → (m : List ℕ) × (is_name m (n ∷ ns) ≡ true) × (f m ≡ true) × (g m ≡ true)
    by true e k r = (n, ap (λ b. b || is_name n ns) (itself n), and_left _ _ h, e)
    by false e k r = let z = r k in (z.0, further (bytes_eq z.0 n) (is_name z.0 ns) z.1, z.2, z.3)

-- ---- two object shapes

constant-there : (m : MaybeSchema) (s : List ℕ) → constant_in m ≡ Some s → (u : Schema) × (m ≡ the_schema u) × (constant_text u ≡ Some s)
constant-there no_schema s h = none-some s h
constant-there (the_schema u) s h = (u, refl, h)

differ-texts : (a b : Option (List ℕ)) → texts_differ a b ≡ true → (s : List ℕ) × (t : List ℕ) × (a ≡ Some s) × (b ≡ Some t) × (bytes_eq s t ≡ false)
differ-texts None b h = impossible h
differ-texts (Some s) None h = impossible h
differ-texts (Some s) (Some t) h = (s, t, refl, refl, not_true (bytes_eq s t) h)

module _ (r : Relations) (d : Document) where
  -- a required member is bound by its schema
  bound-text : (o : ObjectShape) (n s : List ℕ) (x : Value) → is_required n o ≡ true → constant_at n o ≡ Some s → bound_in o.object (part r d n x) ≡ true → same x (text s) ≡ true
  bound-text o n s x q c h =
      let p = constant-there (property_at n (props_of o.object)) s c in
      sym (constant_texts_are_texts r d x p.0 s p.2) ∙ ap (maybe (admits r d x)) (sym p.1) ∙ bound (part r d n x).as_absent (is_required n o) q (maybe (admits r d x) (property_at n (props_of o.object))) h
    where
      never : (a : Bool) → (a && not true) ≡ false
      never true = refl
      never false = refl

      bound : (a b : Bool) → b ≡ true → (m : Bool) → ((a && not b) || m) ≡ true → m ≡ true
      bound a b e m h = sym (ap (λ z. z || m) (ap (λ b. a && not b) e ∙ never a)) ∙ h

  module _ (ms : Members) where
    -- another name that a closed shape does not have
    other : (a b : ObjectShape) → ShapeSays r d a ms → ShapeSays r d b ms → requires_other a b ≡ true → ⊥
    other a b x y e =
        let n = any-of (λ n. has_name n ms) (λ n. not (is_name n (property_names b))) (required_of a.object) x.required (and_right b.closed _ e) in
        let z = found r d n.0 (named_in b.closed b.object) (named_in b.closed b.object) ms y.named y.named n.2 in
        let given = sym (ap (λ c. is_given (property_at n.0 (props_of b.object)) || not c) (and_left _ _ e) ∙ or-none (is_given (property_at n.0 (props_of b.object)))) ∙ z.1 in
        true≢false (sym (sym (given-name n.0 (props_of b.object)) ∙ given) ∙ not_true (is_name n.0 (property_names b)) n.3)
      where
        or-none : (c : Bool) → (c || not true) ≡ c
        or-none true = refl
        or-none false = refl

    texts : (a b : ObjectShape) → ShapeSays r d a ms → ShapeSays r d b ms → differ_by_text a b ≡ true → ⊥
    texts a b x y e =
        let n = any-of (λ n. has_name n ms) (λ n. is_required n b && texts_differ (constant_at n a) (constant_at n b)) (required_of a.object) x.required e in
        let t = differ-texts (constant_at n.0 a) (constant_at n.0 b) (and_right (is_required n.0 b) _ n.3) in
        let z = found r d n.0 (bound_in a.object) (bound_in b.object) ms x.bound y.bound n.2 in
        let one = bound-text a n.0 t.0 z.0 n.1 t.2 z.1 in
        let two = bound-text b n.0 t.1 z.0 (and_left _ _ n.3) t.3 z.2 in
        true≢false (sym (ap (λ y. same y (text t.1)) (sym (same-text z.0 t.0 one)) ∙ two) ∙ t.4)

    shapes-apart : (a b : ObjectShape) → ShapeSays r d a ms → ShapeSays r d b ms → (differ_by_text a b || requires_other a b || requires_other b a) ≡ true → ⊥
    shapes-apart a b x y h = by (differ_by_text a b) refl (requires_other a b) refl (requires_other b a) refl h
      where
        by : (p : Bool) → differ_by_text a b ≡ p → (q : Bool) → requires_other a b ≡ q → (s : Bool) → requires_other b a ≡ s → (p || q || s) ≡ true → ⊥
        by true e q g s k h = texts a b x y e
        by false e true g s k h = other a b x y g
        by false e false g true k h = other b a y x k
        by false e false g false k h = true≢false (sym h)

  -- ---- two schemas

  module _ (v : Value) where
    abbrev judged : ℕ → Schema → Bool
    judged k s = judge_within r d v (parts_of r d v) k s

    alone-is : (b : Bool) (o : Option (List ℕ)) (q : List ℕ) → (if b then o else None) ≡ Some q → o ≡ Some q
    alone-is true o q h = h
    alone-is false o q h = none-some q h

    reference-is : (k : ℕ) (s : Schema) (q : List ℕ) → reference_alone s ≡ Some q → judged k s ≡ true → follows r d v (parts_of r d v) k q ≡ true
    reference-is k (boolean b) q e h = none-some q e
    reference-is k (object p ss ls ns) q e h = ap (if_given (follows r d v (parts_of r d v) k)) (sym (alone-is _ p.reference q e)) ∙ (says r v (parts_of r d v) (follows r d v (parts_of r d v) k) p ss ls ns h).reference

    -- what is admitted is admitted where references alone lead
    led-judged : (n k : ℕ) (s : Schema) → judged k s ≡ true → (j : ℕ) × (judged j (led_within d n s) ≡ true)
    led-judged zero k s h = (k, h)
    led-judged (suc n) k s h = by (reference_alone s) refl (led-judged n)
      where
        stepped : (k : ℕ) (q : List ℕ) → follows r d v (parts_of r d v) k q ≡ true → ((k : ℕ) (s : Schema) → judged k s ≡ true → (j : ℕ) × (judged j (led_within d n s) ≡ true)) → (o : Option Schema) → target d q ≡ o → (j : ℕ) × (judged j (or_stays (led_within d n) s o) ≡ true)
        stepped zero q f rec o g = impossible f
        stepped (suc k) q f rec None g = impossible (sym (ap (follow (judged k)) g) ∙ f)
        stepped (suc k) q f rec (Some t) g = rec k t (sym (ap (follow (judged k)) g) ∙ f)

        by : (o : Option (List ℕ)) → reference_alone s ≡ o → ((k : ℕ) (s : Schema) → judged k s ≡ true → (j : ℕ) × (judged j (led_within d n s) ≡ true)) → (j : ℕ) × (judged j (or_stays (led_within d n) s (option_and_then (target d) o)) ≡ true)
        by None e rec = (k, h)
        by (Some q) e rec = stepped k q (reference-is k s q e h) rec (target d q) refl

    shape-led : (s : Schema) (o : ObjectShape) → object_shape (led d s) ≡ Some o → judged (allowed d) s ≡ true → (ms : Members) × (v ≡ value.object ms) × ShapeSays r d o ms
    shape-led s o e h = let z = led-judged (allowed d) (allowed d) s h in shape-says r d (led d s) o e z.0 v z.1

    level : (s : Schema) → admits r d v s ≡ true → judged (allowed d) s ≡ true
    level s h = sym (ap (λ j. j s) (admits-level r d v)) ∙ h

    apart : (a b : Schema) → are_apart d a b ≡ true → admits r d v a ≡ true → admits r d v b ≡ true → ⊥
    apart a b h x y = by (is_disjoint (kinds d a) (kinds d b)) refl h
      where
        members_of : Value → Members → Members
        members_of (value.object ms) ns = ms
        members_of _ ns = ns

        shapes : (p q : Option ObjectShape) → object_shape (led d a) ≡ p → object_shape (led d b) ≡ q → shapes_differ p q ≡ true → ⊥
        shapes None q f g h = true≢false (sym h)
        shapes (Some o) None f g h = true≢false (sym h)
        shapes (Some o) (Some u) f g h =
            let m = shape-led a o f (level a x) in
            let n = shape-led b u g (level b y) in
            shapes-apart m.0 o u m.2 (subst_says u n.0 m.0 (value_same n.0 m.0 (sym n.1 ∙ m.1)) n.2) h
          where
            value_same : (ns ms : Members) → value.object ns ≡ value.object ms → ns ≡ ms
            value_same ns ms e = ap (λ w. members_of w ns) e

            subst_says : (u : ObjectShape) (ns ms : Members) → ns ≡ ms → ShapeSays r d u ns → ShapeSays r d u ms
            subst_says u ns ms e s = subst (λ z. ShapeSays r d u z) e s

        by : (c : Bool) → is_disjoint (kinds d a) (kinds d b) ≡ c → (c || shapes_differ (object_shape (led d a)) (object_shape (led d b))) ≡ true → ⊥
        by true f h = disjoint-apart v (kinds d a) (kinds d b) f (kinds_are_sound r d v a x) (kinds_are_sound r d v b y)
        by false f h = shapes (object_shape (led d a)) (object_shape (led d b)) refl refl h

    -- ---- a list

    none-else : (s : Schema) → admits r d v s ≡ true → (ss : List Schema) → list_all (are_apart d s) ss ≡ true → count_by (admits r d v) ss ≡ 0
    none-else s h [] a = refl
    none-else s h (u ∷ us) a =
        let e = is_false (admits r d v u) (λ k. apart s u (and_left _ _ a) h k) in
        sum_by-cons (λ x. if admits r d v x then 1 else 0) u us ∙ (λ i. (if e i then 1 else 0) + none-else s h us (and_right (are_apart d s u) _ a) i)

    at-most-one : (ss : List Schema) → exclusive d ss ≡ true → count_by (admits r d v) ss ≤ 1
    at-most-one [] x = omega arith
    at-most-one (s ∷ ss) x = by (admits r d v s) refl (at-most-one ss (and_right (list_all (are_apart d s) ss) _ x)) (sum_by-cons (λ x. if admits r d v x then 1 else 0) s ss)
      where
        by : (b : Bool) → admits r d v s ≡ b → count_by (admits r d v) ss ≤ 1 → count_by (admits r d v) (s ∷ ss) ≡ (if admits r d v s then 1 else 0) + count_by (admits r d v) ss → count_by (admits r d v) (s ∷ ss) ≤ 1
        by true e h k = let n = none-else s e ss (and_left _ _ x) in let m = k ∙ ap (λ b. (if b then 1 else 0) + count_by (admits r d v) ss) e in omega arith
        by false e h k = let m = k ∙ ap (λ b. (if b then 1 else 0) + count_by (admits r d v) ss) e in omega arith

pub exclusive_is_sound : ExclusiveIsSound
exclusive_is_sound r d v ss h = at-most-one r d v ss h
