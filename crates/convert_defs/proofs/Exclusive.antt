-- Members that are exclusive: no two admit one value.
use Rattle.schema_defs.specs.declared.Setting.{Setting}
use Rattle.schema_defs.specs.Layer.{MemberPart as SchemaMember, is_passed_over}
use Rattle.std.proofs.Common.{◌≡◌, ℕ, zero, suc, List, [], ◌∷◌, Bool, true, false, ◌&&◌, ◌||◌, not, Option, Some, None, option_map, option_and_then, refl, sym, ap, ◌∙◌, true≢false, bytes_eq}
use Rattle.std.specs.Prelude.{if◌then◌else◌, ◌==◌}
use Rattle.std.specs.List.{list_all, list_any}
use Rattle.std.proofs.lemmas.Slice.Eq.{bytes_eq-Decides}
use Rattle.json_value.specs.Value.{Value, same, text, has_name}
use Rattle.schema_defs.specs.Location.{Step}
use Rattle.schema_defs.specs.Texts.{Relations}
use Rattle.schema_defs.specs.Schema.{Schema, boolean, object, MaybeSchema, no_schema, the_schema, Schemas, no_more, schema, Document}
use Rattle.schema_defs.specs.Layer.{Parts, judge_any, judge_count, if_given, maybe, property_at, is_given}
use Rattle.schema_defs.specs.Admits.{target, judge_within, follow, follows, allowed}
use Rattle.model_defs.specs.Layer as model
use Rattle.entry_defs.specs.Entry.{Entry}
use Rattle.entry_defs.specs.Layer as entry
use Rattle.convert_defs.specs.Row.{Way}
use Rattle.enum_defs.specs.Words.{is_name, required_of}
use Rattle.convert_defs.proofs.PlacedShapes.{ObjectShape, constant_at}
use Rattle.convert_defs.proofs.SameShapes.{placed, shape-same}
use Rattle.convert_defs.specs.Shapes.{members_from, schemas_of}
use Rattle.enum_defs.specs.Shapes as shape
use Rattle.enum_defs.specs.Shapes.{constant_text, constant_in, is_required, property_names}
use Rattle.enum_defs.specs.Exclusive.{is_disjoint, texts_differ, differ_by_text, requires_other, shapes_differ, reference_alone, or_stays, led_within, led, are_apart, exclusive}
use Rattle.enum_defs.specs.Kinds.{has_kind, kinds_at, kinds_referred, kinds, null_free}
use Rattle.enum_defs.proofs.KindsKept.{disjoint-apart}
use Rattle.convert_defs.proofs.Bare.{and_left, and_right, impossible, none-some}
use Rattle.convert_defs.proofs.Views.{View, of_null, of_boolean, of_number, of_text, of_list, of_object}
use Rattle.enum_defs.proofs.Says.{says}
use Rattle.convert_defs.proofs.Constants.{text-only}
use Rattle.convert_defs.proofs.KindsKept.{further, has-kinds, null-has}
use Rattle.convert_defs.proofs.ObjectShapes.{shape_member, shape_judge, shape-judged, found, given-name, passed-required}

-- one of the names, of which both hold
any-of : (f g : List ℕ → Bool) (ns : List (List ℕ)) → list_all f ns ≡ true → list_any g ns ≡ true → (n : List ℕ) × (is_name n ns ≡ true) × (f n ≡ true) × (g n ≡ true)
any-of f g [] h k = impossible k
any-of f g (n ∷ ns) h k = by (g n) refl k (any-of f g ns (and_right (f n) _ h))
  where
    later : (a b : Bool) → b ≡ true → (a || b) ≡ true
    later true b h = refl
    later false b h = h

    by : (b : Bool) → g n ≡ b → (b || list_any g ns) ≡ true → (list_any g ns ≡ true → (m : List ℕ) × (is_name m ns ≡ true) × (f m ≡ true) × (g m ≡ true)) → (m : List ℕ) × (is_name m (n ∷ ns) ≡ true) × (f m ≡ true) × (g m ≡ true)
    by true e k r = (n, ap (λ b. b || is_name n ns) ((bytes_eq-Decides n n).1 refl), and_left _ _ h, e)
    by false e k r = let z = r k in (z.0, later (bytes_eq z.0 n) (is_name z.0 ns) z.1, z.2, z.3)

constant-there : (m : MaybeSchema) (s : List ℕ) → constant_in m ≡ Some s → (u : Schema) × (m ≡ the_schema u) × (constant_text u ≡ Some s)
constant-there no_schema s h = none-some s h
constant-there (the_schema u) s h = (u, refl, h)

differ-texts : (a b : Option (List ℕ)) → texts_differ a b ≡ true → (s : List ℕ) × (t : List ℕ) × (a ≡ Some s) × (b ≡ Some t) × (bytes_eq s t ≡ false)
differ-texts None b h = impossible h
differ-texts (Some s) None h = impossible h
differ-texts (Some s) (Some t) h = (s, t, refl, refl, by (bytes_eq s t) h)
  where
    by : (b : Bool) → not b ≡ true → b ≡ false
    by true h = impossible h
    by false h = refl

text-of-both : (x : Value) (s t : List ℕ) → same x (text s) ≡ true → same x (text t) ≡ true → bytes_eq s t ≡ true
text-of-both x s t h k = ap (λ y. same y (text t)) (sym (text-only x s h)) ∙ k

module _ (way : Way) (st : Setting) (R : Schema → Entry → Type 0) (r : Relations) where
  -- the member is one text by the shape
  shape-text : (o : ObjectShape) (n : List ℕ) (s : List ℕ) (at : SchemaMember) (x : Value) → at.name ≡ n → is_name n o.required_names ≡ true → constant_at n o ≡ Some s → shape_member o at ≡ true → ((u : Schema) (t : List ℕ) → constant_text u ≡ Some t → at.says u ≡ same x (text t)) → same x (text s) ≡ true
  shape-text o n s at x e g c h f =
      let p = constant-there (property_at n o.props) s c in
      sym (f p.0 s p.2) ∙ ap (maybe at.says) (sym p.1) ∙ ap (λ m. maybe at.says (property_at m o.props)) (sym e)
      ∙ ap (λ b. b || maybe at.says (property_at at.name o.props)) (sym (passed-required o.required_names at (ap (λ m. is_name m o.required_names) e ∙ g))) ∙ and_left _ _ h

  -- as the proofs take it apart
  abbrev at : shape.ObjectShape → ObjectShape
  at o = placed [] o

  module _ (a b : shape.ObjectShape) where
    shapes-apart : (v : Value) (ps : Parts) (es : model.Parts entry.Judge) → View way st R r v ps es → shape_judge (at a) v ps ≡ true → shape_judge (at b) v ps ≡ true → (differ_by_text a b || requires_other a b || requires_other b a) ≡ true → ⊥
    shapes-apart _ _ _ (of_null ps) x y h = true≢false (sym x)
    shapes-apart _ _ _ (of_boolean c ps) x y h = true≢false (sym x)
    shapes-apart _ _ _ (of_number z ps f) x y h = true≢false (sym x)
    shapes-apart _ _ _ (of_text s ps) x y h = true≢false (sym x)
    shapes-apart _ _ _ (of_list xs ps ks f) x y h = true≢false (sym x)
    shapes-apart _ _ _ (of_object ms ps ks f am) x y h = by (differ_by_text a b) refl (requires_other a b) refl (requires_other b a) refl h
      where
        -- another name that a closed shape doesn't have
        other : (o u : shape.ObjectShape) → list_all (shape_member (at o)) ps.members ≡ true → list_all (shape_member (at u)) ps.members ≡ true → list_all (λ n. has_name n ms) (required_of o.object) ≡ true → requires_other o u ≡ true → ⊥
        other o u p q g e =
            let n = any-of (λ n. has_name n ms) (λ n. not (is_name n (property_names u))) (required_of o.object) g (and_right u.closed _ e) in
            let z = found way st R r n.0 (shape_member (at o)) (shape_member (at u)) ps.name ms ps.members ks f am.1.0 p q n.2 in
            let allowed_there = and_right (is_passed_over (required_of u.object) z.at || maybe z.at.says (property_at z.at.name (at u).props)) _ z.second in
            let given = sym (ap (λ c. is_given (property_at z.at.name (at u).props) || not c) (and_left _ _ e) ∙ or-none (is_given (property_at z.at.name (at u).props))) ∙ allowed_there in
            true≢false (sym (sym (given-name n.0 (at u).props) ∙ ap (λ m. is_given (property_at m (at u).props)) (sym z.same_name) ∙ given) ∙ not-there (is_name n.0 (property_names u)) n.3)
          where
            or-none : (c : Bool) → (c || not true) ≡ c
            or-none true = refl
            or-none false = refl

            not-there : (c : Bool) → not c ≡ true → c ≡ false
            not-there true e = impossible e
            not-there false e = refl

        texts : differ_by_text a b ≡ true → ⊥
        texts e =
            let n = any-of (λ n. has_name n ms) (λ n. is_required n b && texts_differ (shape.constant_at n a) (shape.constant_at n b)) (required_of a.object) (and_right (list_all (shape_member (at a)) ps.members) _ x) e in
            let t = differ-texts (shape.constant_at n.0 a) (shape.constant_at n.0 b) (and_right (is_required n.0 b) _ n.3) in
            let z = found way st R r n.0 (shape_member (at a)) (shape_member (at b)) ps.name ms ps.members ks f am.1.0 (and_left _ _ x) (and_left _ _ y) n.2 in
            let one = shape-text (at a) n.0 t.0 z.at z.is_of z.same_name n.1 t.2 z.first z.constants in
            let two = shape-text (at b) n.0 t.1 z.at z.is_of z.same_name (and_left _ _ n.3) t.3 z.second z.constants in
            true≢false (sym (text-of-both z.is_of t.0 t.1 one two) ∙ t.4)

        by : (p : Bool) → differ_by_text a b ≡ p → (q : Bool) → requires_other a b ≡ q → (s : Bool) → requires_other b a ≡ s → (p || q || s) ≡ true → ⊥
        by true e q g s k h = texts e
        by false e true g s k h = other a b (and_left _ _ x) (and_left _ _ y) (and_right (list_all (shape_member (at a)) ps.members) _ x) g
        by false e false g true k h = other b a (and_left _ _ y) (and_left _ _ x) (and_right (list_all (shape_member (at b)) ps.members) _ y) k
        by false e false g false k h = true≢false (sym h)

  module _ (d : Document) (v : Value) (ps : Parts) (es : model.Parts entry.Judge) (w : View way st R r v ps es) where
    alone-is : (b : Bool) (o : Option (List ℕ)) (q : List ℕ) → (if b then o else None) ≡ Some q → o ≡ Some q
    alone-is true o q h = h
    alone-is false o q h = none-some q h

    reference-is : (k : ℕ) (s : Schema) (q : List ℕ) → reference_alone s ≡ Some q → judge_within r d v ps k s ≡ true → follows r d v ps k q ≡ true
    reference-is k (boolean b) q e h = none-some q e
    reference-is k (object p ss ls ns) q e h = ap (if_given (follows r d v ps k)) (sym (alone-is _ p.reference q e)) ∙ (says r v ps (follows r d v ps k) p ss ls ns h).reference

    -- what is admitted is admitted where references alone lead
    led-judged : (n k : ℕ) (s : Schema) → judge_within r d v ps k s ≡ true → (j : ℕ) × (judge_within r d v ps j (led_within d n s) ≡ true)
    led-judged zero k s h = (k, h)
    led-judged (suc n) k s h = by (reference_alone s) refl (led-judged n)
      where
        stepped : (k : ℕ) (q : List ℕ) → follows r d v ps k q ≡ true → ((k : ℕ) (s : Schema) → judge_within r d v ps k s ≡ true → (j : ℕ) × (judge_within r d v ps j (led_within d n s) ≡ true)) → (o : Option Schema) → target d q ≡ o → (j : ℕ) × (judge_within r d v ps j (or_stays (led_within d n) s o) ≡ true)
        stepped zero q f rec o g = impossible f
        stepped (suc k) q f rec None g = impossible (sym (ap (follow (judge_within r d v ps k)) g) ∙ f)
        stepped (suc k) q f rec (Some t) g = rec k t (sym (ap (follow (judge_within r d v ps k)) g) ∙ f)

        by : (o : Option (List ℕ)) → reference_alone s ≡ o → ((k : ℕ) (s : Schema) → judge_within r d v ps k s ≡ true → (j : ℕ) × (judge_within r d v ps j (led_within d n s) ≡ true)) → (j : ℕ) × (judge_within r d v ps j (or_stays (led_within d n) s (option_and_then (target d) o)) ≡ true)
        by None e rec = (k, h)
        by (Some q) e rec = stepped k q (reference-is k s q e h) rec (target d q) refl

    shape-led : (k : ℕ) (s : Schema) (o : shape.ObjectShape) → shape.object_shape (led d s) ≡ Some o → judge_within r d v ps k s ≡ true → shape_judge (at o) v ps ≡ true
    shape-led k s o e h =
        let z = led-judged (allowed d) k s h in
        sym (shape-judged way st R r ([], led d s) (at o) (shape-same [] (led d s) ∙ ap (option_map (placed [])) e) v ps es w (follows r d v ps z.0)) ∙ z.1

    module _ (k e : ℕ) (last : further k e ≡ allowed d) where
      kind-of : (s : Schema) → judge_within r d v ps k s ≡ true → has_kind v (kinds d s) ≡ true
      kind-of s h = ap (λ n. has_kind v (kinds_at (kinds_referred d n) s)) (sym last) ∙ has-kinds r d v ps k e s h

      pub null-free-says : (s : Schema) → null_free d s ≡ true → judge_within r d v ps k s ≡ true → model.is_null v ≡ false
      null-free-says s f h = by (model.is_null v) refl
        where
          by : (b : Bool) → model.is_null v ≡ b → b ≡ false
          by true z = absurd (true≢false (sym f ∙ ap not (sym (null-has v (kinds d s) z) ∙ kind-of s h)))
          by false z = refl

      apart : (a b : Schema) → are_apart d a b ≡ true → judge_within r d v ps k a ≡ true → judge_within r d v ps k b ≡ true → ⊥
      apart a b h x y = by (is_disjoint (kinds d a) (kinds d b)) refl h
        where
          shapes : (p q : Option shape.ObjectShape) → shape.object_shape (led d a) ≡ p → shape.object_shape (led d b) ≡ q → shapes_differ p q ≡ true → ⊥
          shapes None q f g h = true≢false (sym h)
          shapes (Some o) None f g h = true≢false (sym h)
          shapes (Some o) (Some u) f g h = shapes-apart o u v ps es w (shape-led k a o f x) (shape-led k b u g y) h

          by : (c : Bool) → is_disjoint (kinds d a) (kinds d b) ≡ c → (c || shapes_differ (shape.object_shape (led d a)) (shape.object_shape (led d b))) ≡ true → ⊥
          by true f h = disjoint-apart v (kinds d a) (kinds d b) f (kind-of a x) (kind-of b y)
          by false f h = shapes (shape.object_shape (led d a)) (shape.object_shape (led d b)) refl refl h

      none-else : (m : Schema) → judge_within r d v ps k m ≡ true → (st : Step) (i : ℕ) (us : Schemas) → list_all (are_apart d m) (schemas_of (members_from st i us)) ≡ true → judge_count r v ps (follows r d v ps k) us ≡ 0
      none-else m h st i no_more a = refl
      none-else m h st i (schema s ss) a = by (judge_within r d v ps k s) refl (none-else m h st (suc i) ss (and_right (are_apart d m s) _ a))
        where
          by : (b : Bool) → judge_within r d v ps k s ≡ b → judge_count r v ps (follows r d v ps k) ss ≡ 0 → (if b then suc (judge_count r v ps (follows r d v ps k) ss) else judge_count r v ps (follows r d v ps k) ss) ≡ 0
          by true e g = absurd (apart m s (and_left _ _ a) h e)
          by false e g = g

      pub exclusive-says : (st : Step) (i : ℕ) (us : Schemas) → exclusive d (schemas_of (members_from st i us)) ≡ true → judge_any r v ps (follows r d v ps k) us ≡ true → (judge_count r v ps (follows r d v ps k) us == 1) ≡ true
      exclusive-says st i no_more x h = impossible h
      exclusive-says st i (schema s ss) x h = by (judge_within r d v ps k s) refl h (exclusive-says st (suc i) ss (and_right (list_all (are_apart d s) (schemas_of (members_from st (suc i) ss))) _ x))
        where
          by : (b : Bool) → judge_within r d v ps k s ≡ b → (b || judge_any r v ps (follows r d v ps k) ss) ≡ true → (judge_any r v ps (follows r d v ps k) ss ≡ true → (judge_count r v ps (follows r d v ps k) ss == 1) ≡ true)
              → ((if b then suc (judge_count r v ps (follows r d v ps k) ss) else judge_count r v ps (follows r d v ps k) ss) == 1) ≡ true
          by true e h rec = ap (λ n. suc n == 1) (none-else s e st (suc i) ss (and_left _ _ x))
          by false e h rec = rec h
