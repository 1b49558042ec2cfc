-- What null schemas and constant texts say.
use Rattle.std.proofs.Common.{◌≡◌, ℕ, List, [], ◌∷◌, Bool, true, false, ◌&&◌, ◌||◌, Option, Some, None, is_none, refl, sym, ap, ◌∙◌, true≢false, bytes_eq}
use Rattle.std.specs.Prelude.{if◌then◌else◌}
use Rattle.std.specs.List.{list_any, list_all}
use Rattle.std.proofs.lemmas.Slice.Eq.{bytes_eq-Decides}
use Rattle.json_value.specs.Value as value
use Rattle.json_value.specs.Value.{Value, same, null, number, fraction, text, list}
use Rattle.schema_defs.specs.declared.InstanceType.{InstanceType}
use Rattle.schema_defs.specs.declared.InstanceType.TheVariants.{Null, Boolean, Object, Array, Number, Text, Integer}
use Rattle.schema_defs.specs.Texts.{Relations}
use Rattle.schema_defs.specs.Schema.{Types, one_type, many_types, Plain, Schema, boolean, object, Same, no_same, same_value, Lists, no_lists, lists, Named, no_named, named, Document}
use Rattle.schema_defs.specs.Layer.{Parts, judge, judge_same, if_given, types_agree, is_listed, is_kind, of_kind_agrees, parts_agree}
use Rattle.schema_defs.specs.Admits.{admits, admits-level, allowed, follows, parts_of}
use Rattle.enum_defs.specs.Words.{same_type, has_type, without_same, without_lists, without_named, is_unruled, is_null, as_text}
use Rattle.enum_defs.specs.Shapes.{null_by, is_null_schema, text_by, may_be_text, constant_text}
use Rattle.enum_defs.specs.Laws.{NullSchemasAreNull, ConstantTextsAreTexts}
use Rattle.enum_defs.proofs.Tests.{and_left, and_right, impossible, is_false, none-some, some-same}
use Rattle.enum_defs.proofs.Says.{says, said}

-- ---- keywords that do not stand

pub none-agrees : {A : Type 0} (f : A → Bool) (o : Option A) → is_none o ≡ true → if_given f o ≡ true
none-agrees f None h = refl
none-agrees f (Some x) h = impossible h

pub same_type-eq : (k l : InstanceType) → same_type k l ≡ true → l ≡ k
same_type-eq Null Null h = refl
same_type-eq Boolean Boolean h = refl
same_type-eq Object Object h = refl
same_type-eq Array Array h = refl
same_type-eq Number Number h = refl
same_type-eq Text Text h = refl
same_type-eq Integer Integer h = refl
same_type-eq _ _ h = impossible h

pub has_type-is : (k : InstanceType) (o : Option Types) → has_type k o ≡ true → o ≡ Some (one_type k)
has_type-is k None h = impossible h
has_type-is k (Some (one_type l)) h = ap (λ x. Some (one_type x)) (same_type-eq k l h)
has_type-is k (Some (many_types ls)) h = impossible h

-- ---- null

null-kind : (v : Value) → is_kind v Null ≡ true → v ≡ null
null-kind null h = refl
null-kind (value.boolean b) h = impossible h
null-kind (number z) h = impossible h
null-kind fraction h = impossible h
null-kind (text s) h = impossible h
null-kind (list xs) h = impossible h
null-kind (value.object ms) h = impossible h

null-is : (w : Value) → is_null w ≡ true → w ≡ null
null-is null h = refl
null-is (value.boolean b) h = impossible h
null-is (number z) h = impossible h
null-is fraction h = impossible h
null-is (text s) h = impossible h
null-is (list xs) h = impossible h
null-is (value.object ms) h = impossible h

same-null : (v : Value) → same v null ≡ true → v ≡ null
same-null null h = refl
same-null (value.boolean b) h = impossible h
same-null (number z) h = impossible h
same-null fraction h = impossible h
same-null (text s) h = impossible h
same-null (list xs) h = impossible h
same-null (value.object ms) h = impossible h

null-same : (v w : Value) → is_null w ≡ true → same v w ≡ true → v ≡ null
null-same v w h k = same-null v (ap (same v) (sym (null-is w h)) ∙ k)

null-types : (v : Value) (ks : List InstanceType) → list_all (same_type Null) ks ≡ true → list_any (is_kind v) ks ≡ true → v ≡ null
null-types v [] h k = impossible k
null-types v (j ∷ ks) h k = by (is_kind v j) refl k (null-types v ks (and_right (same_type Null j) _ h))
  where
    by : (b : Bool) → is_kind v j ≡ b → (b || list_any (is_kind v) ks) ≡ true → (list_any (is_kind v) ks ≡ true → v ≡ null) → v ≡ null
    by true e k rec = null-kind v (ap (is_kind v) (sym (same_type-eq Null j (and_left _ _ h))) ∙ e)
    by false e k rec = rec k

null-listed : (v : Value) (ws : List Value) → list_all is_null ws ≡ true → list_any (same v) ws ≡ true → v ≡ null
null-listed v [] h k = impossible k
null-listed v (w ∷ ws) h k = by (same v w) refl k (null-listed v ws (and_right (is_null w) _ h))
  where
    by : (b : Bool) → same v w ≡ b → (b || list_any (same v) ws) ≡ true → (list_any (same v) ws ≡ true → v ≡ null) → v ≡ null
    by true e k rec = null-same v w (and_left _ _ h) e
    by false e k rec = rec k

null-by : (v : Value) (t : Option Types) (c : Option Value) (e : Option (List Value)) → null_by t c e ≡ true → if_given (types_agree v) t ≡ true → if_given (is_listed v) e ≡ true → if_given (same v) c ≡ true → v ≡ null
null-by v (Some (one_type k)) c e h x y z = null-kind v (ap (is_kind v) (sym (same_type-eq Null k h)) ∙ x)
null-by v (Some (many_types ks)) c e h x y z = null-types v ks h x
null-by v None (Some w) e h x y z = null-same v w h z
null-by v None None (Some ws) h x y z = null-listed v ws h y
null-by v None None None h x y z = impossible h

null-judged : (r : Relations) (v : Value) (ps : Parts) (fol : List ℕ → Bool) (s : Schema) → is_null_schema s ≡ true → judge r v ps fol s ≡ true → v ≡ null
null-judged r v ps fol (boolean b) h k = impossible h
null-judged r v ps fol (object p ss ls ns) h k = let f = says r v ps fol p ss ls ns k in null-by v p.types p.const_value p.enum_values h f.types f.listed f.constant

pub null_schemas_are_null : NullSchemasAreNull
null_schemas_are_null r d v s h k = null-judged r v (parts_of r d v) (follows r d v (parts_of r d v) (allowed d)) s h (sym (ap (λ j. j s) (admits-level r d v)) ∙ k)

-- ---- constant texts

text-is : (w : Value) (t : List ℕ) → as_text w ≡ Some t → w ≡ text t
text-is null t h = none-some t h
text-is (value.boolean b) t h = none-some t h
text-is (number z) t h = none-some t h
text-is fraction t h = none-some t h
text-is (text s) t h = ap text (some-same s t h)
text-is (list xs) t h = none-some t h
text-is (value.object ms) t h = none-some t h

pub same-text : (v : Value) (t : List ℕ) → same v (text t) ≡ true → v ≡ text t
same-text null t h = impossible h
same-text (value.boolean b) t h = impossible h
same-text (number z) t h = impossible h
same-text fraction t h = impossible h
same-text (text s) t h = ap text ((bytes_eq-Decides s t).0 h)
same-text (list xs) t h = impossible h
same-text (value.object ms) t h = impossible h

or-none : (b : Bool) → (b || false) ≡ b
or-none true = refl
or-none false = refl

-- `const` and `enum` together say that the value is the text
text-by : (v : Value) (c : Option Value) (e : Option (List Value)) (t : List ℕ) → text_by c e ≡ Some t → (if_given (is_listed v) e && if_given (same v) c) ≡ same v (text t)
text-by v (Some w) None t h = ap (same v) (text-is w t h)
text-by v None (Some (w ∷ [])) t h = ap (λ b. b && true) (or-none (same v w)) ∙ and-all (same v w) ∙ ap (same v) (text-is w t h)
  where
    and-all : (b : Bool) → (b && true) ≡ b
    and-all true = refl
    and-all false = refl
text-by v _ _ t h = none-some t h

text-types : (o : Option Types) (t : List ℕ) → may_be_text o ≡ true → if_given (types_agree (text t)) o ≡ true
text-types None t h = refl
text-types (Some (one_type k)) t h = ap (is_kind (text t)) (same_type-eq Text k h)
text-types (Some (many_types ks)) t h = impossible h

no-same : (r : Relations) (v : Value) (ps : Parts) (fol : List ℕ → Bool) (ss : Same) → without_same ss ≡ true → judge_same r v ps fol ss ≡ true
no-same r v ps fol no_same h = refl
no-same r v ps fol (same_value all any one none conditional) h = impossible h

text-quiet : (r : Relations) (p : Plain) (t : List ℕ) → is_unruled p ≡ true → of_kind_agrees r p (text t) ≡ true
text-quiet r p t h =
    let a = none-agrees (λ x. _) p.texts (and_right (is_none p.format && is_none p.numbers) _ h) in
    let b = none-agrees (λ f. _) p.format (and_left _ _ (and_left (is_none p.format && is_none p.numbers) _ h)) in
    λ i. a i && b i

module _ (r : Relations) (v : Value) (ps : Parts) (fol : List ℕ → Bool) where
  text-judged : (s : Schema) (t : List ℕ) → constant_text s ≡ Some t → judge r v ps fol s ≡ same v (text t)
  text-judged (boolean b) t h = none-some t h
  text-judged (object p ss ls ns) t h = by (may_be_text p.types && is_unruled p && is_none p.reference && without_same ss && without_lists ls && without_named ns) refl h
    where
      by : (b : Bool) → (may_be_text p.types && is_unruled p && is_none p.reference && without_same ss && without_lists ls && without_named ns) ≡ b → (if b then text_by p.const_value p.enum_values else None) ≡ Some t → judge r v ps fol (object p ss ls ns) ≡ same v (text t)
      by false e g = none-some t g
      by true e g = same_bools _ (same v (text t)) forth back
        where
          same_bools : (a b : Bool) → (a ≡ true → b ≡ true) → (b ≡ true → a ≡ true) → a ≡ b
          same_bools true b f g = sym (f refl)
          same_bools false true f g = g refl
          same_bools false false f g = refl

          five : (may_be_text p.types && is_unruled p && is_none p.reference && without_same ss && without_lists ls) ≡ true
          five = and_left _ (without_named ns) e

          four : (may_be_text p.types && is_unruled p && is_none p.reference && without_same ss) ≡ true
          four = and_left _ (without_lists ls) five

          three : (may_be_text p.types && is_unruled p && is_none p.reference) ≡ true
          three = and_left _ (without_same ss) four

          two : (may_be_text p.types && is_unruled p) ≡ true
          two = and_left _ (is_none p.reference) three

          forth : judge r v ps fol (object p ss ls ns) ≡ true → same v (text t) ≡ true
          forth k = let f = says r v ps fol p ss ls ns k in sym (text-by v p.const_value p.enum_values t g) ∙ (λ i. f.listed i && f.constant i)

          back : same v (text t) ≡ true → judge r v ps fol (object p ss ls ns) ≡ true
          back k =
              let z = same-text v t k in
              let w = text-by v p.const_value p.enum_values t g ∙ k in
              said r v ps fol p ss ls ns (record {
                types = ap (λ x. if_given (types_agree x) p.types) z ∙ text-types p.types t (and_left _ _ two);
                listed = and_left _ _ w;
                constant = and_right (if_given (is_listed v) p.enum_values) _ w;
                kind = ap (of_kind_agrees r p) z ∙ text-quiet r p t (and_right (may_be_text p.types) _ two);
                reference = none-agrees fol p.reference (and_right (may_be_text p.types && is_unruled p) _ three);
                parts = ap (λ x. parts_agree r x ps ls ns) z;
                subschemas = no-same r v ps fol ss (and_right (may_be_text p.types && is_unruled p && is_none p.reference) _ four);
              })

pub constant_texts_are_texts : ConstantTextsAreTexts
constant_texts_are_texts r d v s t h = ap (λ j. j s) (admits-level r d v) ∙ text-judged r v (parts_of r d v) (follows r d v (parts_of r d v) (allowed d)) s t h
