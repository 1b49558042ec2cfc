-- Enums: what is read of the variants that are written is what is found of the variants of the entry.
use Rattle.std.proofs.Common.{◌≡◌, ℕ, suc, List, [], ◌∷◌, Bool, true, false, ◌||◌, not, cond, refl, sym, ap, ◌∙◌, Option, Some, None, inl, inr, bytes_eq}
use Rattle.json_value.specs.Value as value
use Rattle.json_value.specs.Value.{Value, null, number, fraction, text, list, object, member_at}
use Rattle.model_defs.specs.Types.{TypeModel, types_of}
use Rattle.model_defs.specs.Model.{VariantModel}
use Rattle.model_defs.specs.Layer.{MemberPart, Parts, object_parts, places, fields_content, is_none, named, without}
use Rattle.model_defs.specs.Refusals.{tag_value}
use Rattle.typed_defs.specs.Typed.{Typed}
use Rattle.reading_defs.specs.Reading as reading
use Rattle.reading_defs.specs.Reading.{Read, stopped, under, read_map, of_name, after_tag, unit_named, content_beside}
use Rattle.entry_defs.specs.Entry.{Target, Entry, unit_entry, Shape, no_fields, Variants, no_variants, variant_then, Contents, unit_contents, newtype_contents, tuple_contents, struct_contents, VariantEntry, variants_of}
use Rattle.entry_defs.specs.Layer as entry_layer
use Rattle.entry_defs.specs.Layer.{variant_named, tagged_variant, is_unit, is_unit_named, contents_entry}
use Rattle.entry_defs.specs.Sound.{Each, EachVariant, EachInContents}
use Rattle.emit_defs.specs.Setting.{Setting}
use Rattle.emit_defs.specs.Models.{unboxed, type_model, type_models, contents_style, contents_models, variant_model, variant_models, after_contents}
use Rattle.emit_defs.proofs.Enum.{types_back}
use Rattle.default_defs.specs.Found.{Found, refused, if_so, told}
use Rattle.default_defs.specs.Layer.{Reader, contents_read, external_read, beside_tag, internal_read, beside_content, adjacent_read}
use Rattle.default_defs.proofs.Alike as alike
use Rattle.default_laws.specs.Laws.{as_found}
use Rattle.default_laws.proofs.AsFound.{of_map, of_under}
use Rattle.default_laws.proofs.Says.{ContentsAreRead, VariantsAreRead, Says, IsName, MembersSay, PartsSay}
use Rattle.default_laws.proofs.Structs.{members}

module _ (s : Setting) (missed : Entry → Value → Found) (default_read : ℕ → TypeModel → Read Typed) (P : List ℕ → Shape → Type 0) (Q : Target → Type 0)
    (absent_of : TypeModel → Option Typed) (lacks : (b : List ℕ → Bool) (e : Entry) → Each P Q e → s.leads e ≡ false → absent_of (type_model s.name b e) ≡ None) (owner : List ℕ) where
  abbrev Key : Reader → reading.Reader → Type 0
  Key j k = IsName s missed default_read P Q j k

  abbrev Part : Reader → reading.Reader → Type 0
  Part j k = Says s missed default_read P Q j k

  abbrev Members : List (MemberPart Reader) → List (MemberPart reading.Reader) → Type 0
  Members js ks = MembersSay s missed default_read P Q js ks

  abbrev All : Parts Reader → Parts reading.Reader → Type 0
  All ps qs = PartsSay s missed default_read P Q ps qs

  abbrev OfContents : ℕ → Contents → Type 0
  OfContents n c = ContentsAreRead s missed default_read owner n c

  abbrev OfVariants : ℕ → Variants → Type 0
  OfVariants n ws = VariantsAreRead s missed default_read owner n (variants_of ws)

  abbrev model : ℕ → VariantEntry → VariantModel
  model n w = variant_model s owner n w

  abbrev all_models : ℕ → Variants → List VariantModel
  all_models n ws = variant_models s owner n (variants_of ws)

  -- ---- a variant by its name

  -- `g` reads each variant as F finds it
  abbrev Reads : (Option VariantEntry → Found) → (ℕ → VariantModel → Read Typed) → Type 0
  Reads F g = (i n : ℕ) (w : VariantEntry) → EachInContents P Q w.contents → OfContents n w.contents → as_found (g i (model n w)) ≡ F (Some w)

  by_name : (F : Option VariantEntry → Found) (g : ℕ → VariantModel → Read Typed) (missing : Read Typed) → as_found missing ≡ F None → Reads F g
      → (i n : ℕ) (ws : Variants) → EachVariant P Q ws → OfVariants n ws → (k : List ℕ) → as_found (of_name g missing i (all_models n ws) k) ≡ F (variant_named k (variants_of ws))
  by_name F g missing e h i n no_variants x st k = e
  by_name F g missing e h i n (variant_then a l c ws) x st k =
      let w : VariantEntry = record { identifier = a; name = l; contents = c } in
      let rec = by_name F g missing e h (suc i) (after_contents c n) ws x.1 (λ m b v ty z. st m b v ty (inr z)) k in
      elim (bytes_eq k l) as (λ b. as_found (cond (b || false) (g i (model n w)) (of_name g missing (suc i) (all_models (after_contents c n) ws) k)) ≡ F (cond b (Some w) (variant_named k (variants_of ws)))) [
        | true ↦ h i n w x.0 (λ m b v ty z. st m b v ty (inl z))
        | false ↦ rec
      ]

  by_tag : (F : Option VariantEntry → Found) (g : ℕ → VariantModel → Read Typed) → refused ≡ F None → Reads F g → (tag : List ℕ) (n : ℕ) (ws : Variants) → EachVariant P Q ws → OfVariants n ws
      → (v : Value) → as_found (after_tag tag (all_models n ws) g (tag_value tag v)) ≡ F (tagged_variant tag (variants_of ws) v)
  by_tag F g e h tag n ws x st v = of v
    where
      of_member : (o : Option Value) → as_found (after_tag tag (all_models n ws) g o) ≡ F (entry_layer.variant_of_text (variants_of ws) o)
      of_member None = e
      of_member (Some (text k)) = by_name F g (stopped (tag ∷ [])) e h 0 n ws x st k
      of_member (Some _) = e

      of : (u : Value) → as_found (after_tag tag (all_models n ws) g (tag_value tag u)) ≡ F (tagged_variant tag (variants_of ws) u)
      of (object ms) = of_member (member_at tag ms)
      of _ = e

  -- ---- contents

  contents_say : (closed : Bool) (n : ℕ) (c : Contents) → EachInContents P Q c → OfContents n c → (j : Reader) (k : reading.Reader) → Part j k
      → as_found (k.as_content (fields_content closed (contents_style s owner c) (contents_models s owner n c))) ≡ j (contents_entry closed c)
  contents_say closed n unit_contents h st j k p = p.lone unboxed unit_entry tt
  contents_say closed n (newtype_contents e) h st j k p = p.lone (s.is_boxed owner) e h
  contents_say closed n (tuple_contents es) h st j k p =
      ap (λ ts. as_found (k.as_content (places ts))) (types_back 0 (types_of (type_models s.name (s.is_boxed owner) es))) ∙ p.several (s.is_boxed owner) es h
  contents_say closed n (struct_contents fs) h st j k p = p.fields owner n closed fs h.0 h.1 st

  of_unit : (i n : ℕ) (a l : List ℕ) (c : Contents) → as_found (unit_named i (model n (record { identifier = a; name = l; contents = c }))) ≡ told (is_unit c)
  of_unit i n a l unit_contents = refl
  of_unit i n a l (newtype_contents e) = refl
  of_unit i n a l (tuple_contents es) = refl
  of_unit i n a l (struct_contents fs) = refl

  -- the contents of one member
  one_member : (closed : Bool) (m : MemberPart Reader) (k : MemberPart reading.Reader) → Part m.value k.value → (i n : ℕ) (a l : List ℕ) (c : Contents) → EachInContents P Q c → OfContents n c
      → as_found (reading.contents_read closed k i (model n (record { identifier = a; name = l; contents = c }))) ≡ if_so (not (is_unit c)) (m.value (contents_entry closed c))
  one_member closed m k p i n a l unit_contents h st = refl
  one_member closed m k p i n a l (newtype_contents e) h st =
      of_under k.name (read_map _ (k.value.as_content (fields_content closed (contents_style s owner (newtype_contents e)) (contents_models s owner n (newtype_contents e)))))
      ∙ of_map _ (k.value.as_content _) ∙ contents_say closed n (newtype_contents e) h st m.value k.value p
  one_member closed m k p i n a l (tuple_contents es) h st =
      of_under k.name (read_map _ (k.value.as_content (fields_content closed (contents_style s owner (tuple_contents es)) (contents_models s owner n (tuple_contents es)))))
      ∙ of_map _ (k.value.as_content _) ∙ contents_say closed n (tuple_contents es) h st m.value k.value p
  one_member closed m k p i n a l (struct_contents fs) h st =
      of_under k.name (read_map _ (k.value.as_content (fields_content closed (contents_style s owner (struct_contents fs)) (contents_models s owner n (struct_contents fs)))))
      ∙ of_map _ (k.value.as_content _) ∙ contents_say closed n (struct_contents fs) h st m.value k.value p

  -- ---- the representations

  -- where the value isn't a text
  by_member : (closed : Bool) (n : ℕ) (ws : Variants) → EachVariant P Q ws → OfVariants n ws → (ps : Parts Reader) (qs : Parts reading.Reader) → All ps qs
      → as_found (reading.external_read closed (all_models n ws) null qs) ≡ external_read missed closed (variants_of ws) null ps
  by_member closed n ws x st =
      alike.by_kind Reader reading.Reader Key Part (λ ps qs. as_found (reading.external_read closed (all_models n ws) null qs) ≡ external_read missed closed (variants_of ws) null ps) refl
      (λ js ks y. refl) of
    where
      of : (ms : List (MemberPart Reader)) (ks : List (MemberPart reading.Reader)) → Members ms ks
          → as_found (reading.external_read closed (all_models n ws) null (object_parts ks)) ≡ external_read missed closed (variants_of ws) null (object_parts ms)
      of [] [] y = refl
      of [] (k ∷ ks) y = absurd y
      of (m ∷ ms) [] y = absurd y
      of (m ∷ []) (k ∷ []) y =
          by_name (contents_read missed closed m.value) (reading.contents_read closed k) (stopped []) refl (λ i l w a b. one_member closed m k y.0.2 i l w.identifier w.name w.contents a b) 0 n ws x st k.name
          ∙ ap (λ z. contents_read missed closed m.value (variant_named z (variants_of ws))) (sym y.0.0)
      of (m ∷ []) (k ∷ l ∷ ks) y = absurd y.1
      of (m ∷ o ∷ ms) (k ∷ []) y = absurd y.1
      of (m ∷ o ∷ ms) (k ∷ l ∷ ks) y = refl

  pub external : (closed : Bool) (n : ℕ) (ws : Variants) → EachVariant P Q ws → OfVariants n ws → (v : Value) (ps : Parts Reader) (qs : Parts reading.Reader) → All ps qs
      → as_found (reading.external_read closed (all_models n ws) v qs) ≡ external_read missed closed (variants_of ws) v ps
  external closed n ws x st (text k) ps qs y =
      by_name (λ o. told (is_unit_named o)) unit_named (stopped []) refl (λ i l w a b. of_unit i l w.identifier w.name w.contents) 0 n ws x st k
  external closed n ws x st null ps qs y = by_member closed n ws x st ps qs y
  external closed n ws x st (value.boolean b) ps qs y = by_member closed n ws x st ps qs y
  external closed n ws x st (number z) ps qs y = by_member closed n ws x st ps qs y
  external closed n ws x st fraction ps qs y = by_member closed n ws x st ps qs y
  external closed n ws x st (list xs) ps qs y = by_member closed n ws x st ps qs y
  external closed n ws x st (object ms) ps qs y = by_member closed n ws x st ps qs y

  beside : (closed : Bool) (js : List (MemberPart Reader)) (ks : List (MemberPart reading.Reader)) → Members js ks → (i n : ℕ) (a l : List ℕ) (c : Contents) → EachInContents P Q c → OfContents n c
      → as_found (reading.internal_read default_read absent_of closed ks i (model n (record { identifier = a; name = l; contents = c }))) ≡ beside_tag missed closed js c
  beside closed js ks y i n a l unit_contents h st =
      of_map _ (reading.members_read default_read absent_of closed [] ks)
      ∙ members s missed default_read P Q absent_of lacks owner closed n no_fields refl tt (λ m e w ty z. absurd z) js ks y
  beside closed js ks y i n a l (newtype_contents e) h st = refl
  beside closed js ks y i n a l (tuple_contents es) h st = refl
  beside closed js ks y i n a l (struct_contents fs) h st =
      of_map _ (reading.members_read default_read absent_of closed _ ks) ∙ members s missed default_read P Q absent_of lacks owner closed n fs h.0 h.1 st js ks y

  pub internal : (closed : Bool) (tag : List ℕ) (n : ℕ) (ws : Variants) → EachVariant P Q ws → OfVariants n ws → (v : Value) (js : List (MemberPart Reader)) (ks : List (MemberPart reading.Reader))
      → Members js ks
      → as_found (after_tag tag (all_models n ws) (reading.internal_read default_read absent_of closed (without tag ks)) (tag_value tag v))
      ≡ internal_read missed closed tag js (tagged_variant tag (variants_of ws) v)
  internal closed tag n ws x st v js ks y =
      by_tag (internal_read missed closed tag js) (reading.internal_read default_read absent_of closed (without tag ks)) refl
      (λ i l w a b. beside closed (without tag js) (without tag ks) (alike.without_alike Reader reading.Reader Key Part tag js ks y) i l w.identifier w.name w.contents a b) tag n ws x st v

  has_content : (closed : Bool) (js : List (MemberPart Reader)) (ks : List (MemberPart reading.Reader)) → Members js ks → (i n : ℕ) (a l : List ℕ) (c : Contents) → EachInContents P Q c
      → OfContents n c → as_found (content_beside closed ks i (model n (record { identifier = a; name = l; contents = c }))) ≡ beside_content missed closed c js
  has_content closed [] [] y i n a l c h st = of_unit i n a l c
  has_content closed [] (k ∷ ks) y i n a l c h st = absurd y
  has_content closed (j ∷ js) [] y i n a l c h st = absurd y
  has_content closed (j ∷ js) (k ∷ ks) y i n a l c h st = with_content c h st
    where
      with_content : (d : Contents) → EachInContents P Q d → OfContents n d
          → as_found (content_beside closed (k ∷ ks) i (model n (record { identifier = a; name = l; contents = d }))) ≡ if_so (not (is_unit d)) (j.value (contents_entry closed d))
      with_content unit_contents g t = refl
      with_content (newtype_contents e) g t = one_member closed j k y.0.2 i n a l (newtype_contents e) g t
      with_content (tuple_contents es) g t = one_member closed j k y.0.2 i n a l (tuple_contents es) g t
      with_content (struct_contents fs) g t = one_member closed j k y.0.2 i n a l (struct_contents fs) g t

  pub adjacent : (closed : Bool) (tag content : List ℕ) (n : ℕ) (ws : Variants) → EachVariant P Q ws → OfVariants n ws → (v : Value) (js : List (MemberPart Reader))
      (ks : List (MemberPart reading.Reader)) → Members js ks
      → as_found (after_tag tag (all_models n ws) (reading.adjacent_read closed (without content (without tag ks)) (named content ks)) (tag_value tag v))
      ≡ adjacent_read missed closed tag content js (tagged_variant tag (variants_of ws) v)
  adjacent closed tag content n ws x st v js ks y =
      by_tag (adjacent_read missed closed tag content js) (reading.adjacent_read closed (without content (without tag ks)) (named content ks)) refl
      (λ i l w a b. by closed (without content (without tag js)) (without content (without tag ks))
      (alike.without_alike Reader reading.Reader Key Part content (without tag js) (without tag ks) (alike.without_alike Reader reading.Reader Key Part tag js ks y))
      (named content js) (named content ks) (alike.named_alike Reader reading.Reader Key Part content js ks y) i l w a b) tag n ws x st v
    where
      by : (d : Bool) (us : List (MemberPart Reader)) (vs : List (MemberPart reading.Reader)) → Members us vs → (cs : List (MemberPart Reader)) (ds : List (MemberPart reading.Reader)) → Members cs ds
          → (i m : ℕ) (w : VariantEntry) → EachInContents P Q w.contents → OfContents m w.contents
          → as_found (reading.adjacent_read d vs ds i (model m w)) ≡ if_so (not d || is_none us) (beside_content missed d w.contents cs)
      by true [] [] z cs ds u i m w a b = has_content true cs ds u i m w.identifier w.name w.contents a b
      by true [] (l ∷ vs) z cs ds u i m w a b = absurd z
      by true (o ∷ us) [] z cs ds u i m w a b = absurd z
      by true (o ∷ us) (l ∷ vs) z cs ds u i m w a b = refl
      by false us vs z cs ds u i m w a b = has_content false cs ds u i m w.identifier w.name w.contents a b
