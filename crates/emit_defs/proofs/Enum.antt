-- Enums: the variants that are written take what the variants of the entry take.
use Rattle.std.proofs.Common.{◌≡◌, ℕ, suc, List, [], ◌∷◌, map, Bool, true, false, ◌&&◌, ◌||◌, not, cond, refl, sym, ap, ◌∙◌, Option, Some, None, bytes_eq}
use Rattle.json_value.specs.Value.{Value, text, object, member_at}
use Rattle.model_defs.specs.Types.{TypeModel, types_of}
use Rattle.model_defs.specs.Model as model
use Rattle.model_defs.specs.Model.{FieldModel, VariantModel}
use Rattle.model_defs.specs.Layer as layer
use Rattle.model_defs.specs.Layer.{MemberPart, Parts, no_parts, list_parts, object_parts, places, fields_content, variant_content, is_none, named, without, members_in}
use Rattle.entry_defs.specs.Entry.{Target, Entry, unit_entry, Shape, no_fields, Variants, no_variants, variant_then, Contents, unit_contents, newtype_contents, tuple_contents, struct_contents, VariantEntry, variants_of}
use Rattle.entry_defs.specs.Layer.{Judge, variant_named, variant_of_text, tagged_variant, is_unit, contents_entry, is_unit_named, contents_take, external_takes, beside_tag, internal_takes, beside_content, adjacent_takes}
use Rattle.emit_defs.specs.Setting.{Setting}
use Rattle.emit_defs.specs.Models.{unboxed, type_model, type_models, unnamed_models, contents_style, contents_models, variant_model, variant_models, after_contents}
use Rattle.entry_defs.specs.Sound.{Each, EachVariant, EachInContents}
use Rattle.emit_defs.proofs.Pairs.{part, parts, filter_part, none_part, members_in_parts}
use Rattle.emit_defs.proofs.Both.{Both}
use Rattle.emit_defs.proofs.Struct.{members_agree}

pub types_back : (i : ℕ) (ts : List TypeModel) → map (λ f. f.field_type) (unnamed_models i ts) ≡ ts
types_back i [] = refl
types_back i (t ∷ ts) = ap (λ z. t ∷ z) (types_back (suc i) ts)

module _ (s : Setting) (owner : List ℕ) (leads : TypeModel → Bool) (P : List ℕ → Shape → Type 0) (Q : Target → Type 0) (told : (b : List ℕ → Bool) (e : Entry) → Each P Q e → leads (type_model s.name b e) ≡ s.leads e) where
  abbrev Pair : Type 0
  Pair = Both s P Q

  abbrev left : List (MemberPart Pair) → List (MemberPart Judge)
  left ms = map (part (λ p. p.left)) ms

  abbrev right : List (MemberPart Pair) → List (MemberPart layer.Judge)
  right ms = map (part (λ p. p.right)) ms

  -- ---- a variant by its name

  abbrev AgreeVariant : Option VariantEntry → Option VariantModel → Type 0
  AgreeVariant None None = Unit {0}
  AgreeVariant (Some w) (Some m) = (n : ℕ) × (m ≡ variant_model s owner n w) × EachInContents P Q w.contents
  AgreeVariant _ _ = ⊥

  found : (k : List ℕ) (n : ℕ) (ws : Variants) → EachVariant P Q ws → AgreeVariant (variant_named k (variants_of ws)) (model.variant_named k (variant_models s owner n (variants_of ws)))
  found k n no_variants h = tt
  found k n (variant_then i x c ws) h =
      let w : VariantEntry = record { identifier = i; name = x; contents = c } in
      let rec = found k (after_contents c n) ws h.1 in
      elim (bytes_eq k x) as (λ b. AgreeVariant (cond b (Some w) (variant_named k (variants_of ws))) (cond (b || false) (Some (variant_model s owner n w)) (model.variant_named k (variant_models s owner (after_contents c n) (variants_of ws))))) [
        | true ↦ (n, refl, h.0)
        | false ↦ rec
      ]

  of_text : (n : ℕ) (ws : Variants) → EachVariant P Q ws → (o : Option Value) → AgreeVariant (variant_of_text (variants_of ws) o) (layer.variant_of_text (variant_models s owner n (variants_of ws)) o)
  of_text n ws h (Some (text k)) = found k n ws h
  of_text n ws h _ = tt

  pub tagged : (tag : List ℕ) (n : ℕ) (ws : Variants) → EachVariant P Q ws → (v : Value)
      → AgreeVariant (tagged_variant tag (variants_of ws) v) (layer.tagged_variant tag (variant_models s owner n (variants_of ws)) v)
  tagged tag n ws h (object ms) = of_text n ws h (member_at tag ms)
  tagged tag n ws h _ = tt

  -- ---- contents

  unit_same : (n : ℕ) (i x : List ℕ) (c : Contents) → is_unit c ≡ layer.is_unit (variant_model s owner n (record { identifier = i; name = x; contents = c }))
  unit_same n i x unit_contents = refl
  unit_same n i x (newtype_contents e) = refl
  unit_same n i x (tuple_contents es) = refl
  unit_same n i x (struct_contents fs) = refl

  contents_agree : (closed : Bool) (n : ℕ) (c : Contents) → EachInContents P Q c → (p : Pair)
      → p.left (contents_entry closed c) ≡ p.right (fields_content closed (contents_style s owner c) (contents_models s owner n c))
  contents_agree closed n unit_contents h p = p.agree.one unboxed unit_entry tt
  contents_agree closed n (newtype_contents e) h p = p.agree.one (s.is_boxed owner) e h
  contents_agree closed n (tuple_contents es) h p = p.agree.several (s.is_boxed owner) es h ∙ ap (λ ts. p.right (places ts)) (sym (types_back 0 (types_of (type_models s.name (s.is_boxed owner) es))))
  contents_agree closed n (struct_contents fs) h p = p.agree.fields owner n closed fs h.0 h.1

  unit_named : (a : Option VariantEntry) (b : Option VariantModel) → AgreeVariant a b → is_unit_named a ≡ layer.is_unit_named b
  unit_named None None h = refl
  unit_named (Some w) (Some m) h = unit_same h.0 w.identifier w.name w.contents ∙ ap layer.is_unit (sym h.1)
  unit_named None (Some m) h = absurd h
  unit_named (Some w) None h = absurd h

  has_contents : (closed : Bool) (p : Pair) (w : VariantEntry) (m : VariantModel) → AgreeVariant (Some w) (Some m)
      → (not (is_unit w.contents) && p.left (contents_entry closed w.contents)) ≡ (not (layer.is_unit m) && p.right (variant_content closed m))
  has_contents closed p w m h =
      let unit = unit_same h.0 w.identifier w.name w.contents in
      let same = contents_agree closed h.0 w.contents h.2 p in
      (λ i. not (unit i) && same i) ∙ ap (λ z. not (layer.is_unit z) && p.right (variant_content closed z)) (sym h.1)

  one_member : (closed : Bool) (p : Pair) (a : Option VariantEntry) (b : Option VariantModel) → AgreeVariant a b → contents_take closed p.left a ≡ layer.contents_take closed p.right b
  one_member closed p None None h = refl
  one_member closed p (Some w) (Some m) h = has_contents closed p w m h
  one_member closed p None (Some m) h = absurd h
  one_member closed p (Some w) None h = absurd h

  -- ---- the representations

  pub external_agrees : (closed : Bool) (n : ℕ) (ws : Variants) → EachVariant P Q ws → (v : Value) (ps : Parts Pair)
      → external_takes closed (variants_of ws) v (parts (λ p. p.left) ps) ≡ layer.external_takes closed (variant_models s owner n (variants_of ws)) v (parts (λ p. p.right) ps)
  external_agrees closed n ws h (text k) ps = unit_named _ _ (found k n ws h)
  external_agrees closed n ws h _ (object_parts (m ∷ [])) = one_member closed m.value _ _ (found m.name n ws h)
  external_agrees closed n ws h _ no_parts = refl
  external_agrees closed n ws h _ (list_parts js) = refl
  external_agrees closed n ws h _ (object_parts []) = refl
  external_agrees closed n ws h _ (object_parts (m ∷ p ∷ ms)) = refl

  beside_agrees : (closed : Bool) (n : ℕ) (i x : List ℕ) (c : Contents) → EachInContents P Q c → (ms : List (MemberPart Pair))
      → beside_tag closed (left ms) c ≡ layer.beside_tag leads closed (right ms) (variant_model s owner n (record { identifier = i; name = x; contents = c }))
  beside_agrees closed n i x unit_contents h ms = members_agree s owner leads P Q told closed n no_fields refl tt ms
  beside_agrees closed n i x (struct_contents fs) h ms =
      members_agree s owner leads P Q told closed n fs h.0 h.1 ms
  beside_agrees closed n i x (newtype_contents e) h ms = refl
  beside_agrees closed n i x (tuple_contents es) h ms = refl

  internal_members : (closed : Bool) (tag : List ℕ) (ms : List (MemberPart Pair)) (a : Option VariantEntry) (b : Option VariantModel) → AgreeVariant a b
      → internal_takes closed tag (left ms) a ≡ layer.internal_takes leads closed tag (right ms) b
  internal_members closed tag ms None None h = refl
  internal_members closed tag ms (Some w) (Some m) h =
      let mine : without tag (left ms) ≡ left (without tag ms) = filter_part (λ p. p.left) (λ x. not (bytes_eq tag x)) ms in
      let yours : without tag (right ms) ≡ right (without tag ms) = filter_part (λ p. p.right) (λ x. not (bytes_eq tag x)) ms in
      ap (λ z. beside_tag closed z w.contents) mine
      ∙ beside_agrees closed h.0 w.identifier w.name w.contents h.2 (without tag ms)
      ∙ (λ i. layer.beside_tag leads closed (sym yours i) (sym h.1 i))
  internal_members closed tag ms None (Some m) h = absurd h
  internal_members closed tag ms (Some w) None h = absurd h

  pub internal_agrees : (closed : Bool) (tag : List ℕ) (n : ℕ) (ws : Variants) → EachVariant P Q ws → (v : Value) (ps : Parts Pair)
      → internal_takes closed tag (members_in (parts (λ p. p.left) ps)) (tagged_variant tag (variants_of ws) v)
      ≡ layer.internal_takes leads closed tag (members_in (parts (λ p. p.right) ps)) (layer.tagged_variant tag (variant_models s owner n (variants_of ws)) v)
  internal_agrees closed tag n ws h v ps =
      ap (λ z. internal_takes closed tag z (tagged_variant tag (variants_of ws) v)) (members_in_parts (λ p. p.left) ps)
      ∙ internal_members closed tag (members_in ps) _ _ (tagged tag n ws h v)
      ∙ ap (λ z. layer.internal_takes leads closed tag z (layer.tagged_variant tag (variant_models s owner n (variants_of ws)) v)) (sym (members_in_parts (λ p. p.right) ps))

  content_member : (closed : Bool) (w : VariantEntry) (m : VariantModel) → AgreeVariant (Some w) (Some m) → (ms : List (MemberPart Pair))
      → beside_content closed w.contents (left ms) ≡ layer.beside_content closed m (right ms)
  content_member closed w m h [] = unit_named (Some w) (Some m) h
  content_member closed w m h (x ∷ xs) = has_contents closed x.value w m h

  adjacent_members : (closed : Bool) (tag content : List ℕ) (ms : List (MemberPart Pair)) (a : Option VariantEntry) (b : Option VariantModel) → AgreeVariant a b
      → adjacent_takes closed tag content (left ms) a ≡ layer.adjacent_takes closed tag content (right ms) b
  adjacent_members closed tag content ms None None h = refl
  adjacent_members closed tag content ms (Some w) (Some m) h =
      let mine : without content (without tag (left ms)) ≡ left (without content (without tag ms)) =
      ap (without content) (filter_part (λ p. p.left) (λ x. not (bytes_eq tag x)) ms) ∙ filter_part (λ p. p.left) (λ x. not (bytes_eq content x)) (without tag ms) in
      let yours : without content (without tag (right ms)) ≡ right (without content (without tag ms)) =
      ap (without content) (filter_part (λ p. p.right) (λ x. not (bytes_eq tag x)) ms) ∙ filter_part (λ p. p.right) (λ x. not (bytes_eq content x)) (without tag ms) in
      let none : is_none (without content (without tag (left ms))) ≡ is_none (without content (without tag (right ms))) =
      ap is_none mine ∙ none_part (λ p. p.left) (without content (without tag ms)) ∙ sym (none_part (λ p. p.right) (without content (without tag ms))) ∙ ap is_none (sym yours) in
      let has : beside_content closed w.contents (named content (left ms)) ≡ layer.beside_content closed m (named content (right ms)) =
      ap (beside_content closed w.contents) (filter_part (λ p. p.left) (bytes_eq content) ms) ∙ content_member closed w m h (named content ms) ∙ ap (layer.beside_content closed m) (sym (filter_part (λ p. p.right) (bytes_eq content) ms)) in
      λ i. (not closed || none i) && has i
  adjacent_members closed tag content ms None (Some m) h = absurd h
  adjacent_members closed tag content ms (Some w) None h = absurd h

  pub adjacent_agrees : (closed : Bool) (tag content : List ℕ) (n : ℕ) (ws : Variants) → EachVariant P Q ws → (v : Value) (ps : Parts Pair)
      → adjacent_takes closed tag content (members_in (parts (λ p. p.left) ps)) (tagged_variant tag (variants_of ws) v)
      ≡ layer.adjacent_takes closed tag content (members_in (parts (λ p. p.right) ps)) (layer.tagged_variant tag (variant_models s owner n (variants_of ws)) v)
  adjacent_agrees closed tag content n ws h v ps =
      ap (λ z. adjacent_takes closed tag content z (tagged_variant tag (variants_of ws) v)) (members_in_parts (λ p. p.left) ps)
      ∙ adjacent_members closed tag content (members_in ps) _ _ (tagged tag n ws h v)
      ∙ ap (λ z. layer.adjacent_takes closed tag content z (layer.tagged_variant tag (variant_models s owner n (variants_of ws)) v)) (sym (members_in_parts (λ p. p.right) ps))
