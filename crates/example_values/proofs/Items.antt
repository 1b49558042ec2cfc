-- The values of items, of their bodies, of variants and of contents.
use Rattle.std.proofs.Common.{◌≡◌, ℕ, List, [], ◌∷◌, map, cond, Bool, true, false, ◌||◌, Option, Some, None, is_some, refl, sym, ap, subst, ◌∙◌}
use Rattle.json_value.specs.Value.{Value, Members, null, text, list, object, items, member, no_members}
use Rattle.model_defs.specs.Types.{TypeModel}
use Rattle.model_defs.specs.Model.{struct_style, tuple_style, newtype_style, FieldModel, VariantModel, TagModel, external_tag, internal_tag, adjacent_tag, untagged, struct_model, ContainerModel, ConversionsD, container_named}
use Rattle.model_defs.specs.Layer.{one_type, places, named_fields, variant_content, is_unit}
use Rattle.model_defs.specs.Reads.{leads_to_option}
use Rattle.model_defs.specs.Settled.{put}
use Rattle.example_defs.specs.Built.{is_ready, body_built, ruled_value}
use Rattle.example_defs.specs.Example.{value_or_null, members_of, variant_made, found_made, body_made}
use Rattle.example_defs.specs.Enough.{no_texts}
use Rattle.example_laws.proofs.Found.{first_variant_is, ready_is}
use Rattle.example_values.specs.Chosen.{first_after, IsChosen}
use Rattle.example_values.specs.Pieces.{wrapped}
use Rattle.example_values.specs.Made.{only_type, IsMade, AreMade, AreMembers, IsVariantMade, IsContentMade, IsBodyMade, IsEnumMade, IsFoundMade, IsItemMade, IsNamedMade}
use Rattle.example_values.proofs.Firsts.{B, M, by_first}

module _ (ms : List ContainerModel) (cs : ConversionsD) where
  abbrev lead : TypeModel → Bool
  lead t = leads_to_option ms t

  abbrev ruled : ContainerModel → Option Value
  ruled m = ruled_value ms cs no_texts m

  -- ---- items

  pub by_container : (n : List ℕ) (m : ContainerModel) (v : Value) → Some m ≡ container_named n ms → IsItemMade ms cs m v → IsNamedMade ms cs n v
  unfolding IsItemMade IsNamedMade
  by_container n m v e h = subst (λ o. IsFoundMade ms cs o v) e h

  pub by_rule : (m : ContainerModel) (v : Value) → m.try_from ≡ true → Some v ≡ ruled m → IsItemMade ms cs m v
  unfolding IsItemMade
  by_rule m v t e k f =
      ap value_or_null e
      ∙ ap (λ b. cond b (value_or_null (ruled m)) (body_made lead (λ c. B ms cs k c) (λ c. M ms cs k c) m.closed m.body)) (sym t)

  pub by_body : (m : ContainerModel) (v : Value) → m.try_from ≡ false → IsBodyMade ms cs m.body v → IsItemMade ms cs m v
  unfolding IsItemMade IsBodyMade
  by_body m v t h k f =
      h m.closed k (record {
        now = ap (λ b. cond b (is_some (ruled m)) (body_built lead (λ c. B ms cs k c) m.closed m.body)) (sym t) ∙ f.now;
        before = λ j s. ap (λ b. cond b (is_some (ruled m)) (body_built lead (λ c. B ms cs j c) m.closed m.body)) (sym t) ∙ f.before j s;
      })
      ∙ ap (λ b. cond b (value_or_null (ruled m)) (body_made lead (λ c. B ms cs k c) (λ c. M ms cs k c) m.closed m.body)) (sym t)

  -- ---- bodies

  pub by_struct : (fs : List FieldModel) (es : Members) (v : Value) → AreMembers ms cs fs es → v ≡ object es → IsBodyMade ms cs (struct_model struct_style fs) v
  unfolding AreMembers IsBodyMade
  by_struct fs es v m e closed k f = e ∙ ap object (m k f.now)

  pub by_newtype : (fs : List FieldModel) (v : Value) → IsMade ms cs (one_type (only_type fs)) v → IsBodyMade ms cs (struct_model newtype_style fs) v
  unfolding IsMade IsBodyMade
  by_newtype [] v m closed k f = m k f.now
  by_newtype (x ∷ []) v m closed k f = m k f.now
  by_newtype (x ∷ y ∷ fs) v m closed k f = m k f.now

  chosen_ready : (closed : Bool) (k : ℕ) (tag : TagModel) (ws : List VariantModel) (n : List ℕ) (w : VariantModel) → first_after ms cs tag ws closed k ≡ Some (n, w) → is_ready lead (λ c. B ms cs k c) closed w ≡ true
  chosen_ready closed k untagged ws n w e = (ready_is lead (λ c. B ms cs k c) closed ws (n, w) e).ready
  chosen_ready closed k external_tag ws n w e = (first_variant_is lead (λ c. B ms cs k c) closed [] ws (n, w) e).ready
  chosen_ready closed k (internal_tag t) ws n w e = (first_variant_is lead (λ c. B ms cs k c) closed [] ws (n, w) e).ready
  chosen_ready closed k (adjacent_tag t c) ws n w e = (first_variant_is lead (λ c. B ms cs k c) closed [] ws (n, w) e).ready

  pub by_variant : (tag : TagModel) (ws : List VariantModel) (n : List ℕ) (w : VariantModel) (o : Option (List ℕ × VariantModel)) (v : Value) → IsChosen ms cs tag ws o → o ≡ Some (n, w)
      → IsVariantMade ms cs tag n w v → IsEnumMade ms cs tag ws v
  unfolding IsVariantMade IsBodyMade
  by_variant tag ws n w o v c e m closed k f =
      let found : first_after ms cs tag ws closed k ≡ Some (n, w) = sym (c closed k f.now f.before) ∙ e in
      m closed k (chosen_ready closed k tag ws n w found)
      ∙ ap (found_made lead (λ d. B ms cs k d) (λ d. M ms cs k d) closed tag) (sym found)

  -- ---- variants

  abbrev variant_as : TagModel → List ℕ → Bool → Value → Value
  variant_as external_tag n b c = cond b (text n) (object (member n c no_members))
  variant_as (internal_tag t) n b c = object (put t (text n) (cond b no_members (members_of c)))
  variant_as (adjacent_tag t k) n b c = object (put t (text n) (cond b no_members (member k c no_members)))
  variant_as untagged n b c = cond b null c

  variant_is : (closed : Bool) (k : ℕ) (tag : TagModel) (n : List ℕ) (w : VariantModel)
      → variant_as tag n (is_unit w) (M ms cs k (variant_content closed w)) ≡ variant_made lead (λ d. B ms cs k d) (λ d. M ms cs k d) closed tag n w
  variant_is closed k external_tag n w = refl
  variant_is closed k (internal_tag t) n w = refl
  variant_is closed k (adjacent_tag t c) n w = refl
  variant_is closed k untagged n w = refl

  as_unit : (tag : TagModel) (n : List ℕ) (c : Value) → wrapped tag n None ≡ variant_as tag n true c
  as_unit external_tag n c = refl
  as_unit (internal_tag t) n c = refl
  as_unit (adjacent_tag t k) n c = refl
  as_unit untagged n c = refl

  as_contents : (tag : TagModel) (n : List ℕ) (c : Value) → wrapped tag n (Some c) ≡ variant_as tag n false c
  as_contents external_tag n c = refl
  as_contents (internal_tag t) n c = refl
  as_contents (adjacent_tag t k) n c = refl
  as_contents untagged n c = refl

  pub by_unit : (tag : TagModel) (n : List ℕ) (w : VariantModel) (v : Value) → is_unit w ≡ true → v ≡ wrapped tag n None → IsVariantMade ms cs tag n w v
  unfolding IsVariantMade
  by_unit tag n w v u e closed k r =
      let c = M ms cs k (variant_content closed w) in
      e ∙ as_unit tag n c ∙ ap (λ b. variant_as tag n b c) (sym u) ∙ variant_is closed k tag n w

  pub by_contents : (tag : TagModel) (n : List ℕ) (w : VariantModel) (c v : Value) → is_unit w ≡ false → IsContentMade ms cs w.style w.fields c → v ≡ wrapped tag n (Some c) → IsVariantMade ms cs tag n w v
  unfolding IsVariantMade IsContentMade
  by_contents tag n w c v u m e closed k r =
      let ready : B ms cs k (variant_content closed w) ≡ true = ap (λ b. b || B ms cs k (variant_content closed w)) (sym u) ∙ r in
      e ∙ as_contents tag n c ∙ (λ i. variant_as tag n (sym u i) (m closed k ready i)) ∙ variant_is closed k tag n w

  -- ---- contents

  pub by_named : (fs : List FieldModel) (es : Members) (v : Value) → AreMembers ms cs fs es → v ≡ object es → IsContentMade ms cs struct_style fs v
  unfolding AreMembers IsContentMade
  by_named fs es v m e closed = by_first ms cs (named_fields closed fs) v (λ k f. e ∙ ap object (m k f.now))

  pub by_places : (fs : List FieldModel) (vs : List Value) (v : Value) → AreMade ms cs (map (λ f. f.field_type) fs) vs → v ≡ list (items vs) → IsContentMade ms cs tuple_style fs v
  unfolding AreMade IsContentMade
  by_places fs vs v m e closed = by_first ms cs (places (map (λ f. f.field_type) fs)) v (λ k f. e ∙ ap (λ xs. list (items xs)) (m k f.now))

  pub by_only : (fs : List FieldModel) (v : Value) → IsMade ms cs (one_type (only_type fs)) v → IsContentMade ms cs newtype_style fs v
  unfolding IsMade IsContentMade
  by_only [] v m closed = m
  by_only (x ∷ []) v m closed = m
  by_only (x ∷ y ∷ fs) v m closed = m

  pub by_one_field : (fs : List FieldModel) (f : FieldModel) (v : Value) → fs ≡ f ∷ [] → IsMade ms cs (one_type f.field_type) v → IsMade ms cs (one_type (only_type fs)) v
  by_one_field fs f v e m = subst (λ xs. IsMade ms cs (one_type (only_type xs)) v) (sym e) m
