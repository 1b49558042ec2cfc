-- Each value that a type reads has one of its kinds.
use Rattle.std.proofs.Common.{◌≡◌, ℕ, zero, suc, List, [], ◌∷◌, Bool, true, false, ◌&&◌, ◌||◌, not, cond, refl, sym, ap, ◌∙◌, true≢false, Option, Some, None, bytes_eq}
use Rattle.std.specs.List.{list_any}
use Rattle.json_value.specs.Value as value
use Rattle.json_value.specs.Value.{Value, Members, null, number, fraction, text, list, object, member, no_members}
use Rattle.schema_defs.specs.declared.Format.{Format}
use Rattle.schema_defs.specs.Integers.{Range}
use Rattle.schema_defs.specs.Texts.{Relations}
use Rattle.model_defs.specs.Types.{TypeModel, boolean_type, integer_type, text_type, native_type, any_type, unit_type, option_type, boxed_type, vec_type, set_type, map_type, tuple_type, array_type, item_type, outside_type, types_of}
use Rattle.model_defs.specs.Model.{struct_style, tuple_style, newtype_style, unit_style, FieldModel, VariantModel, external_tag, internal_tag, adjacent_tag, untagged, BodyModel, struct_model, enum_model, ContainerModel, ConversionsD, container_named, variant_named, rule_of}
use Rattle.model_defs.specs.Layer.{Content, one_type, places, named_fields, Judge, Parts, is_null, is_boolean, is_in_range, is_text, has_the_format, each_item, of_length, by_places, as_map, struct_takes, is_unit, is_unit_named, contents_take, variant_content, tagged_variant, external_takes, internal_takes, adjacent_takes, members_in, given_rule_agrees, type_takes, content_takes, body_takes, container_takes}
use Rattle.model_defs.specs.Reads.{allowed, leads_to_option, item_reads, value_reads, parts_of}
use Rattle.model_defs.proofs.Rows.{reads-level}
use Rattle.writing_laws.specs.Kinds.{nulls, booleans, numbers, texts, lists, objects, kind_of, same_kind, type_may, content_may, body_may, container_may, may_within}
use Rattle.writing_laws.specs.Laws.{KindsAreSound}
use Rattle.writing_laws.proofs.Taken.{and_left, and_right}

or_holds : (a b c d : Bool) → (a ≡ true → c ≡ true) → (b ≡ true → d ≡ true) → (a || b) ≡ true → (c || d) ≡ true
or_holds true b c d f g h = ap (λ z. z || d) (f refl)
or_holds false b true d f g h = refl
or_holds false b false d f g h = g h

null_is : (v : Value) → is_null v ≡ true → same_kind (kind_of v) nulls ≡ true
null_is null h = refl
null_is _ h = absurd (true≢false (sym h))

boolean_is : (v : Value) → is_boolean v ≡ true → same_kind (kind_of v) booleans ≡ true
boolean_is (value.boolean b) h = refl
boolean_is _ h = absurd (true≢false (sym h))

integer_is : (g : Range) (v : Value) → is_in_range g v ≡ true → same_kind (kind_of v) numbers ≡ true
integer_is g (number z) h = refl
integer_is g _ h = absurd (true≢false (sym h))

text_is : (v : Value) → is_text v ≡ true → same_kind (kind_of v) texts ≡ true
text_is (text s) h = refl
text_is _ h = absurd (true≢false (sym h))

native_is : (r : Relations) (f : Format) (v : Value) → has_the_format r f v ≡ true → same_kind (kind_of v) texts ≡ true
native_is r f (text s) h = refl
native_is r f _ h = absurd (true≢false (sym h))

either : (a b : Bool) → b ≡ true → (a || b) ≡ true
either true b h = refl
either false b h = h

-- the variant of a name is one of them
named_among : (t : VariantModel → Bool) (n : List ℕ) (ws : List VariantModel) (P : Option VariantModel → Bool) → P None ≡ false → ((w : VariantModel) → P (Some w) ≡ true → t w ≡ true) → P (variant_named n ws) ≡ true → list_any t ws ≡ true
named_among t n [] P e f h = absurd (true≢false (sym h ∙ e))
named_among t n (w ∷ ws) P e f h = by (list_any (bytes_eq n) w.deserialize_names) (named_among t n ws P e f) h
  where
    by : (b : Bool) → (P (variant_named n ws) ≡ true → list_any t ws ≡ true) → P (cond b (Some w) (variant_named n ws)) ≡ true → (t w || list_any t ws) ≡ true
    by true rec g = ap (λ z. z || list_any t ws) (f w g)
    by false rec g = either (t w) (list_any t ws) (rec g)

module _ (models : List ContainerModel) (cs : ConversionsD) (r : Relations) where
  abbrev lead : TypeModel → Bool
  lead t = leads_to_option models t

  items_are : (c : Content) (v : Value) → each_item c (parts_of models cs r v) ≡ true → same_kind (kind_of v) lists ≡ true
  items_are c (list vs) h = refl
  items_are c _ h = absurd (true≢false (sym h))

  places_are : (ts : List TypeModel) (v : Value) → by_places ts (parts_of models cs r v) ≡ true → same_kind (kind_of v) lists ≡ true
  places_are ts (list vs) h = refl
  places_are ts _ h = absurd (true≢false (sym h))

  map_is : (k t : TypeModel) (v : Value) → as_map k t (parts_of models cs r v) ≡ true → same_kind (kind_of v) objects ≡ true
  map_is k t (object ms) h = refl
  map_is k t _ h = absurd (true≢false (sym h))

  struct_is : (closed : Bool) (fs : List FieldModel) (v : Value) → struct_takes lead closed fs (parts_of models cs r v) ≡ true → same_kind (kind_of v) objects ≡ true
  struct_is closed fs (object ms) h = refl
  struct_is closed fs _ h = absurd (true≢false (sym h))

  external_is : (closed : Bool) (ws : List VariantModel) (v : Value) → external_takes closed ws v (parts_of models cs r v) ≡ true
      → ((same_kind (kind_of v) texts && list_any is_unit ws) || (same_kind (kind_of v) objects && list_any (λ w. not (is_unit w)) ws)) ≡ true
  external_is closed ws (text s) h = ap (λ z. z || false) (named_among is_unit s ws is_unit_named refl (λ w z. z) h)
  external_is closed ws (object no_members) h = absurd (true≢false (sym h))
  external_is closed ws (object (member n v no_members)) h =
      named_among (λ w. not (is_unit w)) n ws (contents_take closed (value_reads models cs r v)) refl (λ w z. and_left (not (is_unit w)) (value_reads models cs r v (variant_content closed w)) z) h
  external_is closed ws (object (member n v (member m u ms))) h = absurd (true≢false (sym h))
  external_is closed ws null h = absurd (true≢false (sym h))
  external_is closed ws (value.boolean b) h = absurd (true≢false (sym h))
  external_is closed ws (number z) h = absurd (true≢false (sym h))
  external_is closed ws fraction h = absurd (true≢false (sym h))
  external_is closed ws (list xs) h = absurd (true≢false (sym h))

  internal_is : (closed : Bool) (tag : List ℕ) (ws : List VariantModel) (v : Value) → internal_takes lead closed tag (members_in (parts_of models cs r v)) (tagged_variant tag ws v) ≡ true → same_kind (kind_of v) objects ≡ true
  internal_is closed tag ws (object ms) h = refl
  internal_is closed tag ws _ h = absurd (true≢false (sym h))

  adjacent_is : (closed : Bool) (tag content : List ℕ) (ws : List VariantModel) (v : Value) → adjacent_takes closed tag content (members_in (parts_of models cs r v)) (tagged_variant tag ws v) ≡ true → same_kind (kind_of v) objects ≡ true
  adjacent_is closed tag content ws (object ms) h = refl
  adjacent_is closed tag content ws _ h = absurd (true≢false (sym h))

  module _ (v : Value) where
    abbrev pj : Parts Judge
    pj = parts_of models cs r v

    abbrev T : ℕ → TypeModel → Bool
    T k t = type_takes r v pj (item_reads models cs r v pj k) t

    abbrev May : ℕ → List ℕ → Bool
    May k = may_within (kind_of v) models k

    abbrev ItemsSound : ℕ → Type 0
    ItemsSound k = (n : List ℕ) → item_reads models cs r v pj k n ≡ true → May k n ≡ true

    type_sound : (k : ℕ) → ItemsSound k → (t : TypeModel) → T k t ≡ true → type_may (kind_of v) (May k) t ≡ true
    type_sound k i boolean_type h = boolean_is v h
    type_sound k i (integer_type g) h = integer_is g v h
    type_sound k i text_type h = text_is v h
    type_sound k i (native_type f) h = native_is r f v h
    type_sound k i any_type h = refl
    type_sound k i unit_type h = null_is v h
    type_sound k i (option_type t) h = or_holds (is_null v) (T k t) (same_kind (kind_of v) nulls) (type_may (kind_of v) (May k) t) (null_is v) (type_sound k i t) h
    type_sound k i (boxed_type t) h = type_sound k i t h
    type_sound k i (vec_type t) h = items_are (one_type t) v h
    type_sound k i (set_type t) h = items_are (one_type t) v h
    type_sound k i (map_type n t) h = map_is n t v h
    type_sound k i (tuple_type ts) h = places_are (types_of ts) v h
    type_sound k i (array_type t n) h = items_are (one_type t) v (and_right (of_length n pj) (each_item (one_type t) pj) h)
    type_sound k i (item_type n) h = i n h
    type_sound k i outside_type h = h

    content_sound : (k : ℕ) → ItemsSound k → (c : Content) → content_takes lead pj (T k) c ≡ true → content_may (kind_of v) (May k) c ≡ true
    content_sound k i (one_type t) h = type_sound k i t h
    content_sound k i (places ts) h = places_are ts v h
    content_sound k i (named_fields closed fs) h = struct_is closed fs v h

    variants_sound : (k : ℕ) → ItemsSound k → (closed : Bool) (ws : List VariantModel) → list_any (λ w. content_takes lead pj (T k) (variant_content closed w)) ws ≡ true
        → list_any (λ w. content_may (kind_of v) (May k) (variant_content closed w)) ws ≡ true
    variants_sound k i closed [] h = h
    variants_sound k i closed (w ∷ ws) h =
        or_holds (content_takes lead pj (T k) (variant_content closed w)) (list_any (λ u. content_takes lead pj (T k) (variant_content closed u)) ws)
        (content_may (kind_of v) (May k) (variant_content closed w)) (list_any (λ u. content_may (kind_of v) (May k) (variant_content closed u)) ws)
        (content_sound k i (variant_content closed w)) (variants_sound k i closed ws) h

    body_sound : (k : ℕ) → ItemsSound k → (closed : Bool) (b : BodyModel) → body_takes lead pj (T k) closed b v ≡ true → body_may (kind_of v) (May k) closed b ≡ true
    body_sound k i closed (struct_model struct_style fs) h = struct_is closed fs v h
    body_sound k i closed (struct_model newtype_style []) h = h
    body_sound k i closed (struct_model newtype_style (f ∷ [])) h = type_sound k i f.field_type h
    body_sound k i closed (struct_model newtype_style (f ∷ g ∷ fs)) h = h
    body_sound k i closed (struct_model tuple_style fs) h = h
    body_sound k i closed (struct_model unit_style fs) h = h
    body_sound k i closed (enum_model external_tag ws) h = external_is closed ws v h
    body_sound k i closed (enum_model (internal_tag tag) ws) h = internal_is closed tag ws v h
    body_sound k i closed (enum_model (adjacent_tag tag content) ws) h = adjacent_is closed tag content ws v h
    body_sound k i closed (enum_model untagged ws) h = variants_sound k i closed ws h

    container_sound : (k : ℕ) → ItemsSound k → (o : Option ContainerModel) → container_takes lead pj (T k) r cs v o ≡ true → container_may (kind_of v) (May k) o ≡ true
    container_sound k i None h = h
    container_sound k i (Some m) h = body_sound k i m.closed m.body (and_left (body_takes lead pj (T k) m.closed m.body v) (not m.try_from || given_rule_agrees r v (rule_of m.name cs.constraints)) h)

    item_sound : (k : ℕ) → ItemsSound k
    item_sound zero n h = h
    item_sound (suc k) n h = container_sound k (item_sound k) (container_named n models) h

pub kinds_are_sound : KindsAreSound
kinds_are_sound models cs r t v h = type_sound models cs r v (allowed models) (item_sound models cs r v (allowed models)) t (sym (reads-level models cs r v (one_type t)) ∙ h)
