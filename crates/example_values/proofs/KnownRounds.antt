-- Rounds that are settled count in how many rounds everything is built.
use Rattle.std.proofs.Common.{◌≡◌, ℕ, zero, suc, List, [], ◌∷◌, ◌++◌, cond, Bool, true, false, ◌||◌, ◌&&◌, refl, sym, ap, ◌∙◌, Option, Some, None, is_some}
use Rattle.std.specs.Prelude.{◌==◌}
use Rattle.std.specs.List.{list_all}
use Rattle.std.proofs.Math.Dec.{leb-zero}
use Rattle.name_tables.specs.Names.{place_of}
use Rattle.value_models.specs.Names.{container_names, at_place}
use Rattle.value_models.proofs.Found.{containers_are_found}
use Rattle.model_defs.specs.Types.{TypeModel, TypeModels, no_types, type_then, boolean_type, integer_type, text_type, native_type, any_type, unit_type, option_type, boxed_type, vec_type, set_type, map_type, tuple_type, array_type, item_type, outside_type, types_of, types}
use Rattle.model_defs.specs.Model.{Style, struct_style, tuple_style, newtype_style, unit_style, FieldModel, VariantModel, external_tag, internal_tag, adjacent_tag, untagged, BodyModel, struct_model, enum_model, ContainerModel, ConversionsD, container_named}
use Rattle.model_defs.specs.Layer.{Content, one_type, places, named_fields, may_be_missing, present_type, variant_content, fields_content, is_unit}
use Rattle.model_defs.specs.Reads.{leads_to_option}
use Rattle.example_defs.specs.Built.{has_number, inner_type, found_name, is_ready, or_else, first_found, first_ready, field_built, fields_built, body_built, container_built, ruled_value, content_built_in}
use Rattle.example_defs.specs.Enough.{no_texts}
use Rattle.example_values.specs.Fewest.{Rounds, later, both, before_first, if_found, are_within, type_fewest, places_fewest, field_fewest, fields_fewest, content_fewest, variant_fewest, found_fewest, ready_fewest, body_fewest, item_fewest}
use Rattle.example_values.specs.Known.{rounds_of, rounds_of_place, gives, AreSettled, AreCounted}
use Rattle.example_values.proofs.Numbers.{both_within, either_within, later_within, later_first, before_within, one_within, in_first_within, in_first_zero}

pub types_back : (ts : List TypeModel) → types_of (types ts) ≡ ts
types_back [] = refl
types_back (t ∷ ts) = ap (λ us. t ∷ us) (types_back ts)

module _ (ms : List ContainerModel) (cs : ConversionsD) (item : List ℕ → Rounds) where
  abbrev lead : TypeModel → Bool
  lead t = leads_to_option ms t

  abbrev B : ℕ → Content → Bool
  B n c = content_built_in ms cs no_texts n c

  abbrev F : Content → Rounds
  F c = content_fewest lead item c

  pub alike : (closed : Bool) (style : Style) (fs : List FieldModel) → F (fields_content closed style fs) ≡ F (fields_content false style fs)
  alike closed struct_style fs = refl
  alike closed tuple_style fs = refl
  alike closed newtype_style [] = refl
  alike closed newtype_style (f ∷ []) = refl
  alike closed newtype_style (f ∷ g ∷ fs) = refl
  alike closed unit_style fs = refl

  -- ---- what is known of parts in so many rounds is known of the whole

  module _ (n : ℕ) (known : (c : Content) → B n c ≡ are_within (F c) n) where
    abbrev Within : Rounds → Bool
    Within r = are_within r n

    places_known : (ts : TypeModels) → list_all (λ t. B n (one_type t)) (types_of ts) ≡ Within (places_fewest item ts)
    places_known no_types = sym (leb-zero n)
    places_known (type_then t ts) = (λ i. known (one_type t) i && places_known ts i) ∙ sym (both_within (type_fewest item t) (places_fewest item ts) n)

    field_known : (earlier : List (List ℕ)) (f : FieldModel) → field_built lead (λ c. B n c) earlier f ≡ Within (field_fewest lead item earlier f)
    field_known earlier f = by (may_be_missing lead f) (found_name earlier f.deserialize_names)
      where
        by : (b : Bool) (o : Option (List ℕ)) → (b || (is_some o && B n (one_type (present_type f)))) ≡ Within (cond b (Some 0) (if_found o (type_fewest item (present_type f))))
        by true o = sym (leb-zero n)
        by false None = refl
        by false (Some m) = known (one_type (present_type f))

    fields_known : (earlier : List (List ℕ)) (fs : List FieldModel) → fields_built lead (λ c. B n c) earlier fs ≡ Within (fields_fewest lead item earlier fs)
    fields_known earlier [] = sym (leb-zero n)
    fields_known earlier (f ∷ fs) = by f.is_rest (fields_known earlier fs) (fields_known (f.deserialize_names ++ earlier) fs)
      where
        by : (b : Bool) → fields_built lead (λ c. B n c) earlier fs ≡ Within (fields_fewest lead item earlier fs)
            → fields_built lead (λ c. B n c) (f.deserialize_names ++ earlier) fs ≡ Within (fields_fewest lead item (f.deserialize_names ++ earlier) fs)
            → cond b (fields_built lead (λ c. B n c) earlier fs) (field_built lead (λ c. B n c) earlier f && fields_built lead (λ c. B n c) (f.deserialize_names ++ earlier) fs)
            ≡ Within (cond b (fields_fewest lead item earlier fs) (both (field_fewest lead item earlier f) (fields_fewest lead item (f.deserialize_names ++ earlier) fs)))
        by true one two = one
        by false one two =
            (λ i. field_known earlier f i && two i)
            ∙ sym (both_within (field_fewest lead item earlier f) (fields_fewest lead item (f.deserialize_names ++ earlier) fs) n)

    ready_known : (closed : Bool) (w : VariantModel) → is_ready lead (λ c. B n c) closed w ≡ Within (variant_fewest lead item w)
    ready_known closed w = by (is_unit w)
      where
        by : (b : Bool) → (b || B n (variant_content closed w)) ≡ Within (cond b (Some 0) (F (variant_content false w)))
        by true = sym (leb-zero n)
        by false = known (variant_content closed w) ∙ ap Within (alike closed w.style w.fields)

    found_known : (closed : Bool) (earlier : List (List ℕ)) (ws : List VariantModel) → is_some (first_found lead (λ c. B n c) closed earlier ws) ≡ Within (found_fewest lead item earlier ws)
    found_known closed earlier [] = refl
    found_known closed earlier (w ∷ ws) =
        by (found_name earlier w.deserialize_names) (is_ready lead (λ c. B n c) closed w) (first_found lead (λ c. B n c) closed (w.deserialize_names ++ earlier) ws)
        ∙ (λ i. if_known (found_name earlier w.deserialize_names) (is_ready lead (λ c. B n c) closed w) (variant_fewest lead item w) (ready_known closed w) i || found_known closed (w.deserialize_names ++ earlier) ws i)
        ∙ sym (either_within (if_found (found_name earlier w.deserialize_names) (variant_fewest lead item w)) (found_fewest lead item (w.deserialize_names ++ earlier) ws) n)
      where
        by : (o : Option (List ℕ)) (b : Bool) (rest : Option (List ℕ × VariantModel)) → is_some (or_else lead (λ c. B n c) o b w rest) ≡ ((is_some o && b) || is_some rest)
        by None b rest = refl
        by (Some m) true rest = refl
        by (Some m) false rest = refl

        if_known : (o : Option (List ℕ)) (b : Bool) (r : Rounds) → b ≡ Within r → (is_some o && b) ≡ Within (if_found o r)
        if_known None b r e = refl
        if_known (Some m) b r e = e

    first_known : (closed : Bool) (ws : List VariantModel) → is_some (first_ready lead (λ c. B n c) closed ws) ≡ Within (ready_fewest lead item ws)
    first_known closed [] = refl
    first_known closed (w ∷ ws) =
        by (is_ready lead (λ c. B n c) closed w) (first_ready lead (λ c. B n c) closed ws)
        ∙ (λ i. ready_known closed w i || first_known closed ws i)
        ∙ sym (either_within (variant_fewest lead item w) (ready_fewest lead item ws) n)
      where
        by : (b : Bool) (rest : Option (List ℕ × VariantModel)) → is_some (cond b (Some (w.serialize_name, w)) rest) ≡ (b || is_some rest)
        by true rest = refl
        by false rest = refl

    pub body_known : (closed : Bool) (b : BodyModel) → body_built lead (λ c. B n c) closed b ≡ Within (body_fewest lead item b)
    body_known closed (struct_model struct_style fs) = fields_known [] fs
    body_known closed (struct_model newtype_style fs) = known (one_type (inner_type (struct_model newtype_style fs)))
    body_known closed (struct_model tuple_style fs) = refl
    body_known closed (struct_model unit_style fs) = refl
    body_known closed (enum_model external_tag ws) = found_known closed [] ws
    body_known closed (enum_model (internal_tag t) ws) = found_known closed [] ws
    body_known closed (enum_model (adjacent_tag t k) ws) = found_known closed [] ws
    body_known closed (enum_model untagged ws) = first_known closed ws

    container_known : (o : Option ContainerModel) → container_built lead (λ c. B n c) (λ m. ruled_value ms cs no_texts m) o ≡ are_within (item_fewest lead item (gives ms cs) o) (suc n)
    container_known None = refl
    container_known (Some m) =
        under m.try_from ∙ sym (later_within (cond m.try_from (before_first (gives ms cs m)) (body_fewest lead item m.body)) n)
      where
        under : (b : Bool) → cond b (is_some (ruled_value ms cs no_texts m)) (body_built lead (λ c. B n c) m.closed m.body)
            ≡ Within (cond b (before_first (b && is_some (ruled_value ms cs no_texts m))) (body_fewest lead item m.body))
        under true = sym (before_within (is_some (ruled_value ms cs no_texts m)) n)
        under false = body_known m.closed m.body

    module _ (items : (m : List ℕ) → item m ≡ item_fewest lead item (gives ms cs) (container_named m ms)) where
      array_known : (k : ℕ) (t : TypeModel) → ((k == 0) || B n (one_type t)) ≡ are_within (cond (k == 0) (Some 1) (later (type_fewest item t))) (suc n)
      array_known k t = by (k == 0)
        where
          by : (b : Bool) → (b || B n (one_type t)) ≡ are_within (cond b (Some 1) (later (type_fewest item t))) (suc n)
          by true = sym (one_within n)
          by false = known (one_type t) ∙ sym (later_within (type_fewest item t) n)

      next_known : (c : Content) → B (suc n) c ≡ are_within (F c) (suc n)
      next_known (one_type boolean_type) = sym (one_within n)
      next_known (one_type (integer_type g)) = sym (in_first_within (has_number g) n)
      next_known (one_type text_type) = sym (one_within n)
      next_known (one_type (native_type f)) = refl
      next_known (one_type any_type) = sym (one_within n)
      next_known (one_type unit_type) = sym (one_within n)
      next_known (one_type (option_type t)) = sym (one_within n)
      next_known (one_type (boxed_type t)) = known (one_type t) ∙ sym (later_within (type_fewest item t) n)
      next_known (one_type (vec_type t)) = sym (one_within n)
      next_known (one_type (set_type t)) = sym (one_within n)
      next_known (one_type (map_type k t)) = sym (one_within n)
      next_known (one_type (tuple_type ts)) = places_known ts ∙ sym (later_within (places_fewest item ts) n)
      next_known (one_type (array_type t k)) = array_known k t
      next_known (one_type (item_type m)) = container_known (container_named m ms) ∙ ap (λ r. are_within r (suc n)) (sym (items m))
      next_known (one_type outside_type) = refl
      next_known (places ts) =
          ap (list_all (λ t. B n (one_type t))) (sym (types_back ts)) ∙ places_known (types ts) ∙ sym (later_within (places_fewest item (types ts)) n)
      next_known (named_fields closed fs) = fields_known [] fs ∙ sym (later_within (fields_fewest lead item [] fs) n)

  -- ---- nothing is built in no round

  module _ (items : (m : List ℕ) → item m ≡ item_fewest lead item (gives ms cs) (container_named m ms)) where
    none_at_first : (c : Content) → false ≡ are_within (F c) 0
    none_at_first (one_type boolean_type) = sym (in_first_zero true)
    none_at_first (one_type (integer_type g)) = sym (in_first_zero (has_number g))
    none_at_first (one_type text_type) = sym (in_first_zero true)
    none_at_first (one_type (native_type f)) = refl
    none_at_first (one_type any_type) = sym (in_first_zero true)
    none_at_first (one_type unit_type) = sym (in_first_zero true)
    none_at_first (one_type (option_type t)) = sym (in_first_zero true)
    none_at_first (one_type (boxed_type t)) = sym (later_first (type_fewest item t))
    none_at_first (one_type (vec_type t)) = sym (in_first_zero true)
    none_at_first (one_type (set_type t)) = sym (in_first_zero true)
    none_at_first (one_type (map_type k t)) = sym (in_first_zero true)
    none_at_first (one_type (tuple_type ts)) = sym (later_first (places_fewest item ts))
    none_at_first (one_type (array_type t k)) = by (k == 0)
      where
        by : (b : Bool) → false ≡ are_within (cond b (Some 1) (later (type_fewest item t))) 0
        by true = sym (in_first_zero true)
        by false = sym (later_first (type_fewest item t))
    none_at_first (one_type (item_type m)) = by (container_named m ms) ∙ ap (λ r. are_within r 0) (sym (items m))
      where
        by : (o : Option ContainerModel) → false ≡ are_within (item_fewest lead item (gives ms cs) o) 0
        by None = refl
        by (Some k) = sym (later_first (cond k.try_from (before_first (gives ms cs k)) (body_fewest lead item k.body)))
    none_at_first (one_type outside_type) = refl
    none_at_first (places ts) = sym (later_first (places_fewest item (types ts)))
    none_at_first (named_fields closed fs) = sym (later_first (fields_fewest lead item [] fs))

    pub all_known : (n : ℕ) (c : Content) → B n c ≡ are_within (F c) n
    all_known zero c = none_at_first c
    all_known (suc n) c = next_known n (all_known n) items c

-- ---- by places

module _ (ms : List ContainerModel) (cs : ConversionsD) (rounds : List Rounds) (settled : AreSettled ms cs rounds) where
  abbrev now : Option ContainerModel → Rounds
  now o = item_fewest (leads_to_option ms) (rounds_of ms rounds) (gives ms cs) o

  at_places : (n : List ℕ) (o : Option ℕ) → place_of n (container_names 0 ms) ≡ o → rounds_of_place rounds o ≡ now (container_named n ms)
  at_places n None e = ap now (sym (containers_are_found n ms ∙ ap (at_place ms) e))
  at_places n (Some p) e = settled p ∙ ap now (sym (containers_are_found n ms ∙ ap (at_place ms) e))

  pub settled_count : AreCounted ms cs rounds
  settled_count = all_known ms cs (rounds_of ms rounds) (λ n. at_places n (place_of n (container_names 0 ms)) refl)
