-- One value at contents, variants and items: what reading gives agrees with what the definitions say.
use Rattle.std.proofs.Common.{◌≡◌, ℕ, zero, suc, List, [], ◌∷◌, map, filter, drop, slice_get, Bool, true, false, ◌&&◌, ◌||◌, not, cond, refl, sym, ap, ◌∙◌, subst, true≢false, bytes_eq, Option, Some, None}
use Rattle.std.specs.List.{list_any}
use Rattle.json_value.specs.Value as value
use Rattle.json_value.specs.Value.{Value, Members, null, number, fraction, text, list, object, items, member, no_members, member_at}
use Rattle.schema_defs.specs.Location.{Location}
use Rattle.schema_defs.specs.Texts.{Relations}
use Rattle.model_defs.specs.Types.{TypeModel, map_type, outside_type, item_type}
use Rattle.model_defs.specs.Model.{Style, struct_style, tuple_style, newtype_style, unit_style, FieldModel, VariantModel, TagModel, external_tag, internal_tag, adjacent_tag, untagged, BodyModel, struct_model, enum_model, ContainerModel, ConversionsD, container_named, variant_named, rule_of}
use Rattle.model_defs.specs.Layer as layer
use Rattle.model_defs.specs.Layer.{Content, one_type, places, named_fields, Judge, MemberPart, Parts, is_null, own_members, unnamed_members, without, named, members_in, fields_content, variant_content, is_unit, is_unit_named, variant_of_text, tagged_variant, contents_take, external_takes, beside_tag, internal_takes, beside_content, adjacent_takes, is_none, map_takes, field_takes, type_takes, content_takes, struct_item_takes, enum_takes, body_takes, container_takes, given_rule_agrees, struct_takes}
use Rattle.model_defs.specs.Refusals as refusals
use Rattle.model_defs.specs.Refusals.{Seen, judged, in_map, in_field, in_fields, in_struct, in_contents, in_external, of_variant, after_tag, tag_value, in_internal, in_content, in_adjacent, type_stops, content_stops, before_rule, body_stops, container_stops}
use Rattle.model_defs.specs.Settled.{Part, put, type_writes, content_writes, name_written, member_written, external_writes, internal_writes, adjacent_writes, contents_written as settled_contents, untagged_writes, body_writes, container_writes, struct_written}
use Rattle.model_defs.specs.Reach.{asked_by_content, asked_by_variants, asked_by_body, asked_by, is_among}
use Rattle.model_defs.proofs.Reach.{left_among, right_among}
use Rattle.typed_defs.specs.Typed as typed
use Rattle.typed_defs.specs.Typed.{Typed, typeds}
use Rattle.typed_defs.specs.Written as written'
use Rattle.typed_defs.specs.Written.{FieldPart, written, fields_of, is_unit_style, variant_writes, parts_of, by_places, field_types, item_writes}
use Rattle.reading_defs.specs.Proper.{has_json_numbers, has_shape, is_newtype}
use Rattle.reading_defs.specs.Reading as reading
use Rattle.reading_defs.specs.Reading.{Read, taken, stopped, unsound, Reader, read_map, under, kept_if, or_next, type_read, content_read, members_read, struct_read, tuple_read, unit_read, of_name, of_tag, variant_of, unit_of, unit_named, contents_read, content_beside, adjacent_read, internal_read, external_read, variant_read, untagged_read, enum_read, newtype_read, item_of_style, body_read, container_read, rule_holds, absent}
use Rattle.reading_defs.proofs.Agree.{Agrees, agrees_map, agrees_as, agrees_under, agrees_along, agrees_kept, agrees_next, filter_map}
use Rattle.reading_defs.proofs.Parts.{Part', Entry, contents_written, takes_at, seen_at, part_at, reader_at}
use Rattle.reading_defs.proofs.Rows.{item_written, writers_of_fields}
use Rattle.reading_defs.proofs.Good.{FieldsAreGood, ContentIsGood}
use Rattle.reading_defs.proofs.Fields.{members_agree, StructSays, leads}
use Rattle.reading_defs.proofs.Types.{Inside, none_inside, items_inside, members_inside, takes_in, seen_in, parts_in, readers_in, tuple_agrees, type_agrees, ItemAgrees}

-- ---- a list from a place on

pub head_at : {A : Type 0} → (xs : List A) (i : ℕ) (y : A) (ys : List A) → drop i xs ≡ y ∷ ys → slice_get xs i ≡ Some y
head_at [] zero y ys e = cc
head_at [] (suc i) y ys e = cc
head_at (x ∷ xs) zero y ys e = let h : x ≡ y = cc in ap Some h
head_at (x ∷ xs) (suc i) y ys e = head_at xs i y ys e

pub tail_at : {A : Type 0} → (xs : List A) (i : ℕ) (y : A) (ys : List A) → drop i xs ≡ y ∷ ys → drop (suc i) xs ≡ ys
tail_at [] zero y ys e = cc
tail_at [] (suc i) y ys e = cc
tail_at (x ∷ xs) zero y ys e = cc
tail_at (x ∷ xs) (suc i) y ys e = tail_at xs i y ys e

unit_is : (w : VariantModel) → is_unit w ≡ is_unit_style w.style
unit_is w = by w.style
  where
    by : (s : Style) → let b : Bool = elim s [ unit_style ↦ true | struct_style ↦ false | tuple_style ↦ false | newtype_style ↦ false ] in b ≡ is_unit_style s
    by struct_style = refl
    by tuple_style = refl
    by newtype_style = refl
    by unit_style = refl

tagged : (tag : List ℕ) (ws : List VariantModel) (v : Value) → tagged_variant tag ws v ≡ variant_of_text ws (tag_value tag v)
tagged tag ws (object ms) = refl
tagged tag ws _ = refl

module _ (models : List ContainerModel) (E : Type 0) (d : ℕ → TypeModel → Value) (q : ℕ → TypeModel → Read Typed) where
  abbrev Es : Type 0
  Es = List (Entry models E d q)

  -- ---- an object without members

  no_unnamed : (fs : List FieldModel) → unnamed_members {J = Seen} fs [] ≡ []
  no_unnamed [] = refl
  no_unnamed (f ∷ fs) = by f.is_rest (no_unnamed fs)
    where
      by : (b : Bool) → unnamed_members {J = Seen} fs [] ≡ [] → cond b (unnamed_members {J = Seen} fs []) (unnamed_members {J = Seen} fs []) ≡ []
      by true h = h
      by false h = h

  no_map_stops : (t : TypeModel) → in_map t [] ≡ []
  no_map_stops (map_type k t) = refl
  no_map_stops _ = refl

  no_fields_stop : (fs : List FieldModel) → in_fields (leads models E d q) fs [] [] ≡ []
  no_fields_stop [] = refl
  no_fields_stop (f ∷ fs) = by f.is_rest (map_takes f.field_type []) (field_takes (leads models E d q) f []) (in_map f.field_type []) (no_map_stops f.field_type) (no_fields_stop fs)
    where
      by : (b c e : Bool) (s : Location) → s ≡ [] → in_fields (leads models E d q) fs [] [] ≡ []
          → cond b (cond c (in_fields (leads models E d q) fs [] []) s) (cond e (in_fields (leads models E d q) fs [] []) []) ≡ []
      by true true e s h g = g
      by true false e s h g = h
      by false c true s h g = g
      by false c false s h g = refl

  no_struct_stops : (closed : Bool) (fs : List FieldModel) → in_struct (leads models E d q) closed fs [] ≡ []
  no_struct_stops true fs = ap (λ us. refusals.after_unnamed (leads models E d q) true fs us []) (no_unnamed fs) ∙ no_fields_stop fs
  no_struct_stops false fs = ap (λ us. in_fields (leads models E d q) fs us []) (no_unnamed fs) ∙ no_fields_stop fs

  -- ---- contents of variants

  pub record VariantIsGood (w : VariantModel) : Type 0 where
    pub fields : FieldsAreGood models E d q w.fields
    pub shape : has_shape w.style w.fields ≡ true

  abbrev pub VariantsAreGood : List VariantModel → Type 0
  VariantsAreGood [] = Unit {0}
  VariantsAreGood (w ∷ ws) = VariantIsGood w × VariantsAreGood ws

  abbrev pub BodyIsGood : BodyModel → Type 0
  BodyIsGood (struct_model style fs) = FieldsAreGood models E d q fs
  BodyIsGood (enum_model tag ws) = VariantsAreGood ws

  pub record ContainerIsGood (m : ContainerModel) : Type 0 where
    pub body : BodyIsGood m.body
    pub rule : (not m.try_from || is_newtype m.body) ≡ true

  abbrev pub GivenIsGood : Option ContainerModel → Type 0
  GivenIsGood None = Unit {0}
  GivenIsGood (Some m) = ContainerIsGood m

  fields_content_good : (closed : Bool) (s : Style) (fs : List FieldModel) → FieldsAreGood models E d q fs → ContentIsGood models E d q (fields_content closed s fs)
  fields_content_good closed struct_style fs g = g
  fields_content_good closed tuple_style fs g = tt
  fields_content_good closed newtype_style [] g = tt
  fields_content_good closed newtype_style (f ∷ []) g = tt
  fields_content_good closed newtype_style (f ∷ h ∷ fs) g = tt
  fields_content_good closed unit_style fs g = tt

  -- what contents are written as is what the variant's fields are
  contents_are : (closed : Bool) (s : Style) (fs : List FieldModel) (xs : List Typed) → has_shape s fs ≡ true → is_unit_style s ≡ false
      → written'.content_writes s fs (fields_of models (typeds xs)) ≡ contents_written models E d q (fields_content closed s fs) xs
  contents_are closed struct_style fs xs h u = refl
  contents_are closed tuple_style fs xs h u = ap (λ ws. list (items (by_places (field_types fs) ws))) (writers_of_fields models xs)
  contents_are closed newtype_style [] xs h u = absurd (true≢false (sym h))
  contents_are closed newtype_style (f ∷ []) [] h u = refl
  contents_are closed newtype_style (f ∷ []) (x ∷ []) h u = refl
  contents_are closed newtype_style (f ∷ []) (x ∷ y ∷ xs) h u = refl
  contents_are closed newtype_style (f ∷ g ∷ fs) xs h u = absurd (true≢false (sym h))
  contents_are closed unit_style fs xs h u = absurd (true≢false u)

  -- ---- the variant of a name

  by_name : (ws : List VariantModel) (found : ℕ → VariantModel → Read Typed) (missing : Read Typed) (takes : Option VariantModel → Bool) (stops : Option VariantModel → Location)
      (P : Option VariantModel → Typed → Type 0) (n : List ℕ) → Agrees E (takes None) (stops None) (P None) missing
      → ((i : ℕ) (w : VariantModel) → slice_get ws i ≡ Some w → Agrees E (takes (Some w)) (stops (Some w)) (P (Some w)) (found i w))
      → (i : ℕ) (us : List VariantModel) → drop i ws ≡ us → Agrees E (takes (variant_named n us)) (stops (variant_named n us)) (P (variant_named n us)) (of_name found missing i us n)
  by_name ws found missing takes stops P n miss hit i [] e = miss
  by_name ws found missing takes stops P n miss hit i (w ∷ us) e =
      by (list_any (bytes_eq n) w.deserialize_names) (hit i w (head_at ws i w us e)) (by_name ws found missing takes stops P n miss hit (suc i) us (tail_at ws i w us e))
    where
      by : (b : Bool) → Agrees E (takes (Some w)) (stops (Some w)) (P (Some w)) (found i w)
          → Agrees E (takes (variant_named n us)) (stops (variant_named n us)) (P (variant_named n us)) (of_name found missing (suc i) us n)
          → Agrees E (takes (cond b (Some w) (variant_named n us))) (stops (cond b (Some w) (variant_named n us))) (P (cond b (Some w) (variant_named n us))) (cond b (found i w) (of_name found missing (suc i) us n))
      by true g h = g
      by false g h = h

  -- of a tag
  by_tag : (tag : List ℕ) (ws : List VariantModel) (found : ℕ → VariantModel → Read Typed) (takes : Option VariantModel → Bool) (stops : VariantModel → Location)
      (P : Option VariantModel → Typed → Type 0) → takes None ≡ false
      → ((i : ℕ) (w : VariantModel) → slice_get ws i ≡ Some w → Agrees E (takes (Some w)) (stops w) (P (Some w)) (found i w))
      → (o : Option Value) → Agrees E (takes (variant_of_text ws o)) (after_tag tag ws stops o) (P (variant_of_text ws o)) (reading.after_tag tag ws found o)
  by_tag tag ws found takes stops P none hit None = (none, refl)
  by_tag tag ws found takes stops P none hit (Some (text s)) = by_name ws found (stopped (tag ∷ [])) takes (of_variant tag stops) P s (none, refl) hit 0 ws refl
  by_tag tag ws found takes stops P none hit (Some null) = (none, refl)
  by_tag tag ws found takes stops P none hit (Some (value.boolean b)) = (none, refl)
  by_tag tag ws found takes stops P none hit (Some (number z)) = (none, refl)
  by_tag tag ws found takes stops P none hit (Some fraction) = (none, refl)
  by_tag tag ws found takes stops P none hit (Some (list xs)) = (none, refl)
  by_tag tag ws found takes stops P none hit (Some (object ms)) = (none, refl)

  good_at : (ws : List VariantModel) (i : ℕ) (w : VariantModel) → VariantsAreGood ws → slice_get ws i ≡ Some w → VariantIsGood w
  good_at [] i w g e = cc
  good_at (x ∷ ws) zero w g e = let h : x ≡ w = cc in subst VariantIsGood h g.0
  good_at (x ∷ ws) (suc i) w g e = good_at ws i w g.1 e

  -- ---- an enum

  module _ (n : List ℕ) (m : ContainerModel) (named_so : container_named n models ≡ Some m) (tag : TagModel) (ws : List VariantModel) (has_body : m.body ≡ enum_model tag ws) where
    abbrev Is : Value → Typed → Type 0
    Is w x = written models (item_type n) x ≡ w

    variant_written : (i : ℕ) (w : VariantModel) (xs : List Typed) → slice_get ws i ≡ Some w → written models (item_type n) (variant_of i xs) ≡ variant_writes tag w (fields_of models (typeds xs))
    variant_written i w xs e =
        item_written models n (variant_of i xs) ∙ ap (λ o. item_writes o (parts_of models (variant_of i xs))) named_so
        ∙ ap (λ b. written'.body_writes b (parts_of models (variant_of i xs))) has_body ∙ ap (λ o. written'.chosen_writes tag o (fields_of models (typeds xs))) e

    -- the contents of a variant with fields, wrapped
    wrapped_written : (closed : Bool) (i : ℕ) (w : VariantModel) (xs : List Typed) (c : Value) → VariantIsGood w → is_unit w ≡ false → slice_get ws i ≡ Some w
        → contents_written models E d q (variant_content closed w) xs ≡ c → written models (item_type n) (variant_of i xs) ≡ written'.wrapped tag w c
    wrapped_written closed i w xs c g u e h =
        variant_written i w xs e ∙ ap (written'.wrapped tag w) (contents_are closed w.style w.fields xs g.shape (sym (unit_is w) ∙ u) ∙ h)

    -- a unit variant, wrapped
    unit_written : (i : ℕ) (w : VariantModel) → is_unit w ≡ true → slice_get ws i ≡ Some w → written models (item_type n) (unit_of i []) ≡ written'.wrapped tag w null
    unit_written i w u e = variant_written i w [] e ∙ ap (written'.wrapped tag w) (by w.style (sym (unit_is w) ∙ u))
      where
        by : (s : Style) → is_unit_style s ≡ true → written'.content_writes s w.fields [] ≡ null
        by struct_style h = absurd (true≢false (sym h))
        by tuple_style h = absurd (true≢false (sym h))
        by newtype_style h = absurd (true≢false (sym h))
        by unit_style h = refl

  unit_fields : (fs : List FieldModel) → has_shape unit_style fs ≡ true → fs ≡ []
  unit_fields [] h = refl
  unit_fields (f ∷ fs) h = absurd (true≢false (sym h))

  module _ (reads : Content → Bool) (v : Value) (pp : Parts Part) (W : TypeModel → Value) (closed : Bool)
      (n : List ℕ) (m : ContainerModel) (named_so : container_named n models ≡ Some m) (ws : List VariantModel) (good : VariantsAreGood ws) where
    abbrev lead : TypeModel → Bool
    lead = leads models E d q

    -- ---- externally tagged

    module _ (has_body : m.body ≡ enum_model external_tag ws) where
      by_unit : (i : ℕ) (w : VariantModel) → slice_get ws i ≡ Some w → (b : Bool) → is_unit w ≡ b
          → Agrees E b [] (λ x. written models (item_type n) x ≡ text w.serialize_name) (cond b (taken (unit_of i [])) (stopped []))
      by_unit i w e true u = (refl, unit_written n m named_so external_tag ws has_body i w u e ∙ ap (λ z. cond z (text w.serialize_name) (object (member w.serialize_name null no_members))) (sym (unit_is w) ∙ u))
      by_unit i w e false u = (refl, refl)

      external_text : (s : List ℕ)
          → Agrees E (is_unit_named (variant_named s ws)) [] (λ x. written models (item_type n) x ≡ name_written lead d reads v pp W (variant_named s ws)) (of_name unit_named (stopped []) 0 ws s)
      external_text s =
          by_name ws unit_named (stopped []) is_unit_named (λ o. []) (λ o x. written models (item_type n) x ≡ name_written lead d reads v pp W o) s
          (refl, refl) (λ i w e. by_unit i w e (is_unit w) refl) 0 ws refl

      by_contents : (c : Entry models E d q) (i : ℕ) (w : VariantModel) → slice_get ws i ≡ Some w → VariantIsGood w → (b : Bool) → is_unit w ≡ b
          → Agrees E (not b && c.value.seen.takes (variant_content closed w)) (cond b [] (c.name ∷ c.value.seen.stops (variant_content closed w)))
          (λ x. written models (item_type n) x ≡ object (member w.serialize_name (c.value.part.writes (variant_content closed w)) no_members))
          (cond b (stopped []) (under c.name (read_map (variant_of i) (c.value.reader.as_content (variant_content closed w)))))
      by_contents c i w e g true u = (refl, refl)
      by_contents c i w e g false u =
          let P : Typed → Type 0 = λ x. written models (item_type n) x ≡ object (member w.serialize_name (c.value.part.writes (variant_content closed w)) no_members) in
          agrees_under E P c.name (c.value.seen.takes (variant_content closed w)) (c.value.seen.stops (variant_content closed w)) (read_map (variant_of i) (c.value.reader.as_content (variant_content closed w)))
          (agrees_map E (λ xs. contents_written models E d q (variant_content closed w) xs ≡ c.value.part.writes (variant_content closed w)) P (variant_of i)
          (c.value.seen.takes (variant_content closed w)) (c.value.seen.stops (variant_content closed w))
          (λ xs h. wrapped_written n m named_so external_tag ws has_body closed i w xs (c.value.part.writes (variant_content closed w)) g u e h
          ∙ ap (λ z. cond z (text w.serialize_name) (object (member w.serialize_name (c.value.part.writes (variant_content closed w)) no_members))) (sym (unit_is w) ∙ u))
          (c.value.reader.as_content (variant_content closed w)) (c.value.as_content (variant_content closed w) (fields_content_good closed w.style w.fields g.fields)))

      external_member : (c : Entry models E d q)
          → Agrees E (contents_take closed c.value.seen.takes (variant_named c.name ws)) (in_contents closed (seen_at models E d q c) (variant_named c.name ws))
          (λ x. written models (item_type n) x ≡ member_written lead d reads v pp W closed c.value.part (variant_named c.name ws)) (of_name (contents_read closed (reader_at models E d q c)) (stopped []) 0 ws c.name)
      external_member c =
          by_name ws (contents_read closed (reader_at models E d q c)) (stopped []) (contents_take closed c.value.seen.takes) (in_contents closed (seen_at models E d q c))
          (λ o x. written models (item_type n) x ≡ member_written lead d reads v pp W closed c.value.part o) c.name
          (refl, refl) (λ i w e. by_contents c i w e (good_at ws i w good e) (is_unit w) refl) 0 ws refl

    -- ---- the parts of an object, without a name, and of a name

    abbrev others_of : List ℕ → Es → Es
    others_of k es = filter (λ e. not (bytes_eq k e.name)) es

    abbrev those_of : List ℕ → Es → Es
    those_of k es = filter (λ e. bytes_eq k e.name) es

    -- ---- internally tagged, beside the fields

    module _ (tag : List ℕ) (has_body : m.body ≡ enum_model (internal_tag tag) ws) (ms : Es) where
      abbrev Beside : VariantModel → Typed → Type 0
      Beside w x = written models (item_type n) x ≡ object (put tag (text w.serialize_name) (struct_written lead d w.fields (map (part_at models E d q) ms)))

      by_style : (i : ℕ) (w : VariantModel) → slice_get ws i ≡ Some w → VariantIsGood w → (s : Style) → w.style ≡ s
          → Agrees E (elim s [
            | struct_style ↦ layer.members_take lead closed w.fields (map (takes_at models E d q) ms)
            | unit_style ↦ layer.members_take lead closed [] (map (takes_at models E d q) ms)
            | tuple_style ↦ false
            | newtype_style ↦ false
          ]) (elim s [
            | struct_style ↦ in_struct lead closed w.fields (map (seen_at models E d q) ms)
            | unit_style ↦ in_struct lead closed [] (map (seen_at models E d q) ms)
            | tuple_style ↦ []
            | newtype_style ↦ []
          ]) (Beside w) (elim s [
            | struct_style ↦ read_map (variant_of i) (members_read q (absent models) closed w.fields (map (reader_at models E d q) ms))
            | unit_style ↦ read_map (unit_of i) (members_read q (absent models) closed [] (map (reader_at models E d q) ms))
            | tuple_style ↦ stopped []
            | newtype_style ↦ stopped []
          ])
      by_style i w e g struct_style h =
          agrees_map E (StructSays models E d q w.fields ms) (Beside w) (variant_of i) (layer.members_take lead closed w.fields (map (takes_at models E d q) ms)) (in_struct lead closed w.fields (map (seen_at models E d q) ms))
          (λ xs k. variant_written n m named_so (internal_tag tag) ws has_body i w xs e
          ∙ ap (λ z. written'.beside_tag tag w.serialize_name (written'.content_writes z w.fields (fields_of models (typeds xs)))) h
          ∙ ap (λ z. object (put tag (text w.serialize_name) z)) k)
          (members_read q (absent models) closed w.fields (map (reader_at models E d q) ms)) (members_agree models E d q closed w.fields g.fields ms)
      by_style i w e g unit_style h =
          agrees_map E (StructSays models E d q [] ms) (Beside w) (unit_of i) (layer.members_take lead closed [] (map (takes_at models E d q) ms)) (in_struct lead closed [] (map (seen_at models E d q) ms))
          (λ xs k. variant_written n m named_so (internal_tag tag) ws has_body i w [] e
          ∙ ap (λ z. written'.beside_tag tag w.serialize_name (written'.content_writes z w.fields [])) h
          ∙ ap (λ fs. object (put tag (text w.serialize_name) (struct_written lead d fs (map (part_at models E d q) ms)))) (sym (unit_fields w.fields (ap (λ z. has_shape z w.fields) (sym h) ∙ g.shape))))
          (members_read q (absent models) closed [] (map (reader_at models E d q) ms)) (members_agree models E d q closed [] tt ms)
      by_style i w e g tuple_style h = (refl, refl)
      by_style i w e g newtype_style h = (refl, refl)

    abbrev Internally : List ℕ → List (MemberPart Part) → Option VariantModel → Typed → Type 0
    Internally tag ps None x = written models (item_type n) x ≡ v
    Internally tag ps (Some w) x = written models (item_type n) x ≡ object (put tag (text w.serialize_name) (struct_written lead d w.fields ps))

    internal_parts : (tag : List ℕ) → m.body ≡ enum_model (internal_tag tag) ws → (es : Es) (o : Option Value)
        → Agrees E (internal_takes lead closed tag (map (takes_at models E d q) es) (variant_of_text ws o)) (after_tag tag ws (in_internal lead closed (without tag (map (seen_at models E d q) es))) o)
        (Internally tag (without tag (map (part_at models E d q) es)) (variant_of_text ws o)) (reading.after_tag tag ws (internal_read q (absent models) closed (without tag (map (reader_at models E d q) es))) o)
    internal_parts tag has_body es o =
        let ms = others_of tag es in
        subst (λ rs. Agrees E (internal_takes lead closed tag (map (takes_at models E d q) es) (variant_of_text ws o)) (after_tag tag ws (in_internal lead closed (without tag (map (seen_at models E d q) es))) o)
        (Internally tag (without tag (map (part_at models E d q) es)) (variant_of_text ws o)) (reading.after_tag tag ws (internal_read q (absent models) closed rs) o))
        (sym (filter_map (λ (j : MemberPart Reader). not (bytes_eq tag j.name)) (reader_at models E d q) es))
        (subst (λ ss. Agrees E (internal_takes lead closed tag (map (takes_at models E d q) es) (variant_of_text ws o)) (after_tag tag ws (in_internal lead closed ss) o)
        (Internally tag (without tag (map (part_at models E d q) es)) (variant_of_text ws o)) (reading.after_tag tag ws (internal_read q (absent models) closed (map (reader_at models E d q) ms)) o))
        (sym (filter_map (λ (j : MemberPart Seen). not (bytes_eq tag j.name)) (seen_at models E d q) es))
        (subst (λ ps. Agrees E (internal_takes lead closed tag (map (takes_at models E d q) es) (variant_of_text ws o)) (after_tag tag ws (in_internal lead closed (map (seen_at models E d q) ms)) o)
        (Internally tag ps (variant_of_text ws o)) (reading.after_tag tag ws (internal_read q (absent models) closed (map (reader_at models E d q) ms)) o))
        (sym (filter_map (λ (j : MemberPart Part). not (bytes_eq tag j.name)) (part_at models E d q) es))
        (by_tag tag ws (internal_read q (absent models) closed (map (reader_at models E d q) ms)) (internal_takes lead closed tag (map (takes_at models E d q) es)) (in_internal lead closed (map (seen_at models E d q) ms))
        (Internally tag (map (part_at models E d q) ms)) refl
        (λ i w e. subst (λ js. Agrees E (beside_tag lead closed js w) (in_internal lead closed (map (seen_at models E d q) ms) w) (Internally tag (map (part_at models E d q) ms) (Some w))
        (internal_read q (absent models) closed (map (reader_at models E d q) ms) i w))
        (sym (filter_map (λ (j : MemberPart Judge). not (bytes_eq tag j.name)) (takes_at models E d q) es)) (by_style tag has_body ms i w e (good_at ws i w good e) w.style refl)) o)))

    -- ---- adjacently tagged, beside the member of the contents

    module _ (tag content : List ℕ) (has_body : m.body ≡ enum_model (adjacent_tag tag content) ws) where
      abbrev Adjacently : List (MemberPart Part) → VariantModel → Typed → Type 0
      Adjacently ps w x = written models (item_type n) x ≡ object (put tag (text w.serialize_name) (settled_contents lead d reads v pp W closed content w ps no_members))

      alone : (i : ℕ) (w : VariantModel) → slice_get ws i ≡ Some w → (b : Bool) → is_unit w ≡ b → Agrees E b [] (Adjacently [] w) (cond b (taken (unit_of i [])) (stopped []))
      alone i w e true u = (
        refl,
        unit_written n m named_so (adjacent_tag tag content) ws has_body i w u e
            ∙ ap (λ z. object (put tag (text w.serialize_name) (cond z no_members (put content null no_members)))) (sym (unit_is w) ∙ u),
      )
      alone i w e false u = (refl, refl)

      beside : (c : Entry models E d q) (cs : Es) (i : ℕ) (w : VariantModel) → slice_get ws i ≡ Some w → VariantIsGood w → (b : Bool) → is_unit w ≡ b
          → Agrees E (not b && c.value.seen.takes (variant_content closed w)) (cond b (c.name ∷ []) (c.name ∷ c.value.seen.stops (variant_content closed w)))
          (λ x. written models (item_type n) x ≡ object (put tag (text w.serialize_name) (cond b no_members (put content (c.value.part.writes (variant_content closed w)) no_members))))
          (cond b (stopped (c.name ∷ [])) (under c.name (read_map (variant_of i) (c.value.reader.as_content (variant_content closed w)))))
      beside c cs i w e g true u = (refl, refl)
      beside c cs i w e g false u =
          let P : Typed → Type 0 = λ x. written models (item_type n) x ≡ object (put tag (text w.serialize_name) (put content (c.value.part.writes (variant_content closed w)) no_members)) in
          agrees_under E P c.name (c.value.seen.takes (variant_content closed w)) (c.value.seen.stops (variant_content closed w)) (read_map (variant_of i) (c.value.reader.as_content (variant_content closed w)))
          (agrees_map E (λ xs. contents_written models E d q (variant_content closed w) xs ≡ c.value.part.writes (variant_content closed w)) P (variant_of i)
          (c.value.seen.takes (variant_content closed w)) (c.value.seen.stops (variant_content closed w))
          (λ xs h. wrapped_written n m named_so (adjacent_tag tag content) ws has_body closed i w xs (c.value.part.writes (variant_content closed w)) g u e h
          ∙ ap (λ z. object (put tag (text w.serialize_name) (cond z no_members (put content (c.value.part.writes (variant_content closed w)) no_members)))) (sym (unit_is w) ∙ u))
          (c.value.reader.as_content (variant_content closed w)) (c.value.as_content (variant_content closed w) (fields_content_good closed w.style w.fields g.fields)))

      with_content : (cs : Es) (i : ℕ) (w : VariantModel) → slice_get ws i ≡ Some w → VariantIsGood w
          → Agrees E (beside_content closed w (map (takes_at models E d q) cs)) (in_content closed (map (seen_at models E d q) cs) w) (Adjacently (map (part_at models E d q) cs) w) (content_beside closed (map (reader_at models E d q) cs) i w)
      with_content [] i w e g = alone i w e (is_unit w) refl
      with_content (c ∷ cs) i w e g = beside c cs i w e g (is_unit w) refl

      with_others : (z : Bool) (os cs : Es) (i : ℕ) (w : VariantModel) → z ≡ closed → slice_get ws i ≡ Some w → VariantIsGood w
          → Agrees E ((not z || is_none (map (takes_at models E d q) os)) && beside_content closed w (map (takes_at models E d q) cs)) (in_adjacent z (map (seen_at models E d q) os) (map (seen_at models E d q) cs) w)
          (Adjacently (map (part_at models E d q) cs) w) (adjacent_read z (map (reader_at models E d q) os) (map (reader_at models E d q) cs) i w)
      with_others true (o ∷ os) cs i w z e g = (refl, refl)
      with_others true [] cs i w z e g =
          subst (λ c. Agrees E (beside_content closed w (map (takes_at models E d q) cs)) (in_content c (map (seen_at models E d q) cs) w) (Adjacently (map (part_at models E d q) cs) w) (content_beside c (map (reader_at models E d q) cs) i w)) (sym z) (with_content cs i w e g)
      with_others false os cs i w z e g =
          subst (λ c. Agrees E (beside_content closed w (map (takes_at models E d q) cs)) (in_content c (map (seen_at models E d q) cs) w) (Adjacently (map (part_at models E d q) cs) w) (content_beside c (map (reader_at models E d q) cs) i w)) (sym z) (with_content cs i w e g)

    abbrev Adjacent : List ℕ → List ℕ → List (MemberPart Part) → Option VariantModel → Typed → Type 0
    Adjacent tag content ps None x = written models (item_type n) x ≡ v
    Adjacent tag content ps (Some w) x = written models (item_type n) x ≡ object (put tag (text w.serialize_name) (settled_contents lead d reads v pp W closed content w ps no_members))

    adjacent_parts : (tag content : List ℕ) → m.body ≡ enum_model (adjacent_tag tag content) ws → (es : Es) (o : Option Value)
        → Agrees E (adjacent_takes closed tag content (map (takes_at models E d q) es) (variant_of_text ws o))
        (after_tag tag ws (in_adjacent closed (without content (without tag (map (seen_at models E d q) es))) (named content (map (seen_at models E d q) es))) o)
        (Adjacent tag content (named content (map (part_at models E d q) es)) (variant_of_text ws o))
        (reading.after_tag tag ws (adjacent_read closed (without content (without tag (map (reader_at models E d q) es))) (named content (map (reader_at models E d q) es))) o)
    adjacent_parts tag content has_body es o =
        let os = others_of content (others_of tag es) in
        let cs = those_of content es in
        subst (λ rs. Agrees E (adjacent_takes closed tag content (map (takes_at models E d q) es) (variant_of_text ws o))
        (after_tag tag ws (in_adjacent closed (without content (without tag (map (seen_at models E d q) es))) (named content (map (seen_at models E d q) es))) o)
        (Adjacent tag content (named content (map (part_at models E d q) es)) (variant_of_text ws o)) (reading.after_tag tag ws (adjacent_read closed rs (named content (map (reader_at models E d q) es))) o))
        (sym (ap (without content) (filter_map (λ (j : MemberPart Reader). not (bytes_eq tag j.name)) (reader_at models E d q) es) ∙ filter_map (λ (j : MemberPart Reader). not (bytes_eq content j.name)) (reader_at models E d q) (others_of tag es)))
        (subst (λ rs. Agrees E (adjacent_takes closed tag content (map (takes_at models E d q) es) (variant_of_text ws o))
        (after_tag tag ws (in_adjacent closed (without content (without tag (map (seen_at models E d q) es))) (named content (map (seen_at models E d q) es))) o)
        (Adjacent tag content (named content (map (part_at models E d q) es)) (variant_of_text ws o)) (reading.after_tag tag ws (adjacent_read closed (map (reader_at models E d q) os) rs) o))
        (sym (filter_map (λ (j : MemberPart Reader). bytes_eq content j.name) (reader_at models E d q) es))
        (subst (λ ss. Agrees E (adjacent_takes closed tag content (map (takes_at models E d q) es) (variant_of_text ws o))
        (after_tag tag ws (in_adjacent closed ss (named content (map (seen_at models E d q) es))) o)
        (Adjacent tag content (named content (map (part_at models E d q) es)) (variant_of_text ws o)) (reading.after_tag tag ws (adjacent_read closed (map (reader_at models E d q) os) (map (reader_at models E d q) cs)) o))
        (sym (ap (without content) (filter_map (λ (j : MemberPart Seen). not (bytes_eq tag j.name)) (seen_at models E d q) es) ∙ filter_map (λ (j : MemberPart Seen). not (bytes_eq content j.name)) (seen_at models E d q) (others_of tag es)))
        (subst (λ ss. Agrees E (adjacent_takes closed tag content (map (takes_at models E d q) es) (variant_of_text ws o)) (after_tag tag ws (in_adjacent closed (map (seen_at models E d q) os) ss) o)
        (Adjacent tag content (named content (map (part_at models E d q) es)) (variant_of_text ws o)) (reading.after_tag tag ws (adjacent_read closed (map (reader_at models E d q) os) (map (reader_at models E d q) cs)) o))
        (sym (filter_map (λ (j : MemberPart Seen). bytes_eq content j.name) (seen_at models E d q) es))
        (subst (λ ps. Agrees E (adjacent_takes closed tag content (map (takes_at models E d q) es) (variant_of_text ws o)) (after_tag tag ws (in_adjacent closed (map (seen_at models E d q) os) (map (seen_at models E d q) cs)) o)
        (Adjacent tag content ps (variant_of_text ws o)) (reading.after_tag tag ws (adjacent_read closed (map (reader_at models E d q) os) (map (reader_at models E d q) cs)) o))
        (sym (filter_map (λ (j : MemberPart Part). bytes_eq content j.name) (part_at models E d q) es))
        (by_tag tag ws (adjacent_read closed (map (reader_at models E d q) os) (map (reader_at models E d q) cs)) (adjacent_takes closed tag content (map (takes_at models E d q) es))
        (in_adjacent closed (map (seen_at models E d q) os) (map (seen_at models E d q) cs)) (Adjacent tag content (map (part_at models E d q) cs)) refl
        (λ i w e. subst (λ js. Agrees E ((not closed || is_none js) && beside_content closed w (named content (map (takes_at models E d q) es))) (in_adjacent closed (map (seen_at models E d q) os) (map (seen_at models E d q) cs) w)
        (Adjacent tag content (map (part_at models E d q) cs) (Some w)) (adjacent_read closed (map (reader_at models E d q) os) (map (reader_at models E d q) cs) i w))
        (sym (ap (without content) (filter_map (λ (j : MemberPart Judge). not (bytes_eq tag j.name)) (takes_at models E d q) es) ∙ filter_map (λ (j : MemberPart Judge). not (bytes_eq content j.name)) (takes_at models E d q) (others_of tag es)))
        (subst (λ js. Agrees E ((not closed || is_none (map (takes_at models E d q) os)) && beside_content closed w js) (in_adjacent closed (map (seen_at models E d q) os) (map (seen_at models E d q) cs) w)
        (Adjacent tag content (map (part_at models E d q) cs) (Some w)) (adjacent_read closed (map (reader_at models E d q) os) (map (reader_at models E d q) cs) i w))
        (sym (filter_map (λ (j : MemberPart Judge). bytes_eq content j.name) (takes_at models E d q) es)) (with_others tag content has_body closed os cs i w refl e (good_at ws i w good e)))) o)))))

  -- ---- what an item says at a value, where the items that it asks agree there

  unit_contents : (v : Value) → Agrees E (is_null v) [] (λ xs. null ≡ v) (read_map (λ x. x ∷ []) (unit_read v))
  unit_contents null = (refl, refl)
  unit_contents _ = (refl, refl)

  -- the parts are those of the value
  abbrev pub Fits : Value → Inside (Part' models E d q) (Entry models E d q) → Type 0
  Fits (list xs) (items_inside ps) = Unit {0}
  Fits (object ms) (members_inside es) = Unit {0}
  Fits (list xs) _ = ⊥
  Fits (object ms) _ = ⊥
  Fits _ none_inside = Unit {0}
  Fits _ _ = ⊥

  module _ (r : Relations) (cs : ConversionsD) (reads : Content → Bool) (v : Value) (i : Inside (Part' models E d q) (Entry models E d q)) (whole : has_json_numbers v ≡ true) (fits : Fits v i)
      (it : List ℕ → Bool) (is : List ℕ → Location) (iw : List ℕ → Value) (ir : List ℕ → Read Typed) where
    abbrev lead' : TypeModel → Bool
    lead' = leads models E d q

    abbrev T : TypeModel → Bool
    T t = type_takes r v (takes_in models E d q i) it t

    abbrev S : TypeModel → Location
    S t = type_stops (seen_in models E d q i) is t

    abbrev W' : TypeModel → Value
    W' t = type_writes v (parts_in models E d q i) iw t

    abbrev R : TypeModel → Read Typed
    R t = type_read models r v (readers_in models E d q i) ir t

    abbrev AllAgree : List (List ℕ) → Type 0
    AllAgree ns = (n : List ℕ) → is_among n ns ≡ true → ItemAgrees models E d q r v i whole it is iw ir n

    abbrev Takes : Content → Bool
    Takes c = content_takes lead' (takes_in models E d q i) T c

    abbrev Stops : Content → Location
    Stops c = content_stops lead' reads v (seen_in models E d q i) S c

    abbrev Writes : Content → Value
    Writes c = content_writes lead' d reads v (parts_in models E d q i) W' c

    abbrev Reads : Content → Read (List Typed)
    Reads c = content_read q (absent models) r cs v (readers_in models E d q i) R c

    struct_agrees : (closed : Bool) (fs : List FieldModel) → FieldsAreGood models E d q fs → (j : Inside (Part' models E d q) (Entry models E d q))
        → Agrees E (struct_takes lead' closed fs (takes_in models E d q j)) (in_struct lead' closed fs (members_in (seen_in models E d q j)))
        (λ xs. contents_written models E d q (named_fields closed fs) xs ≡ object (struct_written lead' d fs (members_in (parts_in models E d q j)))) (struct_read q (absent models) closed fs (readers_in models E d q j))
    struct_agrees closed fs g none_inside = (refl, no_struct_stops closed fs)
    struct_agrees closed fs g (items_inside ps) = (refl, no_struct_stops closed fs)
    struct_agrees closed fs g (members_inside es) =
        agrees_as E (StructSays models E d q fs es) (λ xs. contents_written models E d q (named_fields closed fs) xs ≡ object (struct_written lead' d fs (map (part_at models E d q) es))) _ _ (λ xs h. ap object h) _
        (members_agree models E d q closed fs g es)

    pub content_agrees : (c : Content) → ContentIsGood models E d q c → AllAgree (asked_by_content c) → Agrees E (Takes c) (Stops c) (λ xs. contents_written models E d q c xs ≡ Writes c) (Reads c)
    content_agrees (one_type t) g h =
        agrees_map E (λ x. written models t x ≡ W' t) (λ xs. contents_written models E d q (one_type t) xs ≡ W' t) (λ x. x ∷ []) (T t) (S t) (λ x k. k) (R t) (type_agrees models E d q r v i whole it is iw ir t h)
    content_agrees (places ts) g h = tuple_agrees models E d q ts i
    content_agrees (named_fields closed fs) g h = struct_agrees closed fs g i

    -- the whole table says of contents what is said here
    abbrev pub SaysSame : Content → Type 0
    SaysSame c = reads c ≡ Takes c

    abbrev pub VariantsSaySame : Bool → List VariantModel → Type 0
    VariantsSaySame closed [] = Unit {0}
    VariantsSaySame closed (w ∷ ws) = SaysSame (variant_content closed w) × VariantsSaySame closed ws

    abbrev pub BodySaysSame : Bool → BodyModel → Type 0
    BodySaysSame closed (struct_model s fs) = SaysSame (fields_content closed s fs)
    BodySaysSame closed (enum_model untagged ws) = VariantsSaySame closed ws
    BodySaysSame closed (enum_model _ ws) = Unit {0}

    -- ---- structs

    of_outside : (b : Bool) → cond b [] (S outside_type) ≡ []
    of_outside true = refl
    of_outside false = refl

    module _ (n : List ℕ) (m : ContainerModel) (named_so : container_named n models ≡ Some m) where
      abbrev Says : Typed → Type 0
      Says x = written models (item_type n) x ≡ body_writes lead' d reads v (parts_in models E d q i) W' m.closed m.body

      item_is : (x : Typed) → written models (item_type n) x ≡ written'.body_writes m.body (parts_of models x)
      item_is x = item_written models n x ∙ ap (λ o. item_writes o (parts_of models x)) named_so

      -- the stops before the rule, and after it
      ruled : (rule : Bool) (c : Content) (A : Type 0) (P : Typed → Type 0) (rr : Read Typed) → SaysSame c → Agrees E (Takes c) (Stops c) P rr
          → Agrees E (Takes c && rule) (cond (reads c) [] (Stops c)) P (kept_if rule rr)
      ruled rule c A P rr same h = agrees_along E P (Takes c && rule) (Takes c && rule) (cond (Takes c) [] (Stops c)) (cond (reads c) [] (Stops c)) (kept_if rule rr) refl (ap (λ b. cond b [] (Stops c)) same) (agrees_kept E P (Takes c) rule (Stops c) rr h)

      by_struct : (rule : Bool) (s : Style) (fs : List FieldModel) → m.body ≡ struct_model s fs → FieldsAreGood models E d q fs → SaysSame (fields_content m.closed s fs) → AllAgree (asked_by_content (fields_content m.closed s fs))
          → Agrees E (struct_item_takes lead' (takes_in models E d q i) T m.closed s fs && rule) (body_stops lead' reads v (seen_in models E d q i) S m.closed (struct_model s fs))
          (λ x. written models (item_type n) x ≡ body_writes lead' d reads v (parts_in models E d q i) W' m.closed (struct_model s fs)) (kept_if rule (item_of_style q (absent models) r cs v (readers_in models E d q i) R m.closed s fs))
      by_struct rule struct_style fs e g same h =
          ruled rule (named_fields m.closed fs) (Unit {0}) (λ x. written models (item_type n) x ≡ Writes (named_fields m.closed fs)) (read_map (λ xs. typed.struct (typeds xs)) (Reads (named_fields m.closed fs))) same
          (agrees_map E (λ xs. contents_written models E d q (named_fields m.closed fs) xs ≡ Writes (named_fields m.closed fs)) (λ x. written models (item_type n) x ≡ Writes (named_fields m.closed fs)) (λ xs. typed.struct (typeds xs))
          (Takes (named_fields m.closed fs)) (Stops (named_fields m.closed fs)) (λ xs k. item_is (typed.struct (typeds xs)) ∙ ap (λ b. written'.body_writes b (parts_of models (typed.struct (typeds xs)))) e ∙ k)
          (Reads (named_fields m.closed fs)) (content_agrees (named_fields m.closed fs) g h))
      by_struct rule newtype_style (f ∷ []) e g same h =
          ruled rule (one_type f.field_type) (Unit {0}) (λ x. written models (item_type n) x ≡ W' f.field_type) (read_map typed.newtype (R f.field_type)) same
          (agrees_map E (λ x. written models f.field_type x ≡ W' f.field_type) (λ x. written models (item_type n) x ≡ W' f.field_type) typed.newtype (T f.field_type) (S f.field_type)
          (λ x k. item_is (typed.newtype x) ∙ ap (λ b. written'.body_writes b (parts_of models (typed.newtype x))) e ∙ k) (R f.field_type) (type_agrees models E d q r v i whole it is iw ir f.field_type h))
      by_struct rule newtype_style [] e g same h = (refl, of_outside (reads (one_type outside_type)))
      by_struct rule newtype_style (f ∷ k ∷ fs) e g same h = (refl, of_outside (reads (one_type outside_type)))
      by_struct rule tuple_style fs e g same h = (refl, refl)
      by_struct rule unit_style fs e g same h = (refl, refl)

      -- ---- untagged enums

      by_variant : (ws : List VariantModel) → m.body ≡ enum_model untagged ws → (k : ℕ) (w : VariantModel) → slice_get ws k ≡ Some w → VariantIsGood w → AllAgree (asked_by_content (variant_content m.closed w)) → (b : Bool) → is_unit w ≡ b
          → Agrees E (Takes (variant_content m.closed w)) (Stops (variant_content m.closed w)) (λ x. written models (item_type n) x ≡ Writes (variant_content m.closed w))
          (cond b (read_map (unit_of k) (Reads (variant_content m.closed w))) (read_map (variant_of k) (Reads (variant_content m.closed w))))
      by_variant ws e k w at g h false u =
          agrees_map E (λ xs. contents_written models E d q (variant_content m.closed w) xs ≡ Writes (variant_content m.closed w)) (λ x. written models (item_type n) x ≡ Writes (variant_content m.closed w)) (variant_of k)
          (Takes (variant_content m.closed w)) (Stops (variant_content m.closed w)) (λ xs p. wrapped_written n m named_so untagged ws e m.closed k w xs (Writes (variant_content m.closed w)) g u at p)
          (Reads (variant_content m.closed w)) (content_agrees (variant_content m.closed w) (fields_content_good m.closed w.style w.fields g.fields) h)
      by_variant ws e k w at g h true u = by w.style (sym (unit_is w) ∙ u)
        where
          by : (s : Style) → is_unit_style s ≡ true
              → Agrees E (Takes (fields_content m.closed s w.fields)) (Stops (fields_content m.closed s w.fields)) (λ x. written models (item_type n) x ≡ Writes (fields_content m.closed s w.fields)) (read_map (unit_of k) (Reads (fields_content m.closed s w.fields)))
          by struct_style p = absurd (true≢false (sym p))
          by tuple_style p = absurd (true≢false (sym p))
          by newtype_style p = absurd (true≢false (sym p))
          by unit_style p =
              agrees_map E (λ xs. null ≡ v) (λ x. written models (item_type n) x ≡ v) (unit_of k) (is_null v) [] (λ xs z. unit_written n m named_so untagged ws e k w u at ∙ z) (read_map (λ x. x ∷ []) (unit_read v)) (unit_contents v)

      by_untagged : (ws : List VariantModel) → m.body ≡ enum_model untagged ws → VariantsAreGood ws → (k : ℕ) (us : List VariantModel) → drop k ws ≡ us → VariantsSaySame m.closed us → AllAgree (asked_by_variants m.closed us)
          → Agrees E (list_any (λ w. Takes (variant_content m.closed w)) us) [] (λ x. written models (item_type n) x ≡ untagged_writes lead' d reads v (parts_in models E d q i) W' m.closed us)
          (untagged_read q (absent models) r cs v (readers_in models E d q i) R m.closed k us)
      by_untagged ws e g k [] at same h = (refl, refl)
      by_untagged ws e g k (w ∷ us) at same h =
          let c = variant_content m.closed w in
          let here = head_at ws k w us at in
          agrees_next E (λ x. written models (item_type n) x ≡ Writes c) (λ x. written models (item_type n) x ≡ untagged_writes lead' d reads v (parts_in models E d q i) W' m.closed us)
          (λ x. written models (item_type n) x ≡ untagged_writes lead' d reads v (parts_in models E d q i) W' m.closed (w ∷ us)) (Takes c) (list_any (λ u. Takes (variant_content m.closed u)) us) (Stops c)
          (λ x t p. p ∙ sym (ap (λ b. cond b (Writes c) (untagged_writes lead' d reads v (parts_in models E d q i) W' m.closed us)) (same.0 ∙ t)))
          (λ x t p. p ∙ sym (ap (λ b. cond b (Writes c) (untagged_writes lead' d reads v (parts_in models E d q i) W' m.closed us)) (same.0 ∙ t)))
          (variant_read q (absent models) r cs v (readers_in models E d q i) R m.closed k w) (untagged_read q (absent models) r cs v (readers_in models E d q i) R m.closed (suc k) us)
          (by_variant ws e k w here (good_at ws k w g here) (λ l z. h l (left_among l (asked_by_content c) (asked_by_variants m.closed us) z)) (is_unit w) refl)
          (by_untagged ws e g (suc k) us (tail_at ws k w us at) same.1 (λ l z. h l (right_among l (asked_by_content c) (asked_by_variants m.closed us) z)))

      -- ---- tagged enums

      by_external : (ws : List VariantModel) → m.body ≡ enum_model external_tag ws → VariantsAreGood ws → (u : Value) (j : Inside (Part' models E d q) (Entry models E d q)) → Fits u j
          → Agrees E (external_takes m.closed ws u (takes_in models E d q j)) (in_external m.closed ws (seen_in models E d q j)) (λ x. written models (item_type n) x ≡ external_writes lead' d reads v (parts_in models E d q i) W' m.closed ws u (parts_in models E d q j))
          (external_read m.closed ws u (readers_in models E d q j))
      by_external ws e g (text s) none_inside f = external_text reads v (parts_in models E d q i) W' m.closed n m named_so ws g e s
      by_external ws e g (text s) (items_inside ps) f = absurd f
      by_external ws e g (text s) (members_inside es) f = absurd f
      by_external ws e g (object ms) (members_inside []) f = (refl, refl)
      by_external ws e g (object ms) (members_inside (c ∷ [])) f = external_member reads v (parts_in models E d q i) W' m.closed n m named_so ws g e c
      by_external ws e g (object ms) (members_inside (c ∷ b ∷ es)) f = (refl, refl)
      by_external ws e g (object ms) none_inside f = absurd f
      by_external ws e g (object ms) (items_inside ps) f = absurd f
      by_external ws e g (list xs) (items_inside ps) f = (refl, refl)
      by_external ws e g (list xs) none_inside f = absurd f
      by_external ws e g (list xs) (members_inside es) f = absurd f
      by_external ws e g null none_inside f = (refl, refl)
      by_external ws e g null (items_inside ps) f = absurd f
      by_external ws e g null (members_inside es) f = absurd f
      by_external ws e g (value.boolean b) none_inside f = (refl, refl)
      by_external ws e g (value.boolean b) (items_inside ps) f = absurd f
      by_external ws e g (value.boolean b) (members_inside es) f = absurd f
      by_external ws e g (number z) none_inside f = (refl, refl)
      by_external ws e g (number z) (items_inside ps) f = absurd f
      by_external ws e g (number z) (members_inside es) f = absurd f
      by_external ws e g fraction none_inside f = (refl, refl)
      by_external ws e g fraction (items_inside ps) f = absurd f
      by_external ws e g fraction (members_inside es) f = absurd f

      internal_at : (tag : List ℕ) (ws : List VariantModel) → m.body ≡ enum_model (internal_tag tag) ws → VariantsAreGood ws → (pp : Parts Part) (es : Es) → members_in pp ≡ map (part_at models E d q) es
          → Agrees E (internal_takes lead' m.closed tag (map (takes_at models E d q) es) (tagged_variant tag ws v)) (after_tag tag ws (in_internal lead' m.closed (without tag (map (seen_at models E d q) es))) (tag_value tag v))
          (λ x. written models (item_type n) x ≡ internal_writes lead' d reads v pp W' tag (tagged_variant tag ws v)) (reading.after_tag tag ws (internal_read q (absent models) m.closed (without tag (map (reader_at models E d q) es))) (tag_value tag v))
      internal_at tag ws e g pp es p =
          subst (λ o. Agrees E (internal_takes lead' m.closed tag (map (takes_at models E d q) es) o) (after_tag tag ws (in_internal lead' m.closed (without tag (map (seen_at models E d q) es))) (tag_value tag v))
          (λ x. written models (item_type n) x ≡ internal_writes lead' d reads v pp W' tag o) (reading.after_tag tag ws (internal_read q (absent models) m.closed (without tag (map (reader_at models E d q) es))) (tag_value tag v))) (sym (tagged tag ws v))
          (agrees_as E (Internally reads v pp W' m.closed n m named_so ws g tag (without tag (map (part_at models E d q) es)) (variant_of_text ws (tag_value tag v)))
          (λ x. written models (item_type n) x ≡ internal_writes lead' d reads v pp W' tag (variant_of_text ws (tag_value tag v))) _ _ (by (variant_of_text ws (tag_value tag v))) _
          (internal_parts reads v pp W' m.closed n m named_so ws g tag e es (tag_value tag v)))
        where
          by : (o : Option VariantModel) (x : Typed) → Internally reads v pp W' m.closed n m named_so ws g tag (without tag (map (part_at models E d q) es)) o x → written models (item_type n) x ≡ internal_writes lead' d reads v pp W' tag o
          by None x h = h
          by (Some w) x h = h ∙ ap (λ ps. object (put tag (text w.serialize_name) (struct_written lead' d w.fields (without tag ps)))) (sym p)

      adjacent_at : (tag content : List ℕ) (ws : List VariantModel) → m.body ≡ enum_model (adjacent_tag tag content) ws → VariantsAreGood ws → (pp : Parts Part) (es : Es) → members_in pp ≡ map (part_at models E d q) es
          → Agrees E (adjacent_takes m.closed tag content (map (takes_at models E d q) es) (tagged_variant tag ws v))
          (after_tag tag ws (in_adjacent m.closed (without content (without tag (map (seen_at models E d q) es))) (named content (map (seen_at models E d q) es))) (tag_value tag v))
          (λ x. written models (item_type n) x ≡ adjacent_writes lead' d reads v pp W' m.closed tag content (tagged_variant tag ws v))
          (reading.after_tag tag ws (adjacent_read m.closed (without content (without tag (map (reader_at models E d q) es))) (named content (map (reader_at models E d q) es))) (tag_value tag v))
      adjacent_at tag content ws e g pp es p =
          subst (λ o. Agrees E (adjacent_takes m.closed tag content (map (takes_at models E d q) es) o)
          (after_tag tag ws (in_adjacent m.closed (without content (without tag (map (seen_at models E d q) es))) (named content (map (seen_at models E d q) es))) (tag_value tag v))
          (λ x. written models (item_type n) x ≡ adjacent_writes lead' d reads v pp W' m.closed tag content o)
          (reading.after_tag tag ws (adjacent_read m.closed (without content (without tag (map (reader_at models E d q) es))) (named content (map (reader_at models E d q) es))) (tag_value tag v))) (sym (tagged tag ws v))
          (agrees_as E (Adjacent reads v pp W' m.closed n m named_so ws g tag content (named content (map (part_at models E d q) es)) (variant_of_text ws (tag_value tag v)))
          (λ x. written models (item_type n) x ≡ adjacent_writes lead' d reads v pp W' m.closed tag content (variant_of_text ws (tag_value tag v))) _ _ (by (variant_of_text ws (tag_value tag v))) _
          (adjacent_parts reads v pp W' m.closed n m named_so ws g tag content e es (tag_value tag v)))
        where
          by : (o : Option VariantModel) (x : Typed) → Adjacent reads v pp W' m.closed n m named_so ws g tag content (named content (map (part_at models E d q) es)) o x
              → written models (item_type n) x ≡ adjacent_writes lead' d reads v pp W' m.closed tag content o
          by None x h = h
          by (Some w) x h = h ∙ ap (λ ps. object (put tag (text w.serialize_name) (settled_contents lead' d reads v pp W' m.closed content w (named content ps) no_members))) (sym p)

      by_enum : (tag : TagModel) (ws : List VariantModel) → m.body ≡ enum_model tag ws → VariantsAreGood ws → BodySaysSame m.closed (enum_model tag ws) → AllAgree (asked_by_body m.closed (enum_model tag ws)) → (j : Inside (Part' models E d q) (Entry models E d q)) → i ≡ j
          → Agrees E (enum_takes lead' (takes_in models E d q j) T m.closed tag ws v) (body_stops lead' reads v (seen_in models E d q j) S m.closed (enum_model tag ws))
          (λ x. written models (item_type n) x ≡ body_writes lead' d reads v (parts_in models E d q j) W' m.closed (enum_model tag ws)) (enum_read q (absent models) r cs v (readers_in models E d q j) R m.closed tag ws)
      by_enum external_tag ws e g same h j z =
          subst (λ k. Agrees E (external_takes m.closed ws v (takes_in models E d q k)) (in_external m.closed ws (seen_in models E d q k)) (λ x. written models (item_type n) x ≡ external_writes lead' d reads v (parts_in models E d q k) W' m.closed ws v (parts_in models E d q k))
          (external_read m.closed ws v (readers_in models E d q k))) z (by_external ws e g v i fits)
      by_enum (internal_tag tag) ws e g same h none_inside z = internal_at tag ws e g layer.no_parts [] refl
      by_enum (internal_tag tag) ws e g same h (items_inside ps) z = internal_at tag ws e g (parts_in models E d q (items_inside ps)) [] refl
      by_enum (internal_tag tag) ws e g same h (members_inside es) z = internal_at tag ws e g (parts_in models E d q (members_inside es)) es refl
      by_enum (adjacent_tag tag content) ws e g same h none_inside z = adjacent_at tag content ws e g layer.no_parts [] refl
      by_enum (adjacent_tag tag content) ws e g same h (items_inside ps) z = adjacent_at tag content ws e g (parts_in models E d q (items_inside ps)) [] refl
      by_enum (adjacent_tag tag content) ws e g same h (members_inside es) z = adjacent_at tag content ws e g (parts_in models E d q (members_inside es)) es refl
      by_enum untagged ws e g same h j z =
          subst (λ k. Agrees E (list_any (λ w. content_takes lead' (takes_in models E d q k) T (variant_content m.closed w)) ws) []
          (λ x. written models (item_type n) x ≡ untagged_writes lead' d reads v (parts_in models E d q k) W' m.closed ws) (untagged_read q (absent models) r cs v (readers_in models E d q k) R m.closed 0 ws)) z
          (by_untagged ws e g 0 ws refl same h)

      freely : (t z b : Bool) (s : Location) (P : Typed → Type 0) (rr : Read Typed) → z ≡ true → Agrees E t s P rr → Agrees E (t && (z || b)) s P (kept_if (z || b) rr)
      freely t true b s P (taken x) e h = ((λ k. h.0 k && true), h.1)
      freely t true b s P (stopped l) e h = (ap (λ c. c && true) h.0, h.1)
      freely t true b s P unsound e h = h
      freely t false b s P rr e h = absurd (true≢false (sym e))

      or_false : (z : Bool) → (z || false) ≡ true → z ≡ true
      or_false true h = refl
      or_false false h = h

      by_body : (b : BodyModel) → m.body ≡ b → BodyIsGood b → (not m.try_from || is_newtype b) ≡ true → BodySaysSame m.closed b → AllAgree (asked_by_body m.closed b)
          → Agrees E (body_takes lead' (takes_in models E d q i) T m.closed b v && rule_holds q (absent models) r cs v (readers_in models E d q i) R m) (body_stops lead' reads v (seen_in models E d q i) S m.closed b)
          (λ x. written models (item_type n) x ≡ body_writes lead' d reads v (parts_in models E d q i) W' m.closed b)
          (kept_if (rule_holds q (absent models) r cs v (readers_in models E d q i) R m) (body_read q (absent models) r cs v (readers_in models E d q i) R m.closed b))
      by_body (struct_model s fs) e g rule same h = by_struct (rule_holds q (absent models) r cs v (readers_in models E d q i) R m) s fs e g same h
      by_body (enum_model tag ws) e g rule same h =
          freely (enum_takes lead' (takes_in models E d q i) T m.closed tag ws v) (not m.try_from) (given_rule_agrees r v (rule_of m.name cs.constraints)) (body_stops lead' reads v (seen_in models E d q i) S m.closed (enum_model tag ws))
          (λ x. written models (item_type n) x ≡ body_writes lead' d reads v (parts_in models E d q i) W' m.closed (enum_model tag ws)) (enum_read q (absent models) r cs v (readers_in models E d q i) R m.closed tag ws)
          (or_false (not m.try_from) rule) (by_enum tag ws e g same h i refl)

    abbrev pub GivenSaysSame : Option ContainerModel → Type 0
    GivenSaysSame None = Unit {0}
    GivenSaysSame (Some m) = BodySaysSame m.closed m.body

    pub container_agrees : (n : List ℕ) (o : Option ContainerModel) → container_named n models ≡ o → GivenIsGood o → GivenSaysSame o → AllAgree (asked_by o)
        → Agrees E (container_takes lead' (takes_in models E d q i) T r cs v o) (container_stops lead' reads v (seen_in models E d q i) S o) (λ x. written models (item_type n) x ≡ container_writes lead' d reads v (parts_in models E d q i) W' o)
        (container_read q (absent models) r cs v (readers_in models E d q i) R o)
    container_agrees n None e g same h = (refl, refl)
    container_agrees n (Some m) e g same h = by_body n m e m.body refl g.body g.rule same h
