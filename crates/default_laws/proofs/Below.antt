-- Where some stated defaults are made unsound, what is read of each value is unsound, or what was read before.
use Rattle.std.proofs.Common.{◌≡◌, ◌⊎◌, ℕ, zero, suc, List, [], ◌∷◌, length, Bool, true, false, not, refl, ap, ◌∙◌, subst, Option, Some, None, inl, inr, bytes_eq}
use Rattle.std.specs.Prelude.{◌==◌, if◌then◌else◌}
use Rattle.std.specs.List.{list_any}
use Rattle.json_value.specs.Value as value
use Rattle.json_value.specs.Value.{Value, Items, Members, null, number, fraction, text, list, object, no_items, no_members, member}
use Rattle.schema_defs.specs.Location.{Location, Step, place}
use Rattle.schema_defs.specs.Texts.{Relations}
use Rattle.model_defs.specs.Types.{TypeModel, option_type, boxed_type, vec_type, set_type, map_type, tuple_type, array_type, item_type, types_of}
use Rattle.model_defs.specs.Model.{Style, struct_style, tuple_style, newtype_style, unit_style, DefaultModel, no_default, own_default, stated_default, HelperModel, no_helper, some_helper, whole_helper, FieldModel, VariantModel, TagModel, external_tag, internal_tag, adjacent_tag, untagged, BodyModel, struct_model, enum_model, ContainerModel, ConversionsD, container_named}
use Rattle.model_defs.specs.Layer.{Content, one_type, places, named_fields, MemberPart, Parts, no_parts, list_parts, object_parts, is_null, own_members, other_members, unnamed_members, without, named, members_in, present_type, variant_content, is_unit}
use Rattle.model_defs.specs.Reads.{allowed}
use Rattle.model_defs.specs.Refusals.{tag_value}
use Rattle.typed_defs.specs.Typed as typed
use Rattle.typed_defs.specs.Typed.{Typed, typeds}
use Rattle.typed_defs.specs.Written.{written}
use Rattle.reading_defs.specs.Reading.{Read, taken, stopped, unsound, read_map, under, here, if_sound, followed, paired, or_next, kept_if, Reader, items_read, places_read, list_read, array_read, tuple_read, keep_apart, pair_read, pairs_read, map_read, rest_read, object_read, absent, helped, default_given, field_read, fields_read, after_unnamed, members_read, struct_read, type_read, of_name, of_tag, variant_of, unit_of, contents_read, external_read, content_beside, adjacent_read, after_tag, internal_read, content_read, variant_read, untagged_read, enum_read, newtype_read, item_of_style, body_read, rule_holds, container_read, item_reading, reader_within, value_reader, item_readers, member_readers}
use Rattle.default_defs.proofs.Alike as alike

abbrev pub Below : {A : Type 0} → Read A → Read A → Type 0
Below x y = (x ≡ unsound) ⊎ (x ≡ y)

-- ---- joins

module _ {A B : Type 0} where
  along : (f : Read A → Read B) → f unsound ≡ unsound → (x y : Read A) → Below x y → Below (f x) (f y)
  along f s x y (inl e) = inl (ap f e ∙ s)
  along f s x y (inr e) = inr (ap f e)

module _ {A B C : Type 0} where
  joined : (f : Read A → Read B → Read C) → ((b : Read B) → f unsound b ≡ unsound) → ((x : Read A) (b c : Read B) → Below b c → Below (f x b) (f x c))
      → (x y : Read A) (b c : Read B) → Below x y → Below b c → Below (f x b) (f y c)
  joined f s m x y b c (inl e) h = inl (ap (λ z. f z b) e ∙ s b)
  joined f s m x y b c (inr e) h = subst (λ z. Below (f x b) (f z c)) e (m x b c h)

module _ {A : Type 0} where
  after_one : (x : Read A) (b c : Read (List A)) → Below b c → Below (followed x b) (followed x c)
  after_one (taken a) b c h = along (read_map (λ zs. a ∷ zs)) refl b c h
  after_one (stopped l) b c h = inr refl
  after_one unsound b c h = inl refl

  of_followed : (x y : Read A) (b c : Read (List A)) → Below x y → Below b c → Below (followed x b) (followed y c)
  of_followed = joined followed (λ b. refl) after_one

  after_first : (x b c : Read A) → Below b c → Below (or_next x b) (or_next x c)
  after_first (taken a) b c h = inr refl
  after_first (stopped l) b c h = h
  after_first unsound b c h = inl refl

  of_next : (x y b c : Read A) → Below x y → Below b c → Below (or_next x b) (or_next y c)
  of_next = joined or_next (λ b. refl) after_first

  of_if : (b : Bool) (x y u w : Read A) → Below x y → Below u w → Below (if b then x else u) (if b then y else w)
  of_if true x y u w h k = h
  of_if false x y u w h k = k

  of_test : (b c : Bool) (x y : Read A) (l : Location) → b ≡ c → Below x y → Below (if b then x else stopped l) (if c then y else stopped l)
  of_test b c x y l e h = subst (λ z. Below (if b then x else stopped l) (if z then y else stopped l)) e (of_if b x y (stopped l) (stopped l) h (inr refl))

  of_under : (s n : Step) → s ≡ n → (x y : Read A) → Below x y → Below (under s x) (under n y)
  of_under s n e x y h = subst (λ z. Below (under s x) (under z y)) e (along (under s) refl x y h)

module _ {A B : Type 0} where
  after_key : (x : Read A) (b c : Read B) → Below b c → Below (paired x b) (paired x c)
  after_key (taken a) b c h = along (read_map (λ z. (a, z))) refl b c h
  after_key (stopped l) b c h = inr refl
  after_key unsound b c h = inl refl

  of_paired : (x y : Read A) (b c : Read B) → Below x y → Below b c → Below (paired x b) (paired y c)
  of_paired = joined paired (λ b. refl) after_key

of_helped : (h : HelperModel) (x y : Read Typed) → Below x y → Below (helped h x) (helped h y)
of_helped no_helper x y k = k
of_helped some_helper x y k = along (read_map typed.some) refl x y k
of_helped whole_helper x y k = k

-- ---- parts

pub record Near (j k : Reader) : Type 0 where
  pub of_type : (t : TypeModel) → Below (j.as_type t) (k.as_type t)
  pub of_content : (c : Content) → Below (j.as_content c) (k.as_content c)

abbrev ItemsNear : List Reader → List Reader → Type 0
ItemsNear = alike.AlikeItems Reader Reader Near Near

abbrev MembersNear : List (MemberPart Reader) → List (MemberPart Reader) → Type 0
MembersNear = alike.AlikeMembers Reader Reader Near Near

abbrev PartsNear : Parts Reader → Parts Reader → Type 0
PartsNear = alike.AlikeParts Reader Reader Near Near

items : (t : TypeModel) (i : ℕ) (js ks : List Reader) → ItemsNear js ks → Below (items_read i t js) (items_read i t ks)
items t i [] [] h = inr refl
items t i [] (k ∷ ks) h = absurd h
items t i (j ∷ js) [] h = absurd h
items t i (j ∷ js) (k ∷ ks) h =
    of_followed (under (place i) (j.as_type t)) (under (place i) (k.as_type t)) (items_read (suc i) t js) (items_read (suc i) t ks)
    (of_under (place i) (place i) refl (j.as_type t) (k.as_type t) (h.0.of_type t)) (items t (suc i) js ks h.1)

each : (t : TypeModel) (ps qs : Parts Reader) → PartsNear ps qs → Below (list_read t ps) (list_read t qs)
each t = alike.by_kind Reader Reader Near Near (λ ps qs. Below (list_read t ps) (list_read t qs)) (inr refl) (items t 0) (λ ms ns h. inr refl)

array : (t : TypeModel) (n : ℕ) (ps qs : Parts Reader) → PartsNear ps qs → Below (array_read t n ps) (array_read t n qs)
array t n =
    alike.by_kind Reader Reader Near Near (λ ps qs. Below (array_read t n ps) (array_read t n qs)) (inr refl)
    (λ js ks h. of_test (length js == n) (length ks == n) (items_read 0 t js) (items_read 0 t ks) [] (ap (λ l. l == n) (alike.as_many Reader Reader Near Near js ks h)) (items t 0 js ks h))
    (λ ms ns h. inr refl)

in_turn : (ts : List TypeModel) (i : ℕ) (js ks : List Reader) → ItemsNear js ks → Below (places_read i ts js) (places_read i ts ks)
in_turn [] i [] [] h = inr refl
in_turn [] i (j ∷ js) (k ∷ ks) h = inr refl
in_turn (t ∷ ts) i [] [] h = inr refl
in_turn (t ∷ ts) i (j ∷ js) (k ∷ ks) h =
    of_followed (under (place i) (j.as_type t)) (under (place i) (k.as_type t)) (places_read (suc i) ts js) (places_read (suc i) ts ks)
    (of_under (place i) (place i) refl (j.as_type t) (k.as_type t) (h.0.of_type t)) (in_turn ts (suc i) js ks h.1)
in_turn ts i [] (k ∷ ks) h = absurd h
in_turn ts i (j ∷ js) [] h = absurd h

tuple : (ts : List TypeModel) (ps qs : Parts Reader) → PartsNear ps qs → Below (tuple_read ts ps) (tuple_read ts qs)
tuple ts =
    alike.by_kind Reader Reader Near Near (λ ps qs. Below (tuple_read ts ps) (tuple_read ts qs)) (inr refl)
    (λ js ks h. of_test (length js == length ts) (length ks == length ts) (places_read 0 ts js) (places_read 0 ts ks) [] (ap (λ l. l == length ts) (alike.as_many Reader Reader Near Near js ks h)) (in_turn ts 0 js ks h))
    (λ ms ns h. inr refl)

pair : (k t : TypeModel) (m n : MemberPart Reader) → alike.AlikeMember Reader Reader Near Near m n → Below (pair_read k t m) (pair_read k t n)
pair k t m n h =
    of_under m.name n.name h.0 (paired (here (m.key.as_type k)) (m.value.as_type t)) (paired (here (n.key.as_type k)) (n.value.as_type t))
    (of_paired (here (m.key.as_type k)) (here (n.key.as_type k)) (m.value.as_type t) (n.value.as_type t)
    (along here refl (m.key.as_type k) (n.key.as_type k) (h.1.of_type k)) (h.2.of_type t))

entries : (k t : TypeModel) (ms ns : List (MemberPart Reader)) → MembersNear ms ns → Below (pairs_read k t ms) (pairs_read k t ns)
entries k t [] [] h = inr refl
entries k t [] (n ∷ ns) h = absurd h
entries k t (m ∷ ms) [] h = absurd h
entries k t (m ∷ ms) (n ∷ ns) h = of_followed (pair_read k t m) (pair_read k t n) (pairs_read k t ms) (pairs_read k t ns) (pair k t m n h.0) (entries k t ms ns h.1)

map_near : (k t : TypeModel) (ms ns : List (MemberPart Reader)) → MembersNear ms ns → Below (map_read k t ms) (map_read k t ns)
map_near k t ms ns h = along (read_map _) refl (pairs_read k t ms) (pairs_read k t ns) (entries k t ms ns h)

of_rest : (t : TypeModel) (ms ns : List (MemberPart Reader)) → MembersNear ms ns → Below (rest_read t ms) (rest_read t ns)
of_rest (map_type k t) ms ns h = map_near k t ms ns h
of_rest _ ms ns h = inr refl

of_object : (k t : TypeModel) (ps qs : Parts Reader) → PartsNear ps qs → Below (object_read k t ps) (object_read k t qs)
of_object k t = alike.by_kind Reader Reader Near Near (λ ps qs. Below (object_read k t ps) (object_read k t qs)) (inr refl) (λ js ks h. inr refl) (map_near k t)

-- ---- members by the names of fields

own : (f : FieldModel) (ms ns : List (MemberPart Reader)) → MembersNear ms ns → MembersNear (own_members f ms) (own_members f ns)
own f = alike.kept Reader Reader Near Near (λ y. list_any (λ n. bytes_eq n y) f.deserialize_names)

other : (f : FieldModel) (ms ns : List (MemberPart Reader)) → MembersNear ms ns → MembersNear (other_members f ms) (other_members f ns)
other f = alike.kept Reader Reader Near Near (λ y. not (list_any (λ n. bytes_eq n y) f.deserialize_names))

either : (b : Bool) (ms ns os ps : List (MemberPart Reader)) → MembersNear ms ns → MembersNear os ps → MembersNear (if b then ms else os) (if b then ns else ps)
either true ms ns os ps h k = h
either false ms ns os ps h k = k

unnamed : (fs : List FieldModel) (ms ns : List (MemberPart Reader)) → MembersNear ms ns → MembersNear (unnamed_members fs ms) (unnamed_members fs ns)
unnamed [] ms ns h = h
unnamed (f ∷ fs) ms ns h =
    either f.is_rest (unnamed_members fs ms) (unnamed_members fs ns) (unnamed_members fs (other_members f ms)) (unnamed_members fs (other_members f ns)) (unnamed fs ms ns h)
    (unnamed fs (other_members f ms) (other_members f ns) (other f ms ns h))

-- ---- variants

by_name : (f g : ℕ → VariantModel → Read Typed) (o : Read Typed) → ((i : ℕ) (w : VariantModel) → Below (f i w) (g i w)) → (i : ℕ) (ws : List VariantModel) (n : List ℕ)
    → Below (of_name f o i ws n) (of_name g o i ws n)
by_name f g o h i [] n = inr refl
by_name f g o h i (w ∷ ws) n =
    of_if (list_any (bytes_eq n) w.deserialize_names) (f i w) (g i w) (of_name f o (suc i) ws n) (of_name g o (suc i) ws n) (h i w) (by_name f g o h (suc i) ws n)

by_tag : (f g : ℕ → VariantModel → Read Typed) (o : Read Typed) → ((i : ℕ) (w : VariantModel) → Below (f i w) (g i w)) → (ws : List VariantModel) (v : Value)
    → Below (of_tag f o ws v) (of_tag g o ws v)
by_tag f g o h ws (text s) = by_name f g o h 0 ws s
by_tag f g o h ws _ = inr refl

tagged : (tag : List ℕ) (ws : List VariantModel) (f g : ℕ → VariantModel → Read Typed) → ((i : ℕ) (w : VariantModel) → Below (f i w) (g i w)) → (o : Option Value)
    → Below (after_tag tag ws f o) (after_tag tag ws g o)
tagged tag ws f g h None = inr refl
tagged tag ws f g h (Some v) = by_tag f g (stopped (tag ∷ [])) h ws v

contents : (closed : Bool) (m n : MemberPart Reader) → alike.AlikeMember Reader Reader Near Near m n → (i : ℕ) (w : VariantModel) → Below (contents_read closed m i w) (contents_read closed n i w)
contents closed m n h i w =
    let c = variant_content closed w in
    of_if (is_unit w) (stopped []) (stopped []) (under m.name (read_map (variant_of i) (m.value.as_content c))) (under n.name (read_map (variant_of i) (n.value.as_content c))) (inr refl)
    (of_under m.name n.name h.0 (read_map (variant_of i) (m.value.as_content c)) (read_map (variant_of i) (n.value.as_content c))
    (along (read_map (variant_of i)) refl (m.value.as_content c) (n.value.as_content c) (h.2.of_content c)))

-- where the value isn't a text
one_member : (closed : Bool) (ws : List VariantModel) (ps qs : Parts Reader) → PartsNear ps qs → Below (external_read closed ws null ps) (external_read closed ws null qs)
one_member closed ws =
    alike.by_kind Reader Reader Near Near (λ ps qs. Below (external_read closed ws null ps) (external_read closed ws null qs)) (inr refl) (λ js ks h. inr refl) of
  where
    of : (ms ns : List (MemberPart Reader)) → MembersNear ms ns → Below (external_read closed ws null (object_parts ms)) (external_read closed ws null (object_parts ns))
    of [] [] h = inr refl
    of [] (n ∷ ns) h = absurd h
    of (m ∷ ms) [] h = absurd h
    of (m ∷ []) (n ∷ []) h =
        subst (λ z. Below (of_name (contents_read closed m) (stopped []) 0 ws m.name) (of_name (contents_read closed n) (stopped []) 0 ws z)) h.0.0
        (by_name (contents_read closed m) (contents_read closed n) (stopped []) (contents closed m n h.0) 0 ws m.name)
    of (m ∷ []) (n ∷ p ∷ ns) h = absurd h.1
    of (m ∷ o ∷ ms) (n ∷ []) h = absurd h.1
    of (m ∷ o ∷ ms) (n ∷ p ∷ ns) h = inr refl

external : (closed : Bool) (ws : List VariantModel) (v : Value) (ps qs : Parts Reader) → PartsNear ps qs → Below (external_read closed ws v ps) (external_read closed ws v qs)
external closed ws (text s) ps qs h = inr refl
external closed ws null ps qs h = one_member closed ws ps qs h
external closed ws (value.boolean b) ps qs h = one_member closed ws ps qs h
external closed ws (number z) ps qs h = one_member closed ws ps qs h
external closed ws fraction ps qs h = one_member closed ws ps qs h
external closed ws (list xs) ps qs h = one_member closed ws ps qs h
external closed ws (object xs) ps qs h = one_member closed ws ps qs h

beside : (closed : Bool) (ms ns : List (MemberPart Reader)) → MembersNear ms ns → (i : ℕ) (w : VariantModel) → Below (content_beside closed ms i w) (content_beside closed ns i w)
beside closed [] [] h i w = inr refl
beside closed [] (n ∷ ns) h i w = absurd h
beside closed (m ∷ ms) [] h i w = absurd h
beside closed (m ∷ ms) (n ∷ ns) h i w =
    let c = variant_content closed w in
    of_if (is_unit w) (stopped (m.name ∷ [])) (stopped (n.name ∷ [])) (under m.name (read_map (variant_of i) (m.value.as_content c))) (under n.name (read_map (variant_of i) (n.value.as_content c)))
    (inr (ap (λ z. stopped (z ∷ [])) h.0.0))
    (of_under m.name n.name h.0.0 (read_map (variant_of i) (m.value.as_content c)) (read_map (variant_of i) (n.value.as_content c))
    (along (read_map (variant_of i)) refl (m.value.as_content c) (n.value.as_content c) (h.0.2.of_content c)))

adjacent : (closed : Bool) (os ps ms ns : List (MemberPart Reader)) → MembersNear os ps → MembersNear ms ns → (i : ℕ) (w : VariantModel)
    → Below (adjacent_read closed os ms i w) (adjacent_read closed ps ns i w)
adjacent true [] [] ms ns k h i w = beside true ms ns h i w
adjacent true [] (p ∷ ps) ms ns k h i w = absurd k
adjacent true (o ∷ os) [] ms ns k h i w = absurd k
adjacent true (o ∷ os) (p ∷ ps) ms ns k h i w = inr (ap (λ z. stopped (z ∷ [])) k.0.0)
adjacent false os ps ms ns k h i w = beside false ms ns h i w

-- ---- fields

module _ (x y : ℕ → TypeModel → Read Typed) (missed : (n : ℕ) (t : TypeModel) → Below (x n t) (y n t)) (absent_of : TypeModel → Option Typed) where
  left_out : (f : FieldModel) (d : DefaultModel) → Below (default_given x absent_of f d) (default_given y absent_of f d)
  left_out f (stated_default n) = along if_sound refl (x n f.field_type) (y n f.field_type) (missed n f.field_type)
  left_out f own_default = inr refl
  left_out f no_default = inr refl

  field : (f : FieldModel) (ms ns : List (MemberPart Reader)) → MembersNear ms ns → Below (field_read x absent_of f ms) (field_read y absent_of f ns)
  field f [] [] h = left_out f f.default
  field f [] (n ∷ ns) h = absurd h
  field f (m ∷ ms) [] h = absurd h
  field f (m ∷ []) (n ∷ []) h =
      let t = present_type f in
      of_under m.name n.name h.0.0 (helped f.helper (m.value.as_type t)) (helped f.helper (n.value.as_type t)) (of_helped f.helper (m.value.as_type t) (n.value.as_type t) (h.0.2.of_type t))
  field f (m ∷ []) (n ∷ p ∷ ns) h = absurd h.1
  field f (m ∷ o ∷ ms) (n ∷ []) h = absurd h.1
  field f (m ∷ o ∷ ms) (n ∷ p ∷ ns) h = inr (ap (λ z. stopped (z ∷ [])) h.1.0.0)

  fields : (fs : List FieldModel) (us ws ms ns : List (MemberPart Reader)) → MembersNear us ws → MembersNear ms ns → Below (fields_read x absent_of fs us ms) (fields_read y absent_of fs ws ns)
  fields [] us ws ms ns k h = inr refl
  fields (f ∷ fs) us ws ms ns k h =
      of_if f.is_rest (followed (rest_read f.field_type us) (fields_read x absent_of fs us ms)) (followed (rest_read f.field_type ws) (fields_read y absent_of fs ws ns))
      (followed (field_read x absent_of f (own_members f ms)) (fields_read x absent_of fs us (other_members f ms)))
      (followed (field_read y absent_of f (own_members f ns)) (fields_read y absent_of fs ws (other_members f ns)))
      (of_followed (rest_read f.field_type us) (rest_read f.field_type ws) (fields_read x absent_of fs us ms) (fields_read y absent_of fs ws ns)
      (of_rest f.field_type us ws k) (fields fs us ws ms ns k h))
      (of_followed (field_read x absent_of f (own_members f ms)) (field_read y absent_of f (own_members f ns))
      (fields_read x absent_of fs us (other_members f ms)) (fields_read y absent_of fs ws (other_members f ns))
      (field f (own_members f ms) (own_members f ns) (own f ms ns h)) (fields fs us ws (other_members f ms) (other_members f ns) k (other f ms ns h)))

  after : (closed : Bool) (fs : List FieldModel) (us ws ms ns : List (MemberPart Reader)) → MembersNear us ws → MembersNear ms ns
      → Below (after_unnamed x absent_of closed fs us ms) (after_unnamed y absent_of closed fs ws ns)
  after true fs [] [] ms ns k h = fields fs [] [] ms ns tt h
  after true fs [] (w ∷ ws) ms ns k h = absurd k
  after true fs (u ∷ us) [] ms ns k h = absurd k
  after true fs (u ∷ us) (w ∷ ws) ms ns k h = inr (ap (λ z. stopped (z ∷ [])) k.0.0)
  after false fs us ws ms ns k h = fields fs us ws ms ns k h

  members : (closed : Bool) (fs : List FieldModel) (ms ns : List (MemberPart Reader)) → MembersNear ms ns → Below (members_read x absent_of closed fs ms) (members_read y absent_of closed fs ns)
  members closed fs ms ns h = after closed fs (unnamed_members fs ms) (unnamed_members fs ns) ms ns (unnamed fs ms ns h) h

  struct : (closed : Bool) (fs : List FieldModel) (ps qs : Parts Reader) → PartsNear ps qs → Below (struct_read x absent_of closed fs ps) (struct_read y absent_of closed fs qs)
  struct closed fs =
      alike.by_kind Reader Reader Near Near (λ ps qs. Below (struct_read x absent_of closed fs ps) (struct_read y absent_of closed fs qs)) (inr refl) (λ js ks h. inr refl) (members closed fs)

  -- a variant with another style
  abbrev styled : Style → VariantModel → VariantModel
  styled s w = record { serialize_name = w.serialize_name; deserialize_names = w.deserialize_names; style = s; fields = w.fields }

  by_style : (closed : Bool) (ms ns : List (MemberPart Reader)) → MembersNear ms ns → (i : ℕ) (s : Style) (w : VariantModel)
      → Below (internal_read x absent_of closed ms i (styled s w)) (internal_read y absent_of closed ns i (styled s w))
  by_style closed ms ns h i struct_style w =
      along (read_map (variant_of i)) refl (members_read x absent_of closed w.fields ms) (members_read y absent_of closed w.fields ns) (members closed w.fields ms ns h)
  by_style closed ms ns h i unit_style w =
      along (read_map (unit_of i)) refl (members_read x absent_of closed [] ms) (members_read y absent_of closed [] ns) (members closed [] ms ns h)
  by_style closed ms ns h i tuple_style w = inr refl
  by_style closed ms ns h i newtype_style w = inr refl

  internal : (closed : Bool) (ms ns : List (MemberPart Reader)) → MembersNear ms ns → (i : ℕ) (w : VariantModel)
      → Below (internal_read x absent_of closed ms i w) (internal_read y absent_of closed ns i w)
  internal closed ms ns h i w = by_style closed ms ns h i w.style w

  -- ---- containers

  module _ (r : Relations) (cs : ConversionsD) (v : Value) (ps qs : Parts Reader) (h : PartsNear ps qs) (f g : TypeModel → Read Typed) (types : (t : TypeModel) → Below (f t) (g t)) where
    content : (c : Content) → Below (content_read x absent_of r cs v ps f c) (content_read y absent_of r cs v qs g c)
    content (one_type t) = along (read_map (λ z. z ∷ [])) refl (f t) (g t) (types t)
    content (places ts) = tuple ts ps qs h
    content (named_fields closed fs) = struct closed fs ps qs h

    variant : (closed : Bool) (i : ℕ) (w : VariantModel) → Below (variant_read x absent_of r cs v ps f closed i w) (variant_read y absent_of r cs v qs g closed i w)
    variant closed i w =
        let c = variant_content closed w in
        let one = content_read x absent_of r cs v ps f c in
        let two = content_read y absent_of r cs v qs g c in
        of_if (is_unit w) (read_map (unit_of i) one) (read_map (unit_of i) two) (read_map (variant_of i) one) (read_map (variant_of i) two)
        (along (read_map (unit_of i)) refl one two (content c)) (along (read_map (variant_of i)) refl one two (content c))

    first : (closed : Bool) (i : ℕ) (ws : List VariantModel) → Below (untagged_read x absent_of r cs v ps f closed i ws) (untagged_read y absent_of r cs v qs g closed i ws)
    first closed i [] = inr refl
    first closed i (w ∷ ws) =
        of_next (variant_read x absent_of r cs v ps f closed i w) (variant_read y absent_of r cs v qs g closed i w)
        (untagged_read x absent_of r cs v ps f closed (suc i) ws) (untagged_read y absent_of r cs v qs g closed (suc i) ws) (variant closed i w) (first closed (suc i) ws)

    in_parts : MembersNear (members_in ps) (members_in qs)
    in_parts = alike.members_alike Reader Reader Near Near ps qs h

    but : (tag : List ℕ) → MembersNear (without tag (members_in ps)) (without tag (members_in qs))
    but tag = alike.without_alike Reader Reader Near Near tag (members_in ps) (members_in qs) in_parts

    enum : (closed : Bool) (tag : TagModel) (ws : List VariantModel) → Below (enum_read x absent_of r cs v ps f closed tag ws) (enum_read y absent_of r cs v qs g closed tag ws)
    enum closed external_tag ws = external closed ws v ps qs h
    enum closed (internal_tag tag) ws =
        tagged tag ws (internal_read x absent_of closed (without tag (members_in ps))) (internal_read y absent_of closed (without tag (members_in qs)))
        (internal closed (without tag (members_in ps)) (without tag (members_in qs)) (but tag)) (tag_value tag v)
    enum closed (adjacent_tag tag name) ws =
        tagged tag ws (adjacent_read closed (without name (without tag (members_in ps))) (named name (members_in ps)))
        (adjacent_read closed (without name (without tag (members_in qs))) (named name (members_in qs)))
        (adjacent closed (without name (without tag (members_in ps))) (without name (without tag (members_in qs))) (named name (members_in ps)) (named name (members_in qs))
        (alike.without_alike Reader Reader Near Near name (without tag (members_in ps)) (without tag (members_in qs)) (but tag))
        (alike.named_alike Reader Reader Near Near name (members_in ps) (members_in qs) in_parts)) (tag_value tag v)
    enum closed untagged ws = first closed 0 ws

    newtype_near : (fs : List FieldModel) → Below (newtype_read x absent_of r cs v ps f fs) (newtype_read y absent_of r cs v qs g fs)
    newtype_near [] = inr refl
    newtype_near (a ∷ []) = along (read_map typed.newtype) refl (f a.field_type) (g a.field_type) (types a.field_type)
    newtype_near (a ∷ b ∷ fs) = inr refl

    of_style : (closed : Bool) (s : Style) (fs : List FieldModel) → Below (item_of_style x absent_of r cs v ps f closed s fs) (item_of_style y absent_of r cs v qs g closed s fs)
    of_style closed struct_style fs =
        along (read_map (λ zs. typed.struct (typeds zs))) refl (struct_read x absent_of closed fs ps) (struct_read y absent_of closed fs qs) (struct closed fs ps qs h)
    of_style closed newtype_style fs = newtype_near fs
    of_style closed tuple_style fs = inr refl
    of_style closed unit_style fs = inr refl

    body : (closed : Bool) (b : BodyModel) → Below (body_read x absent_of r cs v ps f closed b) (body_read y absent_of r cs v qs g closed b)
    body closed (struct_model s fs) = of_style closed s fs
    body closed (enum_model tag ws) = enum closed tag ws

    container : (o : Option ContainerModel) → Below (container_read x absent_of r cs v ps f o) (container_read y absent_of r cs v qs g o)
    container None = inr refl
    container (Some m) =
        along (kept_if (rule_holds x absent_of r cs v ps f m)) refl (body_read x absent_of r cs v ps f m.closed m.body) (body_read y absent_of r cs v qs g m.closed m.body) (body m.closed m.body)

-- ---- types, where what items are read as is known

module _ (models : List ContainerModel) (r : Relations) (v : Value) (ps qs : Parts Reader) (h : PartsNear ps qs) (f g : List ℕ → Read Typed) (named_so : (n : List ℕ) → Below (f n) (g n)) where
  by_type : (t : TypeModel) → Below (type_read models r v ps f t) (type_read models r v qs g t)
  by_type (option_type t) =
      of_if (is_null v) (taken typed.none) (taken typed.none) (read_map typed.some (type_read models r v ps f t)) (read_map typed.some (type_read models r v qs g t)) (inr refl)
      (along (read_map typed.some) refl (type_read models r v ps f t) (type_read models r v qs g t) (by_type t))
  by_type (boxed_type t) = by_type t
  by_type (vec_type t) = along (read_map (λ xs. typed.list (typeds xs))) refl (list_read t ps) (list_read t qs) (each t ps qs h)
  by_type (set_type t) = along (read_map (λ xs. typed.list (typeds (keep_apart (written models t) [] xs)))) refl (list_read t ps) (list_read t qs) (each t ps qs h)
  by_type (map_type k t) = of_object k t ps qs h
  by_type (tuple_type ts) = along (read_map (λ xs. typed.list (typeds xs))) refl (tuple_read (types_of ts) ps) (tuple_read (types_of ts) qs) (tuple (types_of ts) ps qs h)
  by_type (array_type t n) = along (read_map (λ xs. typed.list (typeds xs))) refl (array_read t n ps) (array_read t n qs) (array t n ps qs h)
  by_type (item_type n) = named_so n
  by_type _ = inr refl

-- ---- values

module _ (models : List ContainerModel) (cs : ConversionsD) (r : Relations) (x y : ℕ → TypeModel → Read Typed) (missed : (n : ℕ) (t : TypeModel) → Below (x n t) (y n t)) where
  module _ (v : Value) (ps qs : Parts Reader) (h : PartsNear ps qs) where
    entered : (k : ℕ) (n : List ℕ) → Below (item_reading models cs r x v ps k n) (item_reading models cs r y v qs k n)
    entered zero n = inr refl
    entered (suc k) n =
        container x y missed (absent models) r cs v ps qs h (type_read models r v ps (item_reading models cs r x v ps k)) (type_read models r v qs (item_reading models cs r y v qs k))
        (by_type models r v ps qs h (item_reading models cs r x v ps k) (item_reading models cs r y v qs k) (entered k)) (container_named n models)

    within : (k : ℕ) → Near (reader_within models cs r x v ps k) (reader_within models cs r y v qs k)
    within k =
        let types = by_type models r v ps qs h (item_reading models cs r x v ps k) (item_reading models cs r y v qs k) (entered k) in
        record {
          of_type = types;
          of_content = content x y missed (absent models) r cs v ps qs h (type_read models r v ps (item_reading models cs r x v ps k)) (type_read models r v qs (item_reading models cs r y v qs k)) types;
        }

  mutual
    pub of_value : (v : Value) → Near (value_reader models cs r x v) (value_reader models cs r y v)
    of_value null = within null no_parts no_parts tt (allowed models)
    of_value (value.boolean b) = within (value.boolean b) no_parts no_parts tt (allowed models)
    of_value (number z) = within (number z) no_parts no_parts tt (allowed models)
    of_value fraction = within fraction no_parts no_parts tt (allowed models)
    of_value (text s) = within (text s) no_parts no_parts tt (allowed models)
    of_value (list xs) = within (list xs) (list_parts (item_readers models cs r x xs)) (list_parts (item_readers models cs r y xs)) (of_items xs) (allowed models)
    of_value (object ms) = within (object ms) (object_parts (member_readers models cs r x ms)) (object_parts (member_readers models cs r y ms)) (of_members ms) (allowed models)

    of_items : (xs : Items) → ItemsNear (item_readers models cs r x xs) (item_readers models cs r y xs)
    of_items no_items = tt
    of_items (value.item v vs) = (of_value v, of_items vs)

    of_members : (ms : Members) → MembersNear (member_readers models cs r x ms) (member_readers models cs r y ms)
    of_members no_members = tt
    of_members (member k v ms) = ((refl, within (text k) no_parts no_parts tt (allowed models), of_value v), of_members ms)
