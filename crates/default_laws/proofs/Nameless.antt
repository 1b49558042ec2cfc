-- What a value comes to says nothing of names.
use Rattle.std.proofs.Common.{◌≡◌, ℕ, zero, suc, List, [], ◌∷◌, filter, map, length, Bool, ◌||◌, not, Option, Some, None, option_map, refl, sym, ap, ◌∙◌}
use Rattle.std.specs.Prelude.{◌==◌}
use Rattle.json_value.specs.Value as value
use Rattle.json_value.specs.Value.{Value, Items, Members, null, number, fraction, text, list, object, no_items, no_members, member}
use Rattle.schema_defs.specs.Texts.{Relations}
use Rattle.model_defs.specs.Model.{external_tag, internal_tag, adjacent_tag, untagged}
use Rattle.model_defs.specs.Layer.{MemberPart, Parts, no_parts, list_parts, object_parts, is_null, is_none, named, without, members_in}
use Rattle.entry_defs.specs.Entry.{Target, State, required, optional, stated, Entry, boolean_entry, integer_entry, text_entry, native_entry, any_entry, unit_entry, option_entry, vec_entry, set_entry, map_entry, tuple_entry, array_entry, reference, item, Entries, no_entries, entry_then, entry_again, next_entry, Shape, struct_shape, enum_shape, newtype_shape, Rest, no_rest, rest, rest_of, Fields, Variants, no_variants, variant_then, Contents, unit_contents, newtype_contents, tuple_contents, struct_contents, FieldEntry, VariantEntry, entries_of, fields_of, variants_of}
use Rattle.entry_defs.specs.Layer.{others, variant_named, tagged_variant, is_unit_named, contents_entry, rule_holds}
use Rattle.entry_defs.specs.Table.{ItemEntry, Table, target_item, allowed}
use Rattle.naming_defs.proofs.Bare.{bare, bare_entries, bare_shape, bare_fields, bare_variants, bare_contents, bare_item, bare_table, found-bare, same-allowed}
use Rattle.naming_defs.proofs.Takes.{next-bare, bare_field, fields-bare, bare_rest, rest-bare, is-field, contents-bare, unit-bare, bare_variant, named-bare, tagged-bare, unit-named}
use Rattle.default_defs.specs.Found.{Found, if_so, told, both, or_next, given}
use Rattle.default_defs.specs.Layer.{Reader, items_read, each_read, array_read, members_read, map_read, in_places, places_read, values_read, rest_read, left_out, field_read, fields_read, members_of_struct, struct_read, contents_read, external_read, beside_tag, internal_read, beside_content, adjacent_read, entry_read, shape_read, first_read, same_read}
use Rattle.default_defs.specs.Supplied.{item_read, follows, read_within, value_read, item_readers, member_readers}
use Rattle.default_defs.proofs.Alike as alike

-- ---- parts: by an entry the one finds what the other finds by the entry without names

abbrev pub Near : Reader → Reader → Type 0
Near f g = (e : Entry) → f e ≡ g (bare e)

abbrev ItemsNear : List Reader → List Reader → Type 0
ItemsNear = alike.AlikeItems Reader Reader Near Near

abbrev MembersNear : List (MemberPart Reader) → List (MemberPart Reader) → Type 0
MembersNear = alike.AlikeMembers Reader Reader Near Near

abbrev PartsNear : Parts Reader → Parts Reader → Type 0
PartsNear = alike.AlikeParts Reader Reader Near Near

items : (e : Entry) (js ks : List Reader) → ItemsNear js ks → items_read e js ≡ items_read (bare e) ks
items e [] [] h = refl
items e [] (k ∷ ks) h = absurd h
items e (j ∷ js) [] h = absurd h
items e (j ∷ js) (k ∷ ks) h =
    let a = h.0 e in let b = items e js ks h.1 in
    λ i. both (a i) (b i)

each : (e : Entry) (ps qs : Parts Reader) → PartsNear ps qs → each_read e ps ≡ each_read (bare e) qs
each e = alike.by_kind Reader Reader Near Near (λ ps qs. each_read e ps ≡ each_read (bare e) qs) refl (items e) (λ ms ns h. refl)

sized : (n : ℕ) (e : Entry) (js ks : List Reader) → ItemsNear js ks → if_so (length js == n) (items_read e js) ≡ if_so (length ks == n) (items_read (bare e) ks)
sized n e js ks h =
    let a = alike.as_many Reader Reader Near Near js ks h in let b = items e js ks h in
    λ i. if_so (a i == n) (b i)

array : (e : Entry) (n : ℕ) (ps qs : Parts Reader) → PartsNear ps qs → array_read e n ps ≡ array_read (bare e) n qs
array e n = alike.by_kind Reader Reader Near Near (λ ps qs. array_read e n ps ≡ array_read (bare e) n qs) refl (sized n e) (λ ms ns h. refl)

members : (k e : Entry) (ms ns : List (MemberPart Reader)) → MembersNear ms ns → members_read k e ms ≡ members_read (bare k) (bare e) ns
members k e [] [] h = refl
members k e [] (n ∷ ns) h = absurd h
members k e (m ∷ ms) [] h = absurd h
members k e (m ∷ ms) (n ∷ ns) h =
    let a = h.0.1 k in let b = h.0.2 e in let c = members k e ms ns h.1 in
    λ i. both (both (a i) (b i)) (c i)

map_near : (k e : Entry) (ps qs : Parts Reader) → PartsNear ps qs → map_read k e ps ≡ map_read (bare k) (bare e) qs
map_near k e = alike.by_kind Reader Reader Near Near (λ ps qs. map_read k e ps ≡ map_read (bare k) (bare e) qs) refl (λ js ks h. refl) (members k e)

at_places : (es : Entries) (js ks : List Reader) → ItemsNear js ks → in_places (entries_of es) js ≡ in_places (entries_of (bare_entries es)) ks
at_places no_entries [] [] h = refl
at_places no_entries (j ∷ js) (k ∷ ks) h = refl
at_places (entry_then e es) [] [] h = refl
at_places (entry_then e es) (j ∷ js) (k ∷ ks) h =
    let a = h.0 e in let b = at_places es js ks h.1 in
    λ i. both (a i) (b i)
at_places (entry_again es) [] [] h = refl
at_places (entry_again es) (j ∷ js) (k ∷ ks) h =
    let a = h.0 (next_entry es) ∙ ap k (sym (next-bare es)) in let b = at_places es js ks h.1 in
    λ i. both (a i) (b i)
at_places es [] (k ∷ ks) h = absurd h
at_places es (j ∷ js) [] h = absurd h

many_places : (es : Entries) → length (entries_of es) ≡ length (entries_of (bare_entries es))
many_places no_entries = refl
many_places (entry_then e es) = ap suc (many_places es)
many_places (entry_again es) = ap suc (many_places es)

sized_places : (es : Entries) (js ks : List Reader) → ItemsNear js ks
    → if_so (length js == length (entries_of es)) (in_places (entries_of es) js) ≡ if_so (length ks == length (entries_of (bare_entries es))) (in_places (entries_of (bare_entries es)) ks)
sized_places es js ks h =
    let a = alike.as_many Reader Reader Near Near js ks h in let b = many_places es in let c = at_places es js ks h in
    λ i. if_so (a i == b i) (c i)

places : (es : Entries) (ps qs : Parts Reader) → PartsNear ps qs → places_read (entries_of es) ps ≡ places_read (entries_of (bare_entries es)) qs
places es =
    alike.by_kind Reader Reader Near Near (λ ps qs. places_read (entries_of es) ps ≡ places_read (entries_of (bare_entries es)) qs) refl (sized_places es) (λ ms ns h. refl)

values : (e : Entry) (ms ns : List (MemberPart Reader)) → MembersNear ms ns → values_read e ms ≡ values_read (bare e) ns
values e [] [] h = refl
values e [] (n ∷ ns) h = absurd h
values e (m ∷ ms) [] h = absurd h
values e (m ∷ ms) (n ∷ ns) h =
    let a = h.0.2 e in let b = values e ms ns h.1 in
    λ i. both (a i) (b i)

rest_near : (o : Rest) (ms ns : List (MemberPart Reader)) → MembersNear ms ns → rest_read o ms ≡ rest_read (bare_rest o) ns
rest_near no_rest ms ns h = refl
rest_near (rest i e) ms ns h = values e ms ns h

-- ---- fields

module _ (x y : Entry → Value → Found) (missed : (e : Entry) (v : Value) → x e v ≡ y (bare e) v) where
  left : (s : State) (e : Entry) → left_out x s e ≡ left_out y s (bare e)
  left required e = refl
  left optional e = refl
  left (stated w) e = ap given (missed e w)

  field : (f : FieldEntry) (ms ns : List (MemberPart Reader)) → MembersNear ms ns → field_read x f ms ≡ field_read y (bare_field f) ns
  field f [] [] h = left f.state f.entry
  field f [] (n ∷ ns) h = absurd h
  field f (m ∷ ms) [] h = absurd h
  field f (m ∷ []) (n ∷ []) h = h.0.2 f.entry
  field f (m ∷ []) (n ∷ p ∷ ns) h = absurd h.1
  field f (m ∷ o ∷ ms) (n ∷ []) h = absurd h.1
  field f (m ∷ o ∷ ms) (n ∷ p ∷ ns) h = refl

  each_field : (fs : List FieldEntry) (ms ns : List (MemberPart Reader)) → MembersNear ms ns → fields_read x fs ms ≡ fields_read y (map bare_field fs) ns
  each_field [] ms ns h = refl
  each_field (f ∷ fs) ms ns h =
      let a = field f (named f.name ms) (named f.name ns) (alike.named_alike Reader Reader Near Near f.name ms ns h) in
      let b = each_field fs ms ns h in
      λ i. both (a i) (b i)

  of_struct : (closed : Bool) (fs : List FieldEntry) (o : Rest) (ms ns : List (MemberPart Reader)) → MembersNear ms ns
      → members_of_struct x closed fs o ms ≡ members_of_struct y closed (map bare_field fs) (bare_rest o) ns
  of_struct closed fs o ms ns h =
      let os = alike.others_alike Reader Reader Near Near fs ms ns h in
      let same : others fs ns ≡ others (map bare_field fs) ns = λ i. filter (λ n. not (is-field fs n.name i)) ns in
      let a = alike.none_alike Reader Reader Near Near (others fs ms) (others fs ns) os ∙ ap is_none same in
      let b = each_field fs ms ns h in
      let c = rest_near o (others fs ms) (others fs ns) os ∙ ap (rest_read (bare_rest o)) same in
      λ i. if_so (not closed || a i) (both (b i) (c i))

  of_fields : (closed : Bool) (fs : Fields) (ms ns : List (MemberPart Reader)) → MembersNear ms ns
      → members_of_struct x closed (fields_of fs) (rest_of fs) ms ≡ members_of_struct y closed (fields_of (bare_fields fs)) (rest_of (bare_fields fs)) ns
  of_fields closed fs ms ns h =
      of_struct closed (fields_of fs) (rest_of fs) ms ns h ∙ (λ i. members_of_struct y closed (sym (fields-bare fs) i) (sym (rest-bare fs) i) ns)

  struct : (closed : Bool) (fs : Fields) (ps qs : Parts Reader) → PartsNear ps qs
      → struct_read x closed (fields_of fs) (rest_of fs) ps ≡ struct_read y closed (fields_of (bare_fields fs)) (rest_of (bare_fields fs)) qs
  struct closed fs =
      alike.by_kind Reader Reader Near Near (λ ps qs. struct_read x closed (fields_of fs) (rest_of fs) ps ≡ struct_read y closed (fields_of (bare_fields fs)) (rest_of (bare_fields fs)) qs) refl
      (λ js ks h. refl) (of_fields closed fs)

  -- ---- variants

  contents : (closed : Bool) (f g : Reader) → Near f g → (o : Option VariantEntry) → contents_read x closed f o ≡ contents_read y closed g (option_map bare_variant o)
  contents closed f g h None = refl
  contents closed f g h (Some w) =
      let a = unit-bare w.contents in let b = h (contents_entry closed w.contents) ∙ ap g (contents-bare closed w.contents) in
      λ i. if_so (not (a i)) (b i)

  -- where the value isn't a text
  one_member : (closed : Bool) (ws : Variants) (ps qs : Parts Reader) → PartsNear ps qs
      → external_read x closed (variants_of ws) null ps ≡ external_read y closed (variants_of (bare_variants external_tag ws)) null qs
  one_member closed ws =
      alike.by_kind Reader Reader Near Near (λ ps qs. external_read x closed (variants_of ws) null ps ≡ external_read y closed (variants_of (bare_variants external_tag ws)) null qs) refl
      (λ js ks h. refl) of
    where
      of : (ms ns : List (MemberPart Reader)) → MembersNear ms ns
          → external_read x closed (variants_of ws) null (object_parts ms) ≡ external_read y closed (variants_of (bare_variants external_tag ws)) null (object_parts ns)
      of [] [] h = refl
      of [] (n ∷ ns) h = absurd h
      of (m ∷ ms) [] h = absurd h
      of (m ∷ []) (n ∷ []) h =
          contents closed m.value n.value h.0.2 (variant_named m.name (variants_of ws))
          ∙ ap (contents_read y closed n.value) (sym (named-bare external_tag (λ z. refl) m.name ws))
          ∙ ap (λ z. contents_read y closed n.value (variant_named z (variants_of (bare_variants external_tag ws)))) h.0.0
      of (m ∷ []) (n ∷ p ∷ ns) h = absurd h.1
      of (m ∷ o ∷ ms) (n ∷ []) h = absurd h.1
      of (m ∷ o ∷ ms) (n ∷ p ∷ ns) h = refl

  external : (closed : Bool) (ws : Variants) (v : Value) (ps qs : Parts Reader) → PartsNear ps qs
      → external_read x closed (variants_of ws) v ps ≡ external_read y closed (variants_of (bare_variants external_tag ws)) v qs
  external closed ws (text s) ps qs h = ap told (unit-named (variant_named s (variants_of ws)) ∙ ap is_unit_named (sym (named-bare external_tag (λ z. refl) s ws)))
  external closed ws null ps qs h = one_member closed ws ps qs h
  external closed ws (value.boolean b) ps qs h = one_member closed ws ps qs h
  external closed ws (number z) ps qs h = one_member closed ws ps qs h
  external closed ws fraction ps qs h = one_member closed ws ps qs h
  external closed ws (list xs) ps qs h = one_member closed ws ps qs h
  external closed ws (object xs) ps qs h = one_member closed ws ps qs h

  beside : (closed : Bool) (ms ns : List (MemberPart Reader)) → MembersNear ms ns → (c : Contents) → beside_tag x closed ms c ≡ beside_tag y closed ns (bare_contents c)
  beside closed ms ns h unit_contents = of_struct closed [] no_rest ms ns h
  beside closed ms ns h (struct_contents fs) = of_fields closed fs ms ns h
  beside closed ms ns h (newtype_contents e) = refl
  beside closed ms ns h (tuple_contents es) = refl

  internal : (closed : Bool) (tag : List ℕ) (ms ns : List (MemberPart Reader)) → MembersNear ms ns → (o : Option VariantEntry)
      → internal_read x closed tag ms o ≡ internal_read y closed tag ns (option_map bare_variant o)
  internal closed tag ms ns h None = refl
  internal closed tag ms ns h (Some w) = beside closed (without tag ms) (without tag ns) (alike.without_alike Reader Reader Near Near tag ms ns h) w.contents

  content : (closed : Bool) (c : Contents) (ms ns : List (MemberPart Reader)) → MembersNear ms ns → beside_content x closed c ms ≡ beside_content y closed (bare_contents c) ns
  content closed c [] [] h = ap told (unit-bare c)
  content closed c [] (n ∷ ns) h = absurd h
  content closed c (m ∷ ms) [] h = absurd h
  content closed c (m ∷ ms) (n ∷ ns) h =
      let a = unit-bare c in let b = h.0.2 (contents_entry closed c) ∙ ap n.value (contents-bare closed c) in
      λ i. if_so (not (a i)) (b i)

  adjacent : (closed : Bool) (tag name : List ℕ) (ms ns : List (MemberPart Reader)) → MembersNear ms ns → (o : Option VariantEntry)
      → adjacent_read x closed tag name ms o ≡ adjacent_read y closed tag name ns (option_map bare_variant o)
  adjacent closed tag name ms ns h None = refl
  adjacent closed tag name ms ns h (Some w) =
      let one = alike.without_alike Reader Reader Near Near tag ms ns h in
      let two = alike.without_alike Reader Reader Near Near name (without tag ms) (without tag ns) one in
      let a = alike.none_alike Reader Reader Near Near (without name (without tag ms)) (without name (without tag ns)) two in
      let b = content closed w.contents (named name ms) (named name ns) (alike.named_alike Reader Reader Near Near name ms ns h) in
      λ i. if_so (not closed || a i) (b i)

  -- ---- entries, where what references come to is known

  module _ (r : Relations) (v : Value) (ps qs : Parts Reader) (h : PartsNear ps qs) (f g : Target → Found) (refs : (q : Target) → f q ≡ g q) where
    mutual
      entry : (e : Entry) → entry_read x r v ps f e ≡ entry_read y r v qs g (bare e)
      entry boolean_entry = refl
      entry (integer_entry i) = refl
      entry text_entry = refl
      entry (native_entry d) = refl
      entry any_entry = refl
      entry unit_entry = refl
      entry (option_entry e) = ap (or_next (told (is_null v))) (entry e)
      entry (vec_entry e) = each e ps qs h
      entry (set_entry e) = each e ps qs h
      entry (map_entry k e) = map_near k e ps qs h
      entry (tuple_entry es) = places es ps qs h
      entry (array_entry e n) = array e n ps qs h
      entry (reference q) = refs q
      entry (item n s) = shape s

      shape : (s : Shape) → shape_read x r v ps f s ≡ shape_read y r v qs g (bare_shape s)
      shape (struct_shape closed fs) = struct closed fs ps qs h
      shape (enum_shape closed external_tag ws) = external closed ws v ps qs h
      shape (enum_shape closed (internal_tag tag) ws) =
          internal closed tag (members_in ps) (members_in qs) (alike.members_alike Reader Reader Near Near ps qs h) (tagged_variant tag (variants_of ws) v)
          ∙ ap (internal_read y closed tag (members_in qs)) (sym (tagged-bare (internal_tag tag) (λ z. refl) tag ws v))
      shape (enum_shape closed (adjacent_tag tag name) ws) =
          adjacent closed tag name (members_in ps) (members_in qs) (alike.members_alike Reader Reader Near Near ps qs h) (tagged_variant tag (variants_of ws) v)
          ∙ ap (adjacent_read y closed tag name (members_in qs)) (sym (tagged-bare (adjacent_tag tag name) (λ z. refl) tag ws v))
      shape (enum_shape closed untagged ws) = first closed ws
      shape (newtype_shape e rule) = ap (λ z. both z (told (rule_holds r v rule))) (entry e)

      first : (closed : Bool) (ws : Variants) → first_read x r v ps f closed ws ≡ first_read y r v qs g closed (bare_variants untagged ws)
      first closed no_variants = refl
      first closed (variant_then i n c ws) =
          let a = same closed c in let b = first closed ws in
          λ k. or_next (a k) (b k)

      same : (closed : Bool) (c : Contents) → same_read x r v ps f closed c ≡ same_read y r v qs g closed (bare_contents c)
      same closed unit_contents = refl
      same closed (newtype_contents e) = entry e
      same closed (tuple_contents es) = places es ps qs h
      same closed (struct_contents fs) = struct closed fs ps qs h

  -- ---- references, and values

  module _ (t : Table) (r : Relations) where
    abbrev u : Table
    u = bare_table t

    led : (f g : Shape → Found) → ((s : Shape) → f s ≡ g (bare_shape s)) → (o : Option ItemEntry) → item_read f o ≡ item_read g (option_map bare_item o)
    led f g h None = refl
    led f g h (Some i) = h i.shape

    followed : (v : Value) (ps qs : Parts Reader) → PartsNear ps qs → (k : ℕ) (q : Target) → follows t r x v ps k q ≡ follows u r y v qs k q
    followed v ps qs h zero q = refl
    followed v ps qs h (suc k) q =
        led (shape_read x r v ps (follows t r x v ps k)) (shape_read y r v qs (follows u r y v qs k))
        (shape r v ps qs h (follows t r x v ps k) (follows u r y v qs k) (followed v ps qs h k)) (target_item t q)
        ∙ ap (item_read (shape_read y r v qs (follows u r y v qs k))) (sym (found-bare q t.targets))

    within : (v : Value) (ps qs : Parts Reader) → PartsNear ps qs → Near (read_within t r x v ps (allowed t)) (read_within u r y v qs (allowed u))
    within v ps qs h e =
        entry r v ps qs h (follows t r x v ps (allowed t)) (follows u r y v qs (allowed t)) (followed v ps qs h (allowed t)) e
        ∙ ap (λ n. read_within u r y v qs n (bare e)) (sym (same-allowed t))

    mutual
      pub of_value : (v : Value) → Near (value_read t r x v) (value_read u r y v)
      of_value null = within null no_parts no_parts tt
      of_value (value.boolean b) = within (value.boolean b) no_parts no_parts tt
      of_value (number z) = within (number z) no_parts no_parts tt
      of_value fraction = within fraction no_parts no_parts tt
      of_value (text s) = within (text s) no_parts no_parts tt
      of_value (list xs) = within (list xs) (list_parts (item_readers t r x xs)) (list_parts (item_readers u r y xs)) (of_items xs)
      of_value (object ms) = within (object ms) (object_parts (member_readers t r x ms)) (object_parts (member_readers u r y ms)) (of_members ms)

      of_items : (xs : Items) → ItemsNear (item_readers t r x xs) (item_readers u r y xs)
      of_items no_items = tt
      of_items (value.item v vs) = (of_value v, of_items vs)

      of_members : (ms : Members) → MembersNear (member_readers t r x ms) (member_readers u r y ms)
      of_members no_members = tt
      of_members (member k v ms) = ((refl, within (text k) no_parts no_parts tt, of_value v), of_members ms)
