-- A relation that joining keeps holds of what is read of a value, where it holds of what the stated defaults of its entry, and of what references lead to, come to:
-- what is read goes by nothing else.
use Rattle.std.proofs.Common.{◌≡◌, ℕ, zero, suc, List, [], ◌∷◌, ◌++◌, Bool, true, false, ◌||◌, not, Option, Some, None, refl, ap, subst, length, bytes_eq}
use Rattle.std.specs.Prelude.{⊤, ◌==◌, if◌then◌else◌}
use Rattle.json_value.specs.Value as value
use Rattle.json_value.specs.Value.{Value, Items, Members, null, number, fraction, text, list, object, no_items, no_members, member, member_at}
use Rattle.schema_defs.specs.Texts.{Relations}
use Rattle.model_defs.specs.Model.{external_tag, internal_tag, adjacent_tag, untagged}
use Rattle.model_defs.specs.Layer.{MemberPart, Parts, no_parts, list_parts, object_parts, is_null, is_boolean, is_text, is_in_range, has_the_format, is_none, named, without, members_in}
use Rattle.entry_defs.specs.Entry.{Target, State, required, optional, stated, Entry, boolean_entry, integer_entry, text_entry, native_entry, any_entry, unit_entry, option_entry, vec_entry, set_entry, map_entry, tuple_entry, array_entry, reference, item, Entries, no_entries, entry_then, entry_again, Shape, struct_shape, enum_shape, newtype_shape, Rest, no_rest, rest, rest_of, Fields, no_fields, field_then, field_again, rest_field, Variants, no_variants, variant_then, Contents, unit_contents, newtype_contents, tuple_contents, struct_contents, FieldEntry, VariantEntry, next_entry, entries_of, next_field, fields_of, variants_of}
use Rattle.entry_defs.specs.Layer.{integer_range, others, variant_named, variant_of_text, tagged_variant, is_unit, is_unit_named, contents_entry, rule_holds}
use Rattle.entry_defs.specs.Table.{ItemEntry, TargetEntry, Table, same_target, found, target_item, allowed}
use Rattle.default_defs.specs.Found.{Found, refused, ended, if_so, told, both, or_next, given}
use Rattle.default_defs.specs.Layer.{Reader, items_read, each_read, array_read, members_read, map_read, in_places, places_read, values_read, rest_read, left_out, field_read, fields_read, members_of_struct, struct_read, contents_read, external_read, beside_tag, internal_read, beside_content, adjacent_read, entry_read, shape_read, first_read, same_read}
use Rattle.default_defs.specs.Supplied.{item_read, follows, read_within, value_read, item_readers, member_readers}
use Rattle.default_defs.proofs.Alike as alike
use Rattle.default_levels.proofs.Pairs.{by_state, pairs, in_entries, in_shape, in_fields, in_variants, in_contents, in_targets, Each, front, behind}

pub record IsKept (R : Found → Found → Type 0) : Type 0 where
  pub of_one : (x : Found) → R x x
  pub of_both : (x y a b : Found) → R x a → R y b → R (both x y) (both a b)
  pub of_next : (x y a b : Found) → R x a → R y b → R (or_next x y) (or_next a b)
  pub of_given : (x a : Found) → R x a → R (given x) (given a)

module _ (R : Found → Found → Type 0) (joins : IsKept R) (x y : Entry → Value → Found) where
  abbrev pub Same : Entry → Value → Type 0
  Same e v = R (x e v) (y e v)

  -- ---- where it holds of each stated default of an entry, so it does in its parts

  abbrev pub Held : Entry → Type 0
  Held e = Each Same (pairs e)

  abbrev HeldEach : List Entry → Type 0
  HeldEach [] = ⊤
  HeldEach (e ∷ es) = Held e × HeldEach es

  abbrev HeldField : FieldEntry → Type 0
  HeldField f = Each Same (by_state f.entry f.state) × Held f.entry

  abbrev HeldFields : List FieldEntry → Type 0
  HeldFields [] = ⊤
  HeldFields (f ∷ fs) = HeldField f × HeldFields fs

  abbrev HeldRest : Rest → Type 0
  HeldRest no_rest = ⊤
  HeldRest (rest i e) = Held e

  abbrev HeldContents : Contents → Type 0
  HeldContents c = Each Same (in_contents c)

  abbrev HeldVariants : List VariantEntry → Type 0
  HeldVariants [] = ⊤
  HeldVariants (w ∷ ws) = HeldContents w.contents × HeldVariants ws

  abbrev HeldVariant : Option VariantEntry → Type 0
  HeldVariant None = ⊤
  HeldVariant (Some w) = HeldContents w.contents

  abbrev HeldItem : Option ItemEntry → Type 0
  HeldItem None = ⊤
  HeldItem (Some i) = Each Same (in_shape i.shape)

  next_held : (es : Entries) → Each Same (in_entries es) → Held (next_entry es)
  next_held no_entries h = tt
  next_held (entry_then e es) h = front Same (pairs e) (in_entries es) h
  next_held (entry_again es) h = next_held es h

  entries_held : (es : Entries) → Each Same (in_entries es) → HeldEach (entries_of es)
  entries_held no_entries h = tt
  entries_held (entry_then e es) h = (front Same (pairs e) (in_entries es) h, entries_held es (behind Same (pairs e) (in_entries es) h))
  entries_held (entry_again es) h = (next_held es h, entries_held es h)

  next_field_held : (fs : Fields) → Each Same (in_fields fs) → Held (next_field fs)
  next_field_held no_fields h = tt
  next_field_held (field_then i n e s fs) h = front Same (pairs e) (in_fields fs) (behind Same (by_state e s) (pairs e ++ in_fields fs) h)
  next_field_held (field_again i n fs) h = next_field_held fs h
  next_field_held (rest_field i e) h = h

  fields_held : (fs : Fields) → Each Same (in_fields fs) → HeldFields (fields_of fs)
  fields_held no_fields h = tt
  fields_held (field_then i n e s fs) h =
      let after = behind Same (by_state e s) (pairs e ++ in_fields fs) h in
      ((front Same (by_state e s) (pairs e ++ in_fields fs) h, front Same (pairs e) (in_fields fs) after), fields_held fs (behind Same (pairs e) (in_fields fs) after))
  fields_held (field_again i n fs) h = ((tt, next_field_held fs h), fields_held fs h)
  fields_held (rest_field i e) h = tt

  rest_held : (fs : Fields) → Each Same (in_fields fs) → HeldRest (rest_of fs)
  rest_held no_fields h = tt
  rest_held (field_then i n e s fs) h = rest_held fs (behind Same (pairs e) (in_fields fs) (behind Same (by_state e s) (pairs e ++ in_fields fs) h))
  rest_held (field_again i n fs) h = rest_held fs h
  rest_held (rest_field i e) h = h

  variants_held : (ws : Variants) → Each Same (in_variants ws) → HeldVariants (variants_of ws)
  variants_held no_variants h = tt
  variants_held (variant_then i n c ws) h = (front Same (in_contents c) (in_variants ws) h, variants_held ws (behind Same (in_contents c) (in_variants ws) h))

  named_held : (n : List ℕ) (ws : List VariantEntry) → HeldVariants ws → HeldVariant (variant_named n ws)
  named_held n [] h = tt
  named_held n (w ∷ ws) h = by (bytes_eq n w.name) (named_held n ws h.1)
    where
      by : (b : Bool) → HeldVariant (variant_named n ws) → HeldVariant (if b then Some w else variant_named n ws)
      by true k = h.0
      by false k = k

  of_text_held : (ws : List VariantEntry) → HeldVariants ws → (o : Option Value) → HeldVariant (variant_of_text ws o)
  of_text_held ws h None = tt
  of_text_held ws h (Some null) = tt
  of_text_held ws h (Some (value.boolean b)) = tt
  of_text_held ws h (Some (number z)) = tt
  of_text_held ws h (Some fraction) = tt
  of_text_held ws h (Some (text s)) = named_held s ws h
  of_text_held ws h (Some (list xs)) = tt
  of_text_held ws h (Some (object ms)) = tt

  tagged_held : (tag : List ℕ) (ws : List VariantEntry) → HeldVariants ws → (v : Value) → HeldVariant (tagged_variant tag ws v)
  tagged_held tag ws h null = tt
  tagged_held tag ws h (value.boolean b) = tt
  tagged_held tag ws h (number z) = tt
  tagged_held tag ws h fraction = tt
  tagged_held tag ws h (text s) = tt
  tagged_held tag ws h (list xs) = tt
  tagged_held tag ws h (object ms) = of_text_held ws h (member_at tag ms)

  contents_held : (closed : Bool) (c : Contents) → HeldContents c → Held (contents_entry closed c)
  contents_held closed unit_contents h = tt
  contents_held closed (newtype_contents e) h = h
  contents_held closed (tuple_contents es) h = h
  contents_held closed (struct_contents fs) h = h

  found_held : (q : Target) (ts : List TargetEntry) → Each Same (in_targets ts) → HeldItem (found q ts)
  found_held q [] h = tt
  found_held q (t ∷ ts) h = by (same_target q t.target) (found_held q ts (behind Same (in_shape t.led_to.shape) (in_targets ts) h))
    where
      by : (b : Bool) → HeldItem (found q ts) → HeldItem (if b then Some t.led_to else found q ts)
      by true k = front Same (in_shape t.led_to.shape) (in_targets ts) h
      by false k = k

  -- ---- joining

  of_if : (b c : Bool) (a z : Found) → b ≡ c → R a z → R (if_so b a) (if_so c z)
  of_if b c a z e h = subst (λ k. R (if_so b a) (if_so k z)) e (by b)
    where
      by : (b : Bool) → R (if_so b a) (if_so b z)
      by true = h
      by false = joins.of_one refused

  -- ---- parts that are related where such entries are asked

  abbrev pub Near : Reader → Reader → Type 0
  Near f g = (e : Entry) → Held e → R (f e) (g e)

  abbrev ItemsNear : List Reader → List Reader → Type 0
  ItemsNear = alike.AlikeItems Reader Reader Near Near

  abbrev MembersNear : List (MemberPart Reader) → List (MemberPart Reader) → Type 0
  MembersNear = alike.AlikeMembers Reader Reader Near Near

  abbrev PartsNear : Parts Reader → Parts Reader → Type 0
  PartsNear = alike.AlikeParts Reader Reader Near Near

  items : (e : Entry) → Held e → (js ks : List Reader) → ItemsNear js ks → R (items_read e js) (items_read e ks)
  items e p [] [] h = joins.of_one ended
  items e p [] (k ∷ ks) h = absurd h
  items e p (j ∷ js) [] h = absurd h
  items e p (j ∷ js) (k ∷ ks) h = joins.of_both (j e) (items_read e js) (k e) (items_read e ks) (h.0 e p) (items e p js ks h.1)

  each : (e : Entry) → Held e → (ps qs : Parts Reader) → PartsNear ps qs → R (each_read e ps) (each_read e qs)
  each e p = alike.by_kind Reader Reader Near Near (λ ps qs. R (each_read e ps) (each_read e qs)) (joins.of_one refused) (items e p) (λ ms ns h. joins.of_one refused)

  array : (e : Entry) (n : ℕ) → Held e → (ps qs : Parts Reader) → PartsNear ps qs → R (array_read e n ps) (array_read e n qs)
  array e n p =
      alike.by_kind Reader Reader Near Near (λ ps qs. R (array_read e n ps) (array_read e n qs)) (joins.of_one refused)
      (λ js ks h. of_if (length js == n) (length ks == n) (items_read e js) (items_read e ks) (ap (λ l. l == n) (alike.as_many Reader Reader Near Near js ks h)) (items e p js ks h))
      (λ ms ns h. joins.of_one refused)

  members : (k e : Entry) → Held k → Held e → (ms ns : List (MemberPart Reader)) → MembersNear ms ns → R (members_read k e ms) (members_read k e ns)
  members k e p q [] [] h = joins.of_one ended
  members k e p q [] (n ∷ ns) h = absurd h
  members k e p q (m ∷ ms) [] h = absurd h
  members k e p q (m ∷ ms) (n ∷ ns) h =
      joins.of_both (both (m.key k) (m.value e)) (members_read k e ms) (both (n.key k) (n.value e)) (members_read k e ns)
      (joins.of_both (m.key k) (m.value e) (n.key k) (n.value e) (h.0.1 k p) (h.0.2 e q)) (members k e p q ms ns h.1)

  map_near : (k e : Entry) → Held k → Held e → (ps qs : Parts Reader) → PartsNear ps qs → R (map_read k e ps) (map_read k e qs)
  map_near k e p q =
      alike.by_kind Reader Reader Near Near (λ ps qs. R (map_read k e ps) (map_read k e qs)) (joins.of_one refused) (λ js ks h. joins.of_one refused) (members k e p q)

  at_places : (es : List Entry) → HeldEach es → (js ks : List Reader) → ItemsNear js ks → R (in_places es js) (in_places es ks)
  at_places [] p [] [] h = joins.of_one ended
  at_places [] p (j ∷ js) (k ∷ ks) h = joins.of_one refused
  at_places (e ∷ es) p [] [] h = joins.of_one refused
  at_places (e ∷ es) p (j ∷ js) (k ∷ ks) h = joins.of_both (j e) (in_places es js) (k e) (in_places es ks) (h.0 e p.0) (at_places es p.1 js ks h.1)
  at_places es p [] (k ∷ ks) h = absurd h
  at_places es p (j ∷ js) [] h = absurd h

  places : (es : List Entry) → HeldEach es → (ps qs : Parts Reader) → PartsNear ps qs → R (places_read es ps) (places_read es qs)
  places es p =
      alike.by_kind Reader Reader Near Near (λ ps qs. R (places_read es ps) (places_read es qs)) (joins.of_one refused)
      (λ js ks h. of_if (length js == length es) (length ks == length es) (in_places es js) (in_places es ks) (ap (λ l. l == length es) (alike.as_many Reader Reader Near Near js ks h)) (at_places es p js ks h))
      (λ ms ns h. joins.of_one refused)

  values : (e : Entry) → Held e → (ms ns : List (MemberPart Reader)) → MembersNear ms ns → R (values_read e ms) (values_read e ns)
  values e p [] [] h = joins.of_one ended
  values e p [] (n ∷ ns) h = absurd h
  values e p (m ∷ ms) [] h = absurd h
  values e p (m ∷ ms) (n ∷ ns) h = joins.of_both (m.value e) (values_read e ms) (n.value e) (values_read e ns) (h.0.2 e p) (values e p ms ns h.1)

  rest_near : (o : Rest) → HeldRest o → (ms ns : List (MemberPart Reader)) → MembersNear ms ns → R (rest_read o ms) (rest_read o ns)
  rest_near no_rest p ms ns h = joins.of_one ended
  rest_near (rest i e) p ms ns h = values e p ms ns h

  -- ---- fields

  left : (e : Entry) (s : State) → Each Same (by_state e s) → R (left_out x s e) (left_out y s e)
  left e required p = joins.of_one refused
  left e optional p = joins.of_one ended
  left e (stated w) p = joins.of_given (x e w) (y e w) p.0

  field : (f : FieldEntry) → HeldField f → (ms ns : List (MemberPart Reader)) → MembersNear ms ns → R (field_read x f ms) (field_read y f ns)
  field f p [] [] h = left f.entry f.state p.0
  field f p [] (n ∷ ns) h = absurd h
  field f p (m ∷ ms) [] h = absurd h
  field f p (m ∷ []) (n ∷ []) h = h.0.2 f.entry p.1
  field f p (m ∷ []) (n ∷ o ∷ ns) h = absurd h.1
  field f p (m ∷ o ∷ ms) (n ∷ []) h = absurd h.1
  field f p (m ∷ o ∷ ms) (n ∷ q ∷ ns) h = joins.of_one refused

  fields : (fs : List FieldEntry) → HeldFields fs → (ms ns : List (MemberPart Reader)) → MembersNear ms ns → R (fields_read x fs ms) (fields_read y fs ns)
  fields [] p ms ns h = joins.of_one ended
  fields (f ∷ fs) p ms ns h =
      joins.of_both (field_read x f (named f.name ms)) (fields_read x fs ms) (field_read y f (named f.name ns)) (fields_read y fs ns)
      (field f p.0 (named f.name ms) (named f.name ns) (alike.named_alike Reader Reader Near Near f.name ms ns h)) (fields fs p.1 ms ns h)

  of_struct : (closed : Bool) (fs : List FieldEntry) (o : Rest) → HeldFields fs → HeldRest o → (ms ns : List (MemberPart Reader)) → MembersNear ms ns
      → R (members_of_struct x closed fs o ms) (members_of_struct y closed fs o ns)
  of_struct closed fs o p q ms ns h =
      let os = alike.others_alike Reader Reader Near Near fs ms ns h in
      of_if (not closed || is_none (others fs ms)) (not closed || is_none (others fs ns))
      (both (fields_read x fs ms) (rest_read o (others fs ms))) (both (fields_read y fs ns) (rest_read o (others fs ns)))
      (ap (λ z. not closed || z) (alike.none_alike Reader Reader Near Near (others fs ms) (others fs ns) os))
      (joins.of_both (fields_read x fs ms) (rest_read o (others fs ms)) (fields_read y fs ns) (rest_read o (others fs ns))
      (fields fs p ms ns h) (rest_near o q (others fs ms) (others fs ns) os))

  struct : (closed : Bool) (fs : Fields) → Each Same (in_fields fs) → (ps qs : Parts Reader) → PartsNear ps qs
      → R (struct_read x closed (fields_of fs) (rest_of fs) ps) (struct_read y closed (fields_of fs) (rest_of fs) qs)
  struct closed fs p =
      alike.by_kind Reader Reader Near Near (λ ps qs. R (struct_read x closed (fields_of fs) (rest_of fs) ps) (struct_read y closed (fields_of fs) (rest_of fs) qs)) (joins.of_one refused)
      (λ js ks h. joins.of_one refused) (of_struct closed (fields_of fs) (rest_of fs) (fields_held fs p) (rest_held fs p))

  -- ---- variants

  contents : (closed : Bool) (f g : Reader) → Near f g → (o : Option VariantEntry) → HeldVariant o → R (contents_read x closed f o) (contents_read y closed g o)
  contents closed f g h None p = joins.of_one refused
  contents closed f g h (Some w) p =
      let e = contents_entry closed w.contents in
      of_if (not (is_unit w.contents)) (not (is_unit w.contents)) (f e) (g e) refl (h e (contents_held closed w.contents p))

  -- where the value isn't a text
  one_member : (closed : Bool) (ws : List VariantEntry) → HeldVariants ws → (ps qs : Parts Reader) → PartsNear ps qs → R (external_read x closed ws null ps) (external_read y closed ws null qs)
  one_member closed ws p =
      alike.by_kind Reader Reader Near Near (λ ps qs. R (external_read x closed ws null ps) (external_read y closed ws null qs)) (joins.of_one refused)
      (λ js ks h. joins.of_one refused) of
    where
      of : (ms ns : List (MemberPart Reader)) → MembersNear ms ns → R (external_read x closed ws null (object_parts ms)) (external_read y closed ws null (object_parts ns))
      of [] [] h = joins.of_one refused
      of [] (n ∷ ns) h = absurd h
      of (m ∷ ms) [] h = absurd h
      of (m ∷ []) (n ∷ []) h =
          subst (λ z. R (contents_read x closed m.value (variant_named m.name ws)) (contents_read y closed n.value (variant_named z ws))) h.0.0
          (contents closed m.value n.value h.0.2 (variant_named m.name ws) (named_held m.name ws p))
      of (m ∷ []) (n ∷ q ∷ ns) h = absurd h.1
      of (m ∷ o ∷ ms) (n ∷ []) h = absurd h.1
      of (m ∷ o ∷ ms) (n ∷ q ∷ ns) h = joins.of_one refused

  external : (closed : Bool) (ws : List VariantEntry) → HeldVariants ws → (v : Value) (ps qs : Parts Reader) → PartsNear ps qs
      → R (external_read x closed ws v ps) (external_read y closed ws v qs)
  external closed ws p (text s) ps qs h = joins.of_one (told (is_unit_named (variant_named s ws)))
  external closed ws p null ps qs h = one_member closed ws p ps qs h
  external closed ws p (value.boolean b) ps qs h = one_member closed ws p ps qs h
  external closed ws p (number z) ps qs h = one_member closed ws p ps qs h
  external closed ws p fraction ps qs h = one_member closed ws p ps qs h
  external closed ws p (list xs) ps qs h = one_member closed ws p ps qs h
  external closed ws p (object xs) ps qs h = one_member closed ws p ps qs h

  beside : (closed : Bool) (ms ns : List (MemberPart Reader)) → MembersNear ms ns → (c : Contents) → HeldContents c → R (beside_tag x closed ms c) (beside_tag y closed ns c)
  beside closed ms ns h unit_contents p = of_struct closed [] no_rest tt tt ms ns h
  beside closed ms ns h (struct_contents fs) p = of_struct closed (fields_of fs) (rest_of fs) (fields_held fs p) (rest_held fs p) ms ns h
  beside closed ms ns h (newtype_contents e) p = joins.of_one refused
  beside closed ms ns h (tuple_contents es) p = joins.of_one refused

  internal : (closed : Bool) (tag : List ℕ) (ms ns : List (MemberPart Reader)) → MembersNear ms ns → (o : Option VariantEntry) → HeldVariant o
      → R (internal_read x closed tag ms o) (internal_read y closed tag ns o)
  internal closed tag ms ns h None p = joins.of_one refused
  internal closed tag ms ns h (Some w) p = beside closed (without tag ms) (without tag ns) (alike.without_alike Reader Reader Near Near tag ms ns h) w.contents p

  content : (closed : Bool) (c : Contents) → HeldContents c → (ms ns : List (MemberPart Reader)) → MembersNear ms ns → R (beside_content x closed c ms) (beside_content y closed c ns)
  content closed c p [] [] h = joins.of_one (told (is_unit c))
  content closed c p [] (n ∷ ns) h = absurd h
  content closed c p (m ∷ ms) [] h = absurd h
  content closed c p (m ∷ ms) (n ∷ ns) h =
      let e = contents_entry closed c in
      of_if (not (is_unit c)) (not (is_unit c)) (m.value e) (n.value e) refl (h.0.2 e (contents_held closed c p))

  adjacent : (closed : Bool) (tag name : List ℕ) (ms ns : List (MemberPart Reader)) → MembersNear ms ns → (o : Option VariantEntry) → HeldVariant o
      → R (adjacent_read x closed tag name ms o) (adjacent_read y closed tag name ns o)
  adjacent closed tag name ms ns h None p = joins.of_one refused
  adjacent closed tag name ms ns h (Some w) p =
      let one = alike.without_alike Reader Reader Near Near tag ms ns h in
      let two = alike.without_alike Reader Reader Near Near name (without tag ms) (without tag ns) one in
      of_if (not closed || is_none (without name (without tag ms))) (not closed || is_none (without name (without tag ns)))
      (beside_content x closed w.contents (named name ms)) (beside_content y closed w.contents (named name ns))
      (ap (λ z. not closed || z) (alike.none_alike Reader Reader Near Near (without name (without tag ms)) (without name (without tag ns)) two))
      (content closed w.contents p (named name ms) (named name ns) (alike.named_alike Reader Reader Near Near name ms ns h))

  -- ---- entries, where what references come to is known

  module _ (r : Relations) (v : Value) (ps qs : Parts Reader) (h : PartsNear ps qs) (f g : Target → Found) (refs : (q : Target) → R (f q) (g q)) where
    mutual
      entry : (e : Entry) → Held e → R (entry_read x r v ps f e) (entry_read y r v qs g e)
      entry boolean_entry p = joins.of_one (told (is_boolean v))
      entry (integer_entry i) p = joins.of_one (told (is_in_range (integer_range i) v))
      entry text_entry p = joins.of_one (told (is_text v))
      entry (native_entry d) p = joins.of_one (told (has_the_format r d v))
      entry any_entry p = joins.of_one ended
      entry unit_entry p = joins.of_one (told (is_null v))
      entry (option_entry e) p =
          joins.of_next (told (is_null v)) (entry_read x r v ps f e) (told (is_null v)) (entry_read y r v qs g e) (joins.of_one (told (is_null v))) (entry e p)
      entry (vec_entry e) p = each e p ps qs h
      entry (set_entry e) p = each e p ps qs h
      entry (map_entry k e) p = map_near k e (front Same (pairs k) (pairs e) p) (behind Same (pairs k) (pairs e) p) ps qs h
      entry (tuple_entry es) p = places (entries_of es) (entries_held es p) ps qs h
      entry (array_entry e n) p = array e n p ps qs h
      entry (reference q) p = refs q
      entry (item n s) p = shape s p

      shape : (s : Shape) → Each Same (in_shape s) → R (shape_read x r v ps f s) (shape_read y r v qs g s)
      shape (struct_shape closed fs) p = struct closed fs p ps qs h
      shape (enum_shape closed external_tag ws) p = external closed (variants_of ws) (variants_held ws p) v ps qs h
      shape (enum_shape closed (internal_tag tag) ws) p =
          internal closed tag (members_in ps) (members_in qs) (alike.members_alike Reader Reader Near Near ps qs h) (tagged_variant tag (variants_of ws) v)
          (tagged_held tag (variants_of ws) (variants_held ws p) v)
      shape (enum_shape closed (adjacent_tag tag name) ws) p =
          adjacent closed tag name (members_in ps) (members_in qs) (alike.members_alike Reader Reader Near Near ps qs h) (tagged_variant tag (variants_of ws) v)
          (tagged_held tag (variants_of ws) (variants_held ws p) v)
      shape (enum_shape closed untagged ws) p = first closed ws p
      shape (newtype_shape e rule) p =
          joins.of_both (entry_read x r v ps f e) (told (rule_holds r v rule)) (entry_read y r v qs g e) (told (rule_holds r v rule)) (entry e p) (joins.of_one (told (rule_holds r v rule)))

      first : (closed : Bool) (ws : Variants) → Each Same (in_variants ws) → R (first_read x r v ps f closed ws) (first_read y r v qs g closed ws)
      first closed no_variants p = joins.of_one refused
      first closed (variant_then i n c ws) p =
          joins.of_next (same_read x r v ps f closed c) (first_read x r v ps f closed ws) (same_read y r v qs g closed c) (first_read y r v qs g closed ws)
          (same closed c (front Same (in_contents c) (in_variants ws) p)) (first closed ws (behind Same (in_contents c) (in_variants ws) p))

      same : (closed : Bool) (c : Contents) → HeldContents c → R (same_read x r v ps f closed c) (same_read y r v qs g closed c)
      same closed unit_contents p = joins.of_one (told (is_null v))
      same closed (newtype_contents e) p = entry e p
      same closed (tuple_contents es) p = places (entries_of es) (entries_held es p) ps qs h
      same closed (struct_contents fs) p = struct closed fs p ps qs h

  -- ---- references, and values

  module _ (t : Table) (targets : Each Same (in_targets t.targets)) (r : Relations) where
    of_item : (f g : Shape → Found) → ((s : Shape) → Each Same (in_shape s) → R (f s) (g s)) → (o : Option ItemEntry) → HeldItem o → R (item_read f o) (item_read g o)
    of_item f g h None p = joins.of_one refused
    of_item f g h (Some i) p = h i.shape p

    followed : (v : Value) (ps qs : Parts Reader) → PartsNear ps qs → (k : ℕ) (q : Target) → R (follows t r x v ps k q) (follows t r y v qs k q)
    followed v ps qs h zero q = joins.of_one refused
    followed v ps qs h (suc k) q =
        of_item (shape_read x r v ps (follows t r x v ps k)) (shape_read y r v qs (follows t r y v qs k))
        (shape r v ps qs h (follows t r x v ps k) (follows t r y v qs k) (followed v ps qs h k)) (target_item t q) (found_held q t.targets targets)

    within : (v : Value) (ps qs : Parts Reader) → PartsNear ps qs → Near (read_within t r x v ps (allowed t)) (read_within t r y v qs (allowed t))
    within v ps qs h = entry r v ps qs h (follows t r x v ps (allowed t)) (follows t r y v qs (allowed t)) (followed v ps qs h (allowed t))

    mutual
      pub of_value : (v : Value) → Near (value_read t r x v) (value_read t r y v)
      of_value null = within null no_parts no_parts tt
      of_value (value.boolean b) = within (value.boolean b) no_parts no_parts tt
      of_value (number z) = within (number z) no_parts no_parts tt
      of_value fraction = within fraction no_parts no_parts tt
      of_value (text s) = within (text s) no_parts no_parts tt
      of_value (list xs) = within (list xs) (list_parts (item_readers t r x xs)) (list_parts (item_readers t r y xs)) (of_items xs)
      of_value (object ms) = within (object ms) (object_parts (member_readers t r x ms)) (object_parts (member_readers t r y ms)) (of_members ms)

      of_items : (xs : Items) → ItemsNear (item_readers t r x xs) (item_readers t r y xs)
      of_items no_items = tt
      of_items (value.item v vs) = (of_value v, of_items vs)

      of_members : (ms : Members) → MembersNear (member_readers t r x ms) (member_readers t r y ms)
      of_members no_members = tt
      of_members (member k v ms) = ((refl, within (text k) no_parts no_parts tt, of_value v), of_members ms)
