-- What is found agrees with what the entry takes.
use Rattle.std.proofs.Common.{◌≡◌, ℕ, zero, suc, List, [], ◌∷◌, Bool, true, false, ◌&&◌, ◌||◌, not, Option, Some, None, refl, sym, ap, subst, length, ◌∙◌, arith, tests}
use Rattle.std.specs.Prelude.{◌==◌}
use Rattle.std.specs.List.{list_all}
use Rattle.json_value.specs.Value as value
use Rattle.json_value.specs.Value.{Value, Items, Members, null, number, fraction, text, list, object, no_items, no_members, member}
use Rattle.schema_defs.specs.Texts.{Relations}
use Rattle.model_defs.specs.Model.{external_tag, internal_tag, adjacent_tag, untagged}
use Rattle.model_defs.specs.Layer.{MemberPart, Parts, no_parts, list_parts, object_parts, is_null, is_boolean, is_text, is_in_range, has_the_format, is_none, named, without, members_in}
use Rattle.entry_defs.specs.Entry.{Target, State, required, optional, stated, Entry, boolean_entry, integer_entry, text_entry, native_entry, any_entry, unit_entry, option_entry, vec_entry, set_entry, map_entry, tuple_entry, array_entry, reference, item, Shape, struct_shape, enum_shape, newtype_shape, Rest, no_rest, rest, rest_of, Variants, no_variants, variant_then, Contents, unit_contents, newtype_contents, tuple_contents, struct_contents, FieldEntry, VariantEntry, entries_of, fields_of, variants_of}
use Rattle.entry_defs.specs.Layer as takes
use Rattle.entry_defs.specs.Layer.{Judge, integer_range, each_item, of_length, each_member, as_map, by_places, may_be_missing, field_takes, others, rest_takes, members_take, struct_takes, variant_named, tagged_variant, is_unit, is_unit_named, contents_entry, contents_take, external_takes, internal_takes, adjacent_takes, rule_holds, entry_takes, shape_takes, some_takes, same_takes}
use Rattle.entry_defs.specs.Table.{ItemEntry, Table, target_item, allowed}
use Rattle.entry_defs.specs.Takes as table
use Rattle.entry_defs.specs.Takes.{item_takes, takes_within, name_takes, value_takes, item_judges, member_judges}
use Rattle.default_defs.specs.Found.{Found, refused, ended, endless, if_so, told, both, or_next, given}
use Rattle.default_defs.specs.Layer as layer
use Rattle.default_defs.specs.Layer.{Reader, items_read, each_read, array_read, members_read, map_read, places_read, values_read, rest_read, left_out, field_read, fields_read, members_of_struct, struct_read, contents_read, external_read, internal_read, adjacent_read, entry_read, shape_read, first_read, same_read}
use Rattle.default_defs.specs.Supplied.{item_read, follows, read_within, value_read, item_readers, member_readers}
use Rattle.default_defs.specs.Laws.{Agrees, FoundIsTaken}
use Rattle.default_defs.proofs.Alike as alike

-- ---- what is found

agrees_so : (x : Found) (a b : Bool) → a ≡ b → Agrees x a → Agrees x b
agrees_so x a b e h = subst (Agrees x) e h

told_agrees : (b : Bool) → Agrees (told b) b
told_agrees true = refl
told_agrees false = refl

given_agrees : (x : Found) → Agrees (given x) true
given_agrees refused = refl
given_agrees ended = refl
given_agrees endless = tt

if_agrees : (b c : Bool) (x : Found) (a : Bool) → b ≡ c → Agrees x a → Agrees (if_so b x) (c && a)
if_agrees b c x a e h = subst (λ z. Agrees (if_so b x) (z && a)) e (by b)
  where
    by : (b : Bool) → Agrees (if_so b x) (b && a)
    by true = h
    by false = refl

both_agrees : (x y : Found) (a b : Bool) → Agrees x a → Agrees y b → Agrees (both x y) (a && b)
both_agrees refused y a b h k = ap (λ z. z && b) h
both_agrees ended y a b h k = subst (λ z. Agrees y (z && b)) (sym h) k
both_agrees endless y a b h k = tt

next_agrees : (x y : Found) (a b : Bool) → Agrees x a → Agrees y b → Agrees (or_next x y) (a || b)
next_agrees refused y a b h k = subst (λ z. Agrees y (z || b)) (sym h) k
next_agrees ended y a b h k = ap (λ z. z || b) h
next_agrees endless y a b h k = tt

grouped : (a b c : Bool) → (a && (b && c)) ≡ ((a && b) && c)
grouped true b c = refl
grouped false b c = refl

-- ---- lengths

none_after : (b : Bool) → false ≡ (b && false)
none_after true = refl
none_after false = refl

kept_so : (q p w : Bool) → p ≡ (q && p) → (w && p) ≡ (q && (w && p))
kept_so true p w h = refl
kept_so false p w h = ap (λ z. w && z) h ∙ sym (none_after w)

one_more : (a b : ℕ) → (suc a == suc b) ≡ (a == b)
one_more a b = grind (arith, tests)

-- as many items as entries
counted : (es : List Entry) (ks : List Judge) → takes.in_places es ks ≡ ((length ks == length es) && takes.in_places es ks)
counted [] [] = refl
counted [] (k ∷ ks) = none_after (length (k ∷ ks) == 0)
counted (e ∷ es) [] = none_after (0 == length (e ∷ es))
counted (e ∷ es) (k ∷ ks) =
    kept_so (length ks == length es) (takes.in_places es ks) (k e) (counted es ks) ∙ ap (λ b. b && (k e && takes.in_places es ks)) (sym (one_more (length ks) (length es)))

-- ---- parts

-- what is read agrees with what the judge takes
abbrev Says : Reader → Judge → Type 0
Says f j = (e : Entry) → Agrees (f e) (j e)

-- a name is a text
record IsName (f : Reader) (j : Judge) : Type 0 where
  pub says : Says f j
  pub is_a_text : j text_entry ≡ true

abbrev ItemsSay : List Reader → List Judge → Type 0
ItemsSay = alike.AlikeItems Reader Judge IsName Says

abbrev MembersSay : List (MemberPart Reader) → List (MemberPart Judge) → Type 0
MembersSay = alike.AlikeMembers Reader Judge IsName Says

abbrev PartsSay : Parts Reader → Parts Judge → Type 0
PartsSay = alike.AlikeParts Reader Judge IsName Says

items : (e : Entry) (js : List Reader) (ks : List Judge) → ItemsSay js ks → Agrees (items_read e js) (list_all (λ k. k e) ks)
items e [] [] h = refl
items e [] (k ∷ ks) h = absurd h
items e (j ∷ js) [] h = absurd h
items e (j ∷ js) (k ∷ ks) h = both_agrees (j e) (items_read e js) _ _ (h.0 e) (items e js ks h.1)

each : (e : Entry) (ps : Parts Reader) (qs : Parts Judge) → PartsSay ps qs → Agrees (each_read e ps) (each_item e qs)
each e = alike.by_kind Reader Judge IsName Says (λ ps qs. Agrees (each_read e ps) (each_item e qs)) refl (items e) (λ ms ns h. refl)

array : (e : Entry) (n : ℕ) (ps : Parts Reader) (qs : Parts Judge) → PartsSay ps qs → Agrees (array_read e n ps) (of_length n qs && each_item e qs)
array e n = alike.by_kind Reader Judge IsName Says (λ ps qs. Agrees (array_read e n ps) (of_length n qs && each_item e qs)) refl
    (λ js ks h. if_agrees _ _ (items_read e js) _ (ap (λ l. l == n) (alike.as_many Reader Judge IsName Says js ks h)) (items e js ks h)) (λ ms ns h. refl)

members : (k e : Entry) (ms : List (MemberPart Reader)) (ns : List (MemberPart Judge)) → MembersSay ms ns → Agrees (members_read k e ms) (each_member k e ns)
members k e [] [] h = refl
members k e [] (n ∷ ns) h = absurd h
members k e (m ∷ ms) [] h = absurd h
members k e (m ∷ ms) (n ∷ ns) h =
    both_agrees (both (m.key k) (m.value e)) (members_read k e ms) _ _ (both_agrees (m.key k) (m.value e) _ _ (h.0.1.says k) (h.0.2 e)) (members k e ms ns h.1)

map_taken : (k e : Entry) (ps : Parts Reader) (qs : Parts Judge) → PartsSay ps qs → Agrees (map_read k e ps) (as_map k e qs)
map_taken k e = alike.by_kind Reader Judge IsName Says (λ ps qs. Agrees (map_read k e ps) (as_map k e qs)) refl (λ js ks h. refl) (members k e)

in_places : (es : List Entry) (js : List Reader) (ks : List Judge) → ItemsSay js ks → Agrees (layer.in_places es js) (takes.in_places es ks)
in_places [] [] [] h = refl
in_places [] (j ∷ js) (k ∷ ks) h = refl
in_places (e ∷ es) [] [] h = refl
in_places (e ∷ es) (j ∷ js) (k ∷ ks) h = both_agrees (j e) (layer.in_places es js) _ _ (h.0 e) (in_places es js ks h.1)
in_places es [] (k ∷ ks) h = absurd h
in_places es (j ∷ js) [] h = absurd h

places : (es : List Entry) (ps : Parts Reader) (qs : Parts Judge) → PartsSay ps qs → Agrees (places_read es ps) (by_places es qs)
places es = alike.by_kind Reader Judge IsName Says (λ ps qs. Agrees (places_read es ps) (by_places es qs)) refl of (λ ms ns h. refl)
  where
    of : (js : List Reader) (ks : List Judge) → ItemsSay js ks → Agrees (if_so (length js == length es) (layer.in_places es js)) (takes.in_places es ks)
    of js ks h =
        agrees_so (if_so (length js == length es) (layer.in_places es js)) _ _ (sym (counted es ks))
        (if_agrees _ _ (layer.in_places es js) _ (ap (λ l. l == length es) (alike.as_many Reader Judge IsName Says js ks h)) (in_places es js ks h))

values : (e : Entry) (ms : List (MemberPart Reader)) (ns : List (MemberPart Judge)) → MembersSay ms ns → Agrees (values_read e ms) (each_member text_entry e ns)
values e [] [] h = refl
values e [] (n ∷ ns) h = absurd h
values e (m ∷ ms) [] h = absurd h
values e (m ∷ ms) (n ∷ ns) h =
    agrees_so (both (m.value e) (values_read e ms)) _ _ (λ i. (sym h.0.1.is_a_text i && n.value e) && each_member text_entry e ns)
    (both_agrees (m.value e) (values_read e ms) _ _ (h.0.2 e) (values e ms ns h.1))

rest_taken : (o : Rest) (ms : List (MemberPart Reader)) (ns : List (MemberPart Judge)) → MembersSay ms ns → Agrees (rest_read o ms) (rest_takes o ns)
rest_taken no_rest ms ns h = refl
rest_taken (rest i e) ms ns h = values e ms ns h

-- ---- fields

module _ (missed : Entry → Value → Found) where
  left : (s : State) (e : Entry) → Agrees (left_out missed s e) (may_be_missing s)
  left required e = refl
  left optional e = refl
  left (stated w) e = given_agrees (missed e w)

  field : (f : FieldEntry) (ms : List (MemberPart Reader)) (ns : List (MemberPart Judge)) → MembersSay ms ns → Agrees (field_read missed f ms) (field_takes f ns)
  field f [] [] h = left f.state f.entry
  field f [] (n ∷ ns) h = absurd h
  field f (m ∷ ms) [] h = absurd h
  field f (m ∷ []) (n ∷ []) h = h.0.2 f.entry
  field f (m ∷ []) (n ∷ p ∷ ns) h = absurd h.1
  field f (m ∷ o ∷ ms) (n ∷ []) h = absurd h.1
  field f (m ∷ o ∷ ms) (n ∷ p ∷ ns) h = refl

  fields : (fs : List FieldEntry) (ms : List (MemberPart Reader)) (ns : List (MemberPart Judge)) → MembersSay ms ns
      → Agrees (fields_read missed fs ms) (list_all (λ f. field_takes f (named f.name ns)) fs)
  fields [] ms ns h = refl
  fields (f ∷ fs) ms ns h =
      both_agrees (field_read missed f (named f.name ms)) (fields_read missed fs ms) _ _
      (field f (named f.name ms) (named f.name ns) (alike.named_alike Reader Judge IsName Says f.name ms ns h)) (fields fs ms ns h)

  of_struct : (closed : Bool) (fs : List FieldEntry) (o : Rest) (ms : List (MemberPart Reader)) (ns : List (MemberPart Judge)) → MembersSay ms ns
      → Agrees (members_of_struct missed closed fs o ms) (members_take closed fs o ns)
  of_struct closed fs o ms ns h =
      let os = alike.others_alike Reader Judge IsName Says fs ms ns h in
      agrees_so (members_of_struct missed closed fs o ms) _ _ (grouped (not closed || is_none (others fs ns)) (list_all (λ f. field_takes f (named f.name ns)) fs) (rest_takes o (others fs ns)))
      (if_agrees _ _ (both (fields_read missed fs ms) (rest_read o (others fs ms))) _
      (ap (λ z. not closed || z) (alike.none_alike Reader Judge IsName Says (others fs ms) (others fs ns) os))
      (both_agrees (fields_read missed fs ms) (rest_read o (others fs ms)) _ _ (fields fs ms ns h) (rest_taken o (others fs ms) (others fs ns) os)))

  struct : (closed : Bool) (fs : List FieldEntry) (o : Rest) (ps : Parts Reader) (qs : Parts Judge) → PartsSay ps qs
      → Agrees (struct_read missed closed fs o ps) (struct_takes closed fs o qs)
  struct closed fs o =
      alike.by_kind Reader Judge IsName Says (λ ps qs. Agrees (struct_read missed closed fs o ps) (struct_takes closed fs o qs)) refl (λ js ks h. refl)
      (of_struct closed fs o)

  -- ---- variants

  contents : (closed : Bool) (f : Reader) (j : Judge) → Says f j → (o : Option VariantEntry) → Agrees (contents_read missed closed f o) (contents_take closed j o)
  contents closed f j h None = refl
  contents closed f j h (Some w) = if_agrees _ _ (f (contents_entry closed w.contents)) _ refl (h (contents_entry closed w.contents))

  -- where the value isn't a text
  one_member : (closed : Bool) (ws : List VariantEntry) (ps : Parts Reader) (qs : Parts Judge) → PartsSay ps qs
      → Agrees (external_read missed closed ws null ps) (external_takes closed ws null qs)
  one_member closed ws =
      alike.by_kind Reader Judge IsName Says (λ ps qs. Agrees (external_read missed closed ws null ps) (external_takes closed ws null qs)) refl (λ js ks h. refl) of
    where
      of : (ms : List (MemberPart Reader)) (ns : List (MemberPart Judge)) → MembersSay ms ns
          → Agrees (external_read missed closed ws null (object_parts ms)) (external_takes closed ws null (object_parts ns))
      of [] [] h = refl
      of [] (n ∷ ns) h = absurd h
      of (m ∷ ms) [] h = absurd h
      of (m ∷ []) (n ∷ []) h =
          agrees_so (contents_read missed closed m.value (variant_named m.name ws)) _ _ (ap (λ x. contents_take closed n.value (variant_named x ws)) h.0.0)
          (contents closed m.value n.value h.0.2 (variant_named m.name ws))
      of (m ∷ []) (n ∷ p ∷ ns) h = absurd h.1
      of (m ∷ o ∷ ms) (n ∷ []) h = absurd h.1
      of (m ∷ o ∷ ms) (n ∷ p ∷ ns) h = refl

  external : (closed : Bool) (ws : List VariantEntry) (v : Value) (ps : Parts Reader) (qs : Parts Judge) → PartsSay ps qs
      → Agrees (external_read missed closed ws v ps) (external_takes closed ws v qs)
  external closed ws (text s) ps qs h = told_agrees (is_unit_named (variant_named s ws))
  external closed ws null ps qs h = one_member closed ws ps qs h
  external closed ws (value.boolean b) ps qs h = one_member closed ws ps qs h
  external closed ws (number z) ps qs h = one_member closed ws ps qs h
  external closed ws fraction ps qs h = one_member closed ws ps qs h
  external closed ws (list xs) ps qs h = one_member closed ws ps qs h
  external closed ws (object xs) ps qs h = one_member closed ws ps qs h

  beside : (closed : Bool) (ms : List (MemberPart Reader)) (ns : List (MemberPart Judge)) → MembersSay ms ns → (c : Contents)
      → Agrees (layer.beside_tag missed closed ms c) (takes.beside_tag closed ns c)
  beside closed ms ns h unit_contents = of_struct closed [] no_rest ms ns h
  beside closed ms ns h (struct_contents fs) = of_struct closed (fields_of fs) (rest_of fs) ms ns h
  beside closed ms ns h (newtype_contents e) = refl
  beside closed ms ns h (tuple_contents es) = refl

  internal : (closed : Bool) (tag : List ℕ) (ms : List (MemberPart Reader)) (ns : List (MemberPart Judge)) → MembersSay ms ns → (o : Option VariantEntry)
      → Agrees (internal_read missed closed tag ms o) (internal_takes closed tag ns o)
  internal closed tag ms ns h None = refl
  internal closed tag ms ns h (Some w) = beside closed (without tag ms) (without tag ns) (alike.without_alike Reader Judge IsName Says tag ms ns h) w.contents

  content : (closed : Bool) (c : Contents) (ms : List (MemberPart Reader)) (ns : List (MemberPart Judge)) → MembersSay ms ns
      → Agrees (layer.beside_content missed closed c ms) (takes.beside_content closed c ns)
  content closed c [] [] h = told_agrees (is_unit c)
  content closed c [] (n ∷ ns) h = absurd h
  content closed c (m ∷ ms) [] h = absurd h
  content closed c (m ∷ ms) (n ∷ ns) h = if_agrees _ _ (m.value (contents_entry closed c)) _ refl (h.0.2 (contents_entry closed c))

  adjacent : (closed : Bool) (tag name : List ℕ) (ms : List (MemberPart Reader)) (ns : List (MemberPart Judge)) → MembersSay ms ns → (o : Option VariantEntry)
      → Agrees (adjacent_read missed closed tag name ms o) (adjacent_takes closed tag name ns o)
  adjacent closed tag name ms ns h None = refl
  adjacent closed tag name ms ns h (Some w) =
      let one = alike.without_alike Reader Judge IsName Says tag ms ns h in
      let two = alike.without_alike Reader Judge IsName Says name (without tag ms) (without tag ns) one in
      if_agrees _ _ (layer.beside_content missed closed w.contents (named name ms)) _
      (ap (λ z. not closed || z) (alike.none_alike Reader Judge IsName Says (without name (without tag ms)) (without name (without tag ns)) two))
      (content closed w.contents (named name ms) (named name ns) (alike.named_alike Reader Judge IsName Says name ms ns h))

  -- ---- entries, where what references come to is known

  module _ (r : Relations) (v : Value) (ps : Parts Reader) (qs : Parts Judge) (h : PartsSay ps qs) (f : Target → Found) (g : Target → Bool)
      (refs : (q : Target) → Agrees (f q) (g q)) where
    mutual
      entry : (e : Entry) → Agrees (entry_read missed r v ps f e) (entry_takes r v qs g e)
      entry boolean_entry = told_agrees (is_boolean v)
      entry (integer_entry i) = told_agrees (is_in_range (integer_range i) v)
      entry text_entry = told_agrees (is_text v)
      entry (native_entry d) = told_agrees (has_the_format r d v)
      entry any_entry = refl
      entry unit_entry = told_agrees (is_null v)
      entry (option_entry e) = next_agrees (told (is_null v)) (entry_read missed r v ps f e) _ _ (told_agrees (is_null v)) (entry e)
      entry (vec_entry e) = each e ps qs h
      entry (set_entry e) = each e ps qs h
      entry (map_entry k e) = map_taken k e ps qs h
      entry (tuple_entry es) = places (entries_of es) ps qs h
      entry (array_entry e n) = array e n ps qs h
      entry (reference q) = refs q
      entry (item n s) = shape s

      shape : (s : Shape) → Agrees (shape_read missed r v ps f s) (shape_takes r v qs g s)
      shape (struct_shape closed fs) = struct closed (fields_of fs) (rest_of fs) ps qs h
      shape (enum_shape closed external_tag ws) = external closed (variants_of ws) v ps qs h
      shape (enum_shape closed (internal_tag tag) ws) =
          internal closed tag (members_in ps) (members_in qs) (alike.members_alike Reader Judge IsName Says ps qs h) (tagged_variant tag (variants_of ws) v)
      shape (enum_shape closed (adjacent_tag tag name) ws) =
          adjacent closed tag name (members_in ps) (members_in qs) (alike.members_alike Reader Judge IsName Says ps qs h) (tagged_variant tag (variants_of ws) v)
      shape (enum_shape closed untagged ws) = first closed ws
      shape (newtype_shape e rule) = both_agrees (entry_read missed r v ps f e) (told (rule_holds r v rule)) _ _ (entry e) (told_agrees (rule_holds r v rule))

      first : (closed : Bool) (ws : Variants) → Agrees (first_read missed r v ps f closed ws) (some_takes r v qs g closed ws)
      first closed no_variants = refl
      first closed (variant_then i n c ws) =
          next_agrees (same_read missed r v ps f closed c) (first_read missed r v ps f closed ws) _ _ (same closed c) (first closed ws)

      same : (closed : Bool) (c : Contents) → Agrees (same_read missed r v ps f closed c) (same_takes r v qs g closed c)
      same closed unit_contents = told_agrees (is_null v)
      same closed (newtype_contents e) = entry e
      same closed (tuple_contents es) = places (entries_of es) ps qs h
      same closed (struct_contents fs) = struct closed (fields_of fs) (rest_of fs) ps qs h

  -- ---- references, and values

  module _ (t : Table) (r : Relations) where
    of_item : (f : Shape → Found) (g : Shape → Bool) → ((s : Shape) → Agrees (f s) (g s)) → (o : Option ItemEntry) → Agrees (item_read f o) (item_takes g o)
    of_item f g h None = refl
    of_item f g h (Some i) = h i.shape

    followed : (v : Value) (ps : Parts Reader) (qs : Parts Judge) → PartsSay ps qs → (k : ℕ) (q : Target) → Agrees (follows t r missed v ps k q) (table.follows t r v qs k q)
    followed v ps qs h zero q = refl
    followed v ps qs h (suc k) q =
        of_item (shape_read missed r v ps (follows t r missed v ps k)) (shape_takes r v qs (table.follows t r v qs k))
        (shape r v ps qs h (follows t r missed v ps k) (table.follows t r v qs k) (followed v ps qs h k)) (target_item t q)

    within : (v : Value) (ps : Parts Reader) (qs : Parts Judge) → PartsSay ps qs → Says (read_within t r missed v ps (allowed t)) (takes_within t r v qs (allowed t))
    within v ps qs h = entry r v ps qs h (follows t r missed v ps (allowed t)) (table.follows t r v qs (allowed t)) (followed v ps qs h (allowed t))

    mutual
      of_value : (v : Value) → Says (value_read t r missed v) (value_takes t r v)
      of_value null = within null no_parts no_parts tt
      of_value (value.boolean b) = within (value.boolean b) no_parts no_parts tt
      of_value (number z) = within (number z) no_parts no_parts tt
      of_value fraction = within fraction no_parts no_parts tt
      of_value (text s) = within (text s) no_parts no_parts tt
      of_value (list xs) = within (list xs) (list_parts (item_readers t r missed xs)) (list_parts (item_judges t r xs)) (of_items xs)
      of_value (object ms) = within (object ms) (object_parts (member_readers t r missed ms)) (object_parts (member_judges t r ms)) (of_members ms)

      of_items : (xs : Items) → ItemsSay (item_readers t r missed xs) (item_judges t r xs)
      of_items no_items = tt
      of_items (value.item v vs) = (of_value v, of_items vs)

      of_members : (ms : Members) → MembersSay (member_readers t r missed ms) (member_judges t r ms)
      of_members no_members = tt
      of_members (member k v ms) = ((refl, record { says = within (text k) no_parts no_parts tt; is_a_text = refl }, of_value v), of_members ms)

pub found_is_taken : FoundIsTaken
found_is_taken t r missed v e = of_value missed t r v e
