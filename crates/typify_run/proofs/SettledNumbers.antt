-- What a value settles to has the numbers that JSON values have, where the value and the stated defaults do; so no number in it is a float.
use Rattle.std.proofs.Common.{◌≡◌, ℕ, zero, suc, List, [], ◌∷◌, map, length, Bool, true, false, not, ◌&&◌, ◌||◌, cond, Option, Some, None, refl, sym, ap, ◌∙◌, true≢false, nat_eq, filter}
use Rattle.std.specs.Prelude.{slice_get, ⊤}
use Rattle.std.specs.List.{AllByRecursion, list_any, list_all}
use Rattle.std.specs.Ordering.{nat_cmp}
use Rattle.std.specs.declared.cmp.Ordering.{Ordering}
use Rattle.std.specs.declared.cmp.Ordering.TheVariants.{Less, Equal, Greater}
use Rattle.std.specs.Cmp.Lexicographic.{slice_cmp}
use Rattle.serde_json.specs.Data as data'
use Rattle.serde_json.specs.Data.{Data, unsigned, negative, float}
use Rattle.serde_json.specs.Written.{has_float, items_have_float, members_have_float}
use Rattle.json_value.specs.Value as value
use Rattle.json_value.specs.Value.{Value, Items, Members, null, number, fraction, text, list, object, item, no_items, member, no_members, items, same}
use Rattle.json_value.specs.View.{value_of, items_of, members_of}
use Rattle.schema_defs.specs.Texts.{Relations}
use Rattle.model_defs.specs.Types.{TypeModel, boolean_type, integer_type, text_type, native_type, any_type, unit_type, option_type, boxed_type, vec_type, set_type, map_type, tuple_type, array_type, item_type, outside_type, types_of}
use Rattle.model_defs.specs.Model.{DefaultModel, no_default, own_default, stated_default, FieldModel, VariantModel, external_tag, internal_tag, adjacent_tag, untagged, BodyModel, struct_model, enum_model, ContainerModel, ConversionsD, container_named, variant_named}
use Rattle.model_defs.specs.Layer.{Content, one_type, places, named_fields, MemberPart, Parts, no_parts, list_parts, object_parts, is_null, own_members, other_members, unnamed_members, without, named, members_in, present_type, fields_content, variant_content, is_unit, tagged_variant}
use Rattle.model_defs.specs.Reads.{allowed, leads_to_option, still_reads}
use Rattle.model_defs.specs.Settled.{Part, placed, put, put_all, firsts_after, each_written, places_written, by_places, entries_written, is_empty_at, missing_written, field_written, map_written, fields_written, rests_written, struct_written, type_writes, content_writes, name_written, member_written, external_writes, internal_writes, contents_written, adjacent_writes, untagged_writes, body_writes, container_writes, or_null, item_writes, writes_within, value_writes, item_writers, member_writers, default_at, settled_inside, settled}
use Rattle.reading_defs.specs.Proper.{has_json_numbers, items_have_json_numbers, members_have_json_numbers}
use Rattle.typify_run.proofs.Numbers.{left, right, both}

-- ---- no float

neither : (a b : Bool) → a ≡ false → b ≡ false → (a || b) ≡ false
neither a b h k = ap (λ c. c || b) h ∙ k

mutual
  pub no_float : (d : Data) → has_json_numbers (value_of d) ≡ true → has_float d ≡ false
  no_float data'.null h = refl
  no_float (data'.boolean b) h = refl
  no_float (data'.number (unsigned n)) h = refl
  no_float (data'.number (negative z)) h = refl
  no_float (data'.number (float x)) h = absurd (true≢false (sym h))
  no_float (data'.string s) h = refl
  no_float (data'.array ds) h = no_item_float ds h
  no_float (data'.object ms) h = no_member_float ms h

  no_item_float : (ds : data'.Items) → items_have_json_numbers (items_of ds) ≡ true → items_have_float ds ≡ false
  no_item_float data'.no_items h = refl
  no_item_float (data'.item d ds) h = neither _ _ (no_float d (left _ (items_have_json_numbers (items_of ds)) h)) (no_item_float ds (right (has_json_numbers (value_of d)) _ h))

  no_member_float : (ms : data'.Members) → members_have_json_numbers (members_of ms) ≡ true → members_have_float ms ≡ false
  no_member_float data'.no_members h = refl
  no_member_float (data'.member k d ms) h = neither _ _ (no_float d (left _ (members_have_json_numbers (members_of ms)) h)) (no_member_float ms (right (has_json_numbers (value_of d)) _ h))

-- ---- lists and members

abbrev N : Value → Type 0
N v = has_json_numbers v ≡ true

abbrev M : Members → Type 0
M ms = members_have_json_numbers ms ≡ true

if_value : (b : Bool) (v w : Value) → N v → N w → N (cond b v w)
if_value true v w h k = h
if_value false v w h k = k

listed : (vs : List Value) → AllByRecursion N vs → items_have_json_numbers (items vs) ≡ true
listed [] h = refl
listed (v ∷ vs) h = both (has_json_numbers v) (items_have_json_numbers (items vs)) h.0 (listed vs h.1)

one_member : (k : List ℕ) (v : Value) (ms : Members) → N v → M ms → M (member k v ms)
one_member k v ms h g = both (has_json_numbers v) (members_have_json_numbers ms) h g

placed_so : (o : Ordering) (a b c : Members) → M a → M b → M c → M (placed o a b c)
placed_so Less a b c h k l = h
placed_so Equal a b c h k l = k
placed_so Greater a b c h k l = l

put_so : (k : List ℕ) (v : Value) (ms : Members) → N v → M ms → M (put k v ms)
put_so k v no_members h g = one_member k v no_members h refl
put_so k v (member l w ms) h g =
    let first = left (has_json_numbers w) (members_have_json_numbers ms) g in
    let rest = right (has_json_numbers w) (members_have_json_numbers ms) g in
    placed_so (slice_cmp nat_cmp k l) (member k v (member l w ms)) (member k v ms) (member l w (put k v ms))
    (one_member k v (member l w ms) h g) (one_member k v ms h rest) (one_member l w (put k v ms) first (put_so k v ms h rest))

abbrev Entries : List (List ℕ × Value) → Type 0
Entries es = AllByRecursion (λ e. N e.1) es

put_all_so : (es : List (List ℕ × Value)) (ms : Members) → Entries es → M ms → M (put_all es ms)
put_all_so [] ms h g = g
put_all_so (e ∷ es) ms h g = put_all_so es (put e.0 e.1 ms) h.1 (put_so e.0 e.1 ms h.0 g)

firsts_so : (seen vs : List Value) → AllByRecursion N vs → AllByRecursion N (firsts_after seen vs)
firsts_so seen [] h = tt
firsts_so seen (v ∷ vs) h =
    by (list_any (same v) seen) (firsts_so seen vs h.1) (firsts_so (v ∷ seen) vs h.1)
  where
    by : (b : Bool) → AllByRecursion N (firsts_after seen vs) → AllByRecursion N (firsts_after (v ∷ seen) vs) → AllByRecursion N (cond b (firsts_after seen vs) (v ∷ firsts_after (v ∷ seen) vs))
    by true k l = k
    by false k l = (h.0, l)

filtered : {A : Type 0} (P : A → Type 0) (test : A → Bool) (xs : List A) → AllByRecursion P xs → AllByRecursion P (filter test xs)
filtered P test [] h = tt
filtered P test (x ∷ xs) h =
    by (test x) (filtered P test xs h.1)
  where
    by : (b : Bool) → AllByRecursion P (filter test xs) → AllByRecursion P (cond b (x ∷ filter test xs) (filter test xs))
    by true k = (h.0, k)
    by false k = k

-- ---- parts of a value

abbrev Writes : Part → Type 0
Writes p = (c : Content) → N (p.writes c)

abbrev WritesIn : MemberPart Part → Type 0
WritesIn m = Writes m.value

abbrev PartsWrite : Parts Part → Type 0
PartsWrite no_parts = ⊤
PartsWrite (list_parts ps) = AllByRecursion Writes ps
PartsWrite (object_parts ms) = AllByRecursion WritesIn ms

members_write : (ps : Parts Part) → PartsWrite ps → AllByRecursion WritesIn (members_in ps)
members_write no_parts h = tt
members_write (list_parts ps) h = tt
members_write (object_parts ms) h = h

each_of : (c : Content) (ps : List Part) → AllByRecursion Writes ps → AllByRecursion N (map (λ p. p.writes c) ps)
each_of c [] h = tt
each_of c (p ∷ ps) h = (h.0 c, each_of c ps h.1)

each_so : (c : Content) (ps : Parts Part) → PartsWrite ps → AllByRecursion N (each_written c ps)
each_so c no_parts h = tt
each_so c (list_parts ps) h = each_of c ps h
each_so c (object_parts ms) h = tt

places_so : (ts : List TypeModel) (ps : List Part) → AllByRecursion Writes ps → AllByRecursion N (places_written ts ps)
places_so [] ps h = tt
places_so (t ∷ ts) [] h = tt
places_so (t ∷ ts) (p ∷ ps) h = (h.0 (one_type t), places_so ts ps h.1)

by_places_so : (ts : List TypeModel) (ps : Parts Part) → PartsWrite ps → N (by_places ts ps)
by_places_so ts no_parts h = refl
by_places_so ts (list_parts ps) h = listed (places_written ts ps) (places_so ts ps h)
by_places_so ts (object_parts ms) h = refl

entries_so : (k t : TypeModel) (ms : List (MemberPart Part)) → AllByRecursion WritesIn ms → Entries (entries_written k t ms)
entries_so k t [] h = tt
entries_so k t (m ∷ ms) h = (h.0 (one_type t), entries_so k t ms h.1)

-- ---- structs

module _ (leads : TypeModel → Bool) (default_of : ℕ → TypeModel → Value) (default_so : (n : ℕ) (t : TypeModel) → N (default_of n t)) where
  null_or_none : (n : List ℕ) (b : Bool) → Entries (cond b ((n, null) ∷ []) [])
  null_or_none n true = (refl, tt)
  null_or_none n false = tt

  missing_so : (f : FieldModel) (d : DefaultModel) → Entries (missing_written leads default_of f d)
  missing_so f (stated_default n) = (default_so n f.field_type, tt)
  missing_so f no_default = null_or_none f.serialize_name (not f.skip && leads f.field_type)
  missing_so f own_default = null_or_none f.serialize_name (not f.skip && leads f.field_type)

  none_or_one : (b : Bool) (n : List ℕ) (v : Value) → N v → Entries (cond b [] ((n, v) ∷ []))
  none_or_one true n v h = tt
  none_or_one false n v h = (h, tt)

  field_so : (f : FieldModel) (ms : List (MemberPart Part)) → AllByRecursion WritesIn ms → Entries (field_written leads default_of f ms)
  field_so f [] h = missing_so f f.default
  field_so f (m ∷ ms) h = none_or_one (f.skip && is_empty_at f.helper f.field_type m.value.value) f.serialize_name (m.value.writes (one_type (present_type f))) (h.0 (one_type (present_type f)))

  map_so : (t : TypeModel) (ms : List (MemberPart Part)) (done : Members) → AllByRecursion WritesIn ms → M done → M (map_written leads default_of t ms done)
  map_so (map_type k t) ms done h g = put_all_so (entries_written k t ms) done (entries_so k t ms h) g
  map_so _ ms done h g = g

  fields_so : (fs : List FieldModel) (ms : List (MemberPart Part)) (done : Members) → AllByRecursion WritesIn ms → M done → M (fields_written leads default_of fs ms done)
  fields_so [] ms done h g = g
  fields_so (f ∷ fs) ms done h g =
      let named' = put_all (field_written leads default_of f (own_members f ms)) done in
      by f.is_rest (fields_so fs ms done h g)
      (fields_so fs (other_members f ms) named' (filtered WritesIn _ ms h) (put_all_so (field_written leads default_of f (own_members f ms)) done (field_so f (own_members f ms) (filtered WritesIn _ ms h)) g))
    where
      by : (b : Bool) → M (fields_written leads default_of fs ms done)
          → M (fields_written leads default_of fs (other_members f ms) (put_all (field_written leads default_of f (own_members f ms)) done))
          → M (cond b (fields_written leads default_of fs ms done) (fields_written leads default_of fs (other_members f ms) (put_all (field_written leads default_of f (own_members f ms)) done)))
      by true k l = k
      by false k l = l

  rests_so : (fs : List FieldModel) (ms : List (MemberPart Part)) (done : Members) → AllByRecursion WritesIn ms → M done → M (rests_written leads default_of fs ms done)
  rests_so [] ms done h g = g
  rests_so (f ∷ fs) ms done h g =
      rests_so fs ms (cond f.is_rest (map_written leads default_of f.field_type ms done) done) h (by f.is_rest (map_so f.field_type ms done h g))
    where
      by : (b : Bool) → M (map_written leads default_of f.field_type ms done) → M (cond b (map_written leads default_of f.field_type ms done) done)
      by true k = k
      by false k = g

  unnamed_so : (fs : List FieldModel) (ms : List (MemberPart Part)) → AllByRecursion WritesIn ms → AllByRecursion WritesIn (unnamed_members fs ms)
  unnamed_so [] ms h = h
  unnamed_so (f ∷ fs) ms h =
      by f.is_rest (unnamed_so fs ms h) (unnamed_so fs (other_members f ms) (filtered WritesIn _ ms h))
    where
      by : (b : Bool) → AllByRecursion WritesIn (unnamed_members fs ms) → AllByRecursion WritesIn (unnamed_members fs (other_members f ms))
          → AllByRecursion WritesIn (cond b (unnamed_members fs ms) (unnamed_members fs (other_members f ms)))
      by true k l = k
      by false k l = l

  struct_so : (fs : List FieldModel) (ms : List (MemberPart Part)) → AllByRecursion WritesIn ms → M (struct_written leads default_of fs ms)
  struct_so fs ms h = fields_so fs ms (rests_written leads default_of fs (unnamed_members fs ms) no_members) h (rests_so fs (unnamed_members fs ms) no_members (unnamed_so fs ms h) refl)

-- ---- types and containers

module _ (v : Value) (whole : N v) (parts : Parts Part) (parts_so : PartsWrite parts) where
  type_so : (made : List ℕ → Value) → ((n : List ℕ) → N (made n)) → (t : TypeModel) → N (type_writes v parts made t)
  type_so made h (option_type t) = if_value (is_null v) null (type_writes v parts made t) refl (type_so made h t)
  type_so made h (boxed_type t) = type_so made h t
  type_so made h (vec_type t) = listed (each_written (one_type t) parts) (each_so (one_type t) parts parts_so)
  type_so made h (set_type t) = listed (firsts_after [] (each_written (one_type t) parts)) (firsts_so [] (each_written (one_type t) parts) (each_so (one_type t) parts parts_so))
  type_so made h (map_type k t) = put_all_so (entries_written k t (members_in parts)) no_members (entries_so k t (members_in parts) (members_write parts parts_so)) refl
  type_so made h (tuple_type ts) = by_places_so (types_of ts) parts parts_so
  type_so made h (array_type t n) = listed (each_written (one_type t) parts) (each_so (one_type t) parts parts_so)
  type_so made h (item_type n) = h n
  type_so made h boolean_type = whole
  type_so made h (integer_type g) = whole
  type_so made h text_type = whole
  type_so made h (native_type f) = whole
  type_so made h any_type = whole
  type_so made h unit_type = whole
  type_so made h outside_type = whole

  module _ (leads : TypeModel → Bool) (default_of : ℕ → TypeModel → Value) (default_so : (n : ℕ) (t : TypeModel) → N (default_of n t)) (reads : Content → Bool) (writes : TypeModel → Value) (writes_so : (t : TypeModel) → N (writes t)) where
    content_so : (c : Content) → N (content_writes leads default_of reads v parts writes c)
    content_so (one_type t) = writes_so t
    content_so (places ts) = by_places_so ts parts parts_so
    content_so (named_fields closed fs) = struct_so leads default_of default_so fs (members_in parts) (members_write parts parts_so)

    name_so : (o : Option VariantModel) → N (name_written leads default_of reads v parts writes o)
    name_so None = whole
    name_so (Some w) = refl

    member_so : (closed : Bool) (p : Part) → Writes p → (o : Option VariantModel) → N (member_written leads default_of reads v parts writes closed p o)
    member_so closed p h None = whole
    member_so closed p h (Some w) = one_member w.serialize_name (p.writes (variant_content closed w)) no_members (h (variant_content closed w)) refl

    abbrev External : Bool → List VariantModel → Value → Parts Part → Value
    External closed ws u ps = external_writes leads default_of reads v parts writes closed ws u ps

    abbrev Member : Bool → List VariantModel → MemberPart Part → Value
    Member closed ws m = member_written leads default_of reads v parts writes closed m.value (variant_named m.name ws)

    -- whatever is no text is read by its one member
    by_parts : (closed : Bool) (ws : List VariantModel) (F : Parts Part → Value) → F no_parts ≡ v → ((ps : List Part) → F (list_parts ps) ≡ v) → F (object_parts []) ≡ v
        → ((m : MemberPart Part) → F (object_parts (m ∷ [])) ≡ Member closed ws m) → ((m n : MemberPart Part) (ms : List (MemberPart Part)) → F (object_parts (m ∷ n ∷ ms)) ≡ v)
        → (ps : Parts Part) → PartsWrite ps → N (F ps)
    by_parts closed ws F a b c d e no_parts h = ap has_json_numbers a ∙ whole
    by_parts closed ws F a b c d e (list_parts ps) h = ap has_json_numbers (b ps) ∙ whole
    by_parts closed ws F a b c d e (object_parts []) h = ap has_json_numbers c ∙ whole
    by_parts closed ws F a b c d e (object_parts (m ∷ [])) h = ap has_json_numbers (d m) ∙ member_so closed m.value h.0 (variant_named m.name ws)
    by_parts closed ws F a b c d e (object_parts (m ∷ n ∷ ms)) h = ap has_json_numbers (e m n ms) ∙ whole

    external_so : (closed : Bool) (ws : List VariantModel) (u : Value) (ps : Parts Part) → PartsWrite ps → N (External closed ws u ps)
    external_so closed ws (text s) ps h = name_so (variant_named s ws)
    external_so closed ws null ps h = by_parts closed ws (External closed ws null) refl (λ qs. refl) refl (λ m. refl) (λ m n ms. refl) ps h
    external_so closed ws (value.boolean b) ps h = by_parts closed ws (External closed ws (value.boolean b)) refl (λ qs. refl) refl (λ m. refl) (λ m n ms. refl) ps h
    external_so closed ws (number z) ps h = by_parts closed ws (External closed ws (number z)) refl (λ qs. refl) refl (λ m. refl) (λ m n ms. refl) ps h
    external_so closed ws fraction ps h = by_parts closed ws (External closed ws fraction) refl (λ qs. refl) refl (λ m. refl) (λ m n ms. refl) ps h
    external_so closed ws (list xs) ps h = by_parts closed ws (External closed ws (list xs)) refl (λ qs. refl) refl (λ m. refl) (λ m n ms. refl) ps h
    external_so closed ws (object xs) ps h = by_parts closed ws (External closed ws (object xs)) refl (λ qs. refl) refl (λ m. refl) (λ m n ms. refl) ps h

    internal_so : (tag : List ℕ) (o : Option VariantModel) → N (internal_writes leads default_of reads v parts writes tag o)
    internal_so tag None = whole
    internal_so tag (Some w) =
        let ms = without tag (members_in parts) in
        put_so tag (text w.serialize_name) (struct_written leads default_of w.fields ms) refl (struct_so leads default_of default_so w.fields ms (filtered WritesIn _ (members_in parts) (members_write parts parts_so)))

    contents_so : (closed : Bool) (content : List ℕ) (w : VariantModel) (ms : List (MemberPart Part)) (done : Members) → AllByRecursion WritesIn ms → M done → M (contents_written leads default_of reads v parts writes closed content w ms done)
    contents_so closed content w [] done h g = g
    contents_so closed content w (m ∷ ms) done h g = by (is_unit w) (put_so content (m.value.writes (variant_content closed w)) done (h.0 (variant_content closed w)) g)
      where
        by : (b : Bool) → M (put content (m.value.writes (variant_content closed w)) done) → M (cond b done (put content (m.value.writes (variant_content closed w)) done))
        by true k = g
        by false k = k

    adjacent_so : (closed : Bool) (tag content : List ℕ) (o : Option VariantModel) → N (adjacent_writes leads default_of reads v parts writes closed tag content o)
    adjacent_so closed tag content None = whole
    adjacent_so closed tag content (Some w) =
        let ms = named content (members_in parts) in
        put_so tag (text w.serialize_name) (contents_written leads default_of reads v parts writes closed content w ms no_members) refl
        (contents_so closed content w ms no_members (filtered WritesIn _ (members_in parts) (members_write parts parts_so)) refl)

    untagged_so : (closed : Bool) (ws : List VariantModel) → N (untagged_writes leads default_of reads v parts writes closed ws)
    untagged_so closed [] = whole
    untagged_so closed (w ∷ ws) =
        if_value (reads (variant_content closed w)) (content_writes leads default_of reads v parts writes (variant_content closed w)) (untagged_writes leads default_of reads v parts writes closed ws)
        (content_so (variant_content closed w)) (untagged_so closed ws)

    body_so : (closed : Bool) (b : BodyModel) → N (body_writes leads default_of reads v parts writes closed b)
    body_so closed (struct_model style fs) = content_so (fields_content closed style fs)
    body_so closed (enum_model external_tag ws) = external_so closed ws v parts parts_so
    body_so closed (enum_model (internal_tag tag) ws) = internal_so tag (tagged_variant tag ws v)
    body_so closed (enum_model (adjacent_tag tag content) ws) = adjacent_so closed tag content (tagged_variant tag ws v)
    body_so closed (enum_model untagged ws) = untagged_so closed ws

    container_so : (o : Option ContainerModel) → N (container_writes leads default_of reads v parts writes o)
    container_so None = whole
    container_so (Some m) = body_so m.closed m.body

-- ---- all levels

module _ (models : List ContainerModel) (cs : ConversionsD) (r : Relations) where
  module _ (default_of : ℕ → TypeModel → Value) (default_so : (n : ℕ) (t : TypeModel) → N (default_of n t)) where
    item_so : (v : Value) → N v → (parts : Parts Part) → PartsWrite parts → (k : ℕ) (n : List ℕ) → N (item_writes models cs r default_of v parts k n)
    item_so v whole parts p zero n = whole
    item_so v whole parts p (suc k) n =
        container_so v whole parts p (leads_to_option models) default_of default_so (still_reads models cs r v k) (type_writes v parts (item_writes models cs r default_of v parts k))
        (type_so v whole parts p (item_writes models cs r default_of v parts k) (item_so v whole parts p k)) (container_named n models)

    within_so : (v : Value) → N v → (parts : Parts Part) → PartsWrite parts → (k : ℕ) (c : Content) → N (writes_within models cs r default_of v parts k c)
    within_so v whole parts p k c =
        content_so v whole parts p (leads_to_option models) default_of default_so (still_reads models cs r v k) (type_writes v parts (item_writes models cs r default_of v parts k))
        (type_so v whole parts p (item_writes models cs r default_of v parts k) (item_so v whole parts p k)) c

    mutual
      value_so : (v : Value) → N v → (c : Content) → N (value_writes models cs r default_of v c)
      value_so null h c = within_so null h no_parts tt (allowed models) c
      value_so (value.boolean b) h c = within_so (value.boolean b) h no_parts tt (allowed models) c
      value_so (number z) h c = within_so (number z) h no_parts tt (allowed models) c
      value_so fraction h c = within_so fraction h no_parts tt (allowed models) c
      value_so (text s) h c = within_so (text s) h no_parts tt (allowed models) c
      value_so (list xs) h c = within_so (list xs) h (list_parts (item_writers models cs r default_of xs)) (items_so xs h) (allowed models) c
      value_so (object ms) h c = within_so (object ms) h (object_parts (member_writers models cs r default_of ms)) (members_so ms h) (allowed models) c

      items_so : (xs : Items) → items_have_json_numbers xs ≡ true → AllByRecursion Writes (item_writers models cs r default_of xs)
      items_so no_items h = tt
      items_so (item v vs) h = (λ c. value_so v (left (has_json_numbers v) (items_have_json_numbers vs) h) c, items_so vs (right (has_json_numbers v) (items_have_json_numbers vs) h))

      members_so : (ms : Members) → members_have_json_numbers ms ≡ true → AllByRecursion WritesIn (member_writers models cs r default_of ms)
      members_so no_members h = tt
      members_so (member k v ms) h = (λ c. value_so v (left (has_json_numbers v) (members_have_json_numbers ms) h) c, members_so ms (right (has_json_numbers v) (members_have_json_numbers ms) h))

  module _ (numbers : list_all has_json_numbers cs.defaults ≡ true) where
    at_place : (ds : List Value) (n : ℕ) → list_all has_json_numbers ds ≡ true → N (or_null (slice_get ds n))
    at_place [] n h = refl
    at_place (v ∷ ds) zero h = left (has_json_numbers v) (list_all has_json_numbers ds) h
    at_place (v ∷ ds) (suc n) h = at_place ds n (right (has_json_numbers v) (list_all has_json_numbers ds) h)

    inside_so : (k : ℕ) (entered : List ℕ) (c : Content) (v : Value) → N v → N (settled_inside models cs r k entered c v)
    inside_so zero entered c v h = value_so (λ n t. default_at models cs r n) (λ n t. at_place cs.defaults n numbers) v h c
    inside_so (suc k) entered c v h =
        value_so (λ n t. cond (list_any (nat_eq n) entered) (default_at models cs r n) (settled_inside models cs r k (n ∷ entered) (one_type t) (default_at models cs r n)))
        (λ n t. if_value (list_any (nat_eq n) entered) (default_at models cs r n) (settled_inside models cs r k (n ∷ entered) (one_type t) (default_at models cs r n))
        (at_place cs.defaults n numbers) (inside_so k (n ∷ entered) (one_type t) (default_at models cs r n) (at_place cs.defaults n numbers))) v h c

    pub settled_numbers : (t : TypeModel) (v : Value) → N v → N (settled models cs r t v)
    settled_numbers t v h = inside_so (length cs.defaults) [] (one_type t) v h
