-- All values: what reading gives agrees with what the definitions say, by the parts of the value and the items that are entered at it.
use Rattle.std.proofs.Common.{◌≡◌, ℕ, zero, suc, ◌≤◌, List, [], ◌∷◌, map, Bool, true, false, ◌||◌, cond, refl, sym, ap, ◌∙◌, subst, true≢false, Option, Some, None, arith}
use Rattle.std.specs.List.{list_any}
use Rattle.json_value.specs.Value as value
use Rattle.json_value.specs.Value.{Value, Items, Members, null, number, fraction, text, list, object, item, no_items, member, no_members}
use Rattle.schema_defs.specs.Location.{Location}
use Rattle.schema_defs.specs.Texts.{Relations}
use Rattle.model_defs.specs.Types.{TypeModel, text_type, native_type, any_type, option_type, boxed_type, vec_type, set_type, map_type, item_type}
use Rattle.model_defs.specs.Model.{struct_style, tuple_style, newtype_style, unit_style, no_helper, VariantModel, external_tag, internal_tag, adjacent_tag, untagged, BodyModel, struct_model, enum_model, ContainerModel, ConversionsD, container_named, variant_named}
use Rattle.model_defs.specs.Layer.{Content, one_type, places, named_fields, Judge, Parts, no_parts, list_parts, object_parts, type_takes, content_takes, body_takes, container_takes, is_unit_named, fields_content, variant_content}
use Rattle.model_defs.specs.Reads.{allowed, leads_to_option, item_reads, value_reads, still_reads, reads_within, parts_of, item_judges, member_judges}
use Rattle.model_defs.specs.Refusals.{Seen, item_stops, value_stops, items_seen, members_seen, type_stops, content_stops}
use Rattle.model_defs.specs.Settled.{Part, item_writes, value_writes, name_written, untagged_writes, body_writes, container_writes, item_writers, member_writers, type_writes, content_writes, is_empty_at}
use Rattle.typed_defs.specs.Typed as typed
use Rattle.typed_defs.specs.Typed.{Typed, typeds, pairs}
use Rattle.typed_defs.specs.Written.{written, counts_as_empty}
use Rattle.typed_defs.specs.Fit.{may_be_empty}
use Rattle.reading_defs.specs.Proper.{has_json_numbers, items_have_json_numbers, members_have_json_numbers}
use Rattle.reading_defs.specs.Reading.{Read, taken, stopped, unsound, Reader, read_map, followed, keep_apart, item_reading, value_reader, item_readers, member_readers, type_read, content_read, absent}
use Rattle.reading_defs.proofs.Agree.{Agrees, and_left, and_right}
use Rattle.reading_defs.proofs.Good.{ContentIsGood}
use Rattle.reading_defs.proofs.Parts.{Part', Entry, IsTextual, contents_written, takes_of, seen_of, part_of, reader_of, takes_at, seen_at, part_at, reader_at}
use Rattle.reading_defs.proofs.Types.{Inside, none_inside, items_inside, members_inside, takes_in, seen_in, parts_in, readers_in, type_agrees}
use Rattle.reading_defs.proofs.Items.{Fits, GivenIsGood, GivenSaysSame, BodySaysSame, VariantsSaySame, container_agrees, content_agrees}

-- ---- empty values

module _ (models : List ContainerModel) (cs : ConversionsD) (r : Relations) (q : ℕ → TypeModel → Read Typed) where
  some_kept : (x : Typed) (rr : Read Typed) → read_map typed.some rr ≡ taken x → counts_as_empty x ≡ false
  some_kept x (taken y) e = let h : typed.some y ≡ x = cc in sym (ap counts_as_empty h)
  some_kept x (stopped l) e = cc
  some_kept x unsound e = cc

  list_kept : (f : List Typed → List Typed) (x : Typed) → ((y : Typed) (ys : List Typed) → counts_as_empty (typed.list (typeds (f (y ∷ ys)))) ≡ false) → (rr : Read Typed) (rs : Read (List Typed))
      → read_map (λ xs. typed.list (typeds (f xs))) (followed rr rs) ≡ taken x → counts_as_empty x ≡ false
  list_kept f x g (taken y) (taken ys) e = let h : typed.list (typeds (f (y ∷ ys))) ≡ x = cc in sym (ap counts_as_empty h) ∙ g y ys
  list_kept f x g (taken y) (stopped l) e = cc
  list_kept f x g (taken y) unsound e = cc
  list_kept f x g (stopped l) rs e = cc
  list_kept f x g unsound rs e = cc

  map_kept : (x : Typed) (rr : Read (Typed × Typed)) (rs : Read (List (Typed × Typed))) → read_map (λ es. typed.map_of (pairs es)) (followed rr rs) ≡ taken x → counts_as_empty x ≡ false
  map_kept x (taken y) (taken ys) e = let h : typed.map_of (pairs (y ∷ ys)) ≡ x = cc in sym (ap counts_as_empty h)
  map_kept x (taken y) (stopped l) e = cc
  map_kept x (taken y) unsound e = cc
  map_kept x (stopped l) rs e = cc
  map_kept x unsound rs e = cc

  empty_is : (x y : Typed) → taken x ≡ taken y → counts_as_empty x ≡ true → counts_as_empty y ≡ true
  empty_is x y e h = let k : x ≡ y = cc in sym (ap counts_as_empty k) ∙ h

  abbrev Empties : Value → Type 0
  Empties v = (t : TypeModel) (x : Typed) → may_be_empty t ≡ true → (value_reader models cs r q v).as_type t ≡ taken x → counts_as_empty x ≡ is_empty_at no_helper t v

  pub empties : (v : Value) → Empties v
  empties null (option_type t) x m e = empty_is typed.none x e refl
  empties null (vec_type t) x m e = cc
  empties null (set_type t) x m e = cc
  empties null (map_type k t) x m e = cc
  empties null _ x m e = absurd (true≢false (sym m))
  empties (value.boolean b) (option_type t) x m e = some_kept x _ e
  empties (value.boolean b) (vec_type t) x m e = cc
  empties (value.boolean b) (set_type t) x m e = cc
  empties (value.boolean b) (map_type k t) x m e = cc
  empties (value.boolean b) _ x m e = absurd (true≢false (sym m))
  empties (number z) (option_type t) x m e = some_kept x _ e
  empties (number z) (vec_type t) x m e = cc
  empties (number z) (set_type t) x m e = cc
  empties (number z) (map_type k t) x m e = cc
  empties (number z) _ x m e = absurd (true≢false (sym m))
  empties fraction (option_type t) x m e = some_kept x _ e
  empties fraction (vec_type t) x m e = cc
  empties fraction (set_type t) x m e = cc
  empties fraction (map_type k t) x m e = cc
  empties fraction _ x m e = absurd (true≢false (sym m))
  empties (text s) (option_type t) x m e = some_kept x _ e
  empties (text s) (vec_type t) x m e = cc
  empties (text s) (set_type t) x m e = cc
  empties (text s) (map_type k t) x m e = cc
  empties (text s) _ x m e = absurd (true≢false (sym m))
  empties (list xs) (option_type t) x m e = some_kept x _ e
  empties (list no_items) (vec_type t) x m e = empty_is (typed.list (typeds [])) x e refl
  empties (list (item v vs)) (vec_type t) x m e = list_kept (λ ys. ys) x (λ y ys. refl) _ _ e
  empties (list no_items) (set_type t) x m e = empty_is (typed.list (typeds [])) x e refl
  empties (list (item v vs)) (set_type t) x m e = list_kept (keep_apart (written models t) []) x (λ y ys. refl) _ _ e
  empties (list xs) (map_type k t) x m e = cc
  empties (list xs) _ x m e = absurd (true≢false (sym m))
  empties (object ms) (option_type t) x m e = some_kept x _ e
  empties (object ms) (vec_type t) x m e = cc
  empties (object ms) (set_type t) x m e = cc
  empties (object no_members) (map_type k t) x m e = empty_is (typed.map_of (pairs [])) x e refl
  empties (object (member n v ms)) (map_type k t) x m e = map_kept x _ _ e
  empties (object ms) _ x m e = absurd (true≢false (sym m))

module _ (models : List ContainerModel) (cs : ConversionsD) (r : Relations) (E : Type 0) (d : ℕ → TypeModel → Value) (q : ℕ → TypeModel → Read Typed)
    (good : (n : List ℕ) → GivenIsGood models E d q (container_named n models)) where
  abbrev lead : TypeModel → Bool
  lead t = leads_to_option models t

  module _ (v : Value) (i : Inside (Part' models E d q) (Entry models E d q)) (whole : has_json_numbers v ≡ true) (fits : Fits models E d q v i) (parts : parts_of models cs r v ≡ takes_in models E d q i) where
    abbrev it : ℕ → List ℕ → Bool
    it k = item_reads models cs r v (takes_in models E d q i) k

    abbrev is : ℕ → List ℕ → Location
    is k = item_stops models cs r v (seen_in models E d q i) k

    abbrev iw : ℕ → List ℕ → Value
    iw k = item_writes models cs r d v (parts_in models E d q i) k

    abbrev ir : ℕ → List ℕ → Read Typed
    ir k = item_reading models cs r q v (readers_in models E d q i) k

    abbrev reads_at : ℕ → Content → Bool
    reads_at k c = still_reads models cs r v k c

    -- what still reads contents is what its parts do
    says_same : (k : ℕ) (c : Content) → reads_at k c ≡ content_takes lead (takes_in models E d q i) (type_takes r v (takes_in models E d q i) (it k)) c
    says_same k c = ap (λ ps. reads_within models cs r v ps k c) parts

    variants_say_same : (k : ℕ) (closed : Bool) (ws : List VariantModel) → VariantsSaySame models E d q r cs (reads_at k) v i whole fits (it k) (is k) (iw k) (ir k) closed ws
    variants_say_same k closed [] = tt
    variants_say_same k closed (w ∷ ws) = (says_same k (variant_content closed w), variants_say_same k closed ws)

    body_says_same : (k : ℕ) (closed : Bool) (b : BodyModel) → BodySaysSame models E d q r cs (reads_at k) v i whole fits (it k) (is k) (iw k) (ir k) closed b
    body_says_same k closed (struct_model s fs) = says_same k (fields_content closed s fs)
    body_says_same k closed (enum_model untagged ws) = variants_say_same k closed ws
    body_says_same k closed (enum_model external_tag ws) = tt
    body_says_same k closed (enum_model (internal_tag t) ws) = tt
    body_says_same k closed (enum_model (adjacent_tag t c) ws) = tt

    given_says_same : (k : ℕ) (o : Option ContainerModel) → GivenSaysSame models E d q r cs (reads_at k) v i whole fits (it k) (is k) (iw k) (ir k) o
    given_says_same k None = tt
    given_says_same k (Some m) = body_says_same k m.closed m.body

    item_agrees : (k : ℕ) (n : List ℕ) → Agrees E (it k n) (is k n) (λ x. written models (item_type n) x ≡ iw k n) (ir k n)
    item_agrees zero n = (refl, refl)
    item_agrees (suc k) n =
        container_agrees models E d q r cs (reads_at k) v i whole fits (it k) (is k) (iw k) (ir k) n (container_named n models) refl (good n) (given_says_same k (container_named n models)) (λ l a. item_agrees k l)

    pub here_as_type : (t : TypeModel) → Agrees E (type_takes r v (takes_in models E d q i) (it (allowed models)) t) (type_stops (seen_in models E d q i) (is (allowed models)) t)
        (λ x. written models t x ≡ type_writes v (parts_in models E d q i) (iw (allowed models)) t) (type_read models r v (readers_in models E d q i) (ir (allowed models)) t)
    here_as_type t = type_agrees models E d q r v i whole (it (allowed models)) (is (allowed models)) (iw (allowed models)) (ir (allowed models)) t (λ n a. item_agrees (allowed models) n)

    pub here_as_content : (c : Content) → ContentIsGood models E d q c
        → Agrees E (content_takes lead (takes_in models E d q i) (type_takes r v (takes_in models E d q i) (it (allowed models))) c)
        (content_stops lead (reads_at (allowed models)) v (seen_in models E d q i) (type_stops (seen_in models E d q i) (is (allowed models))) c)
        (λ xs. contents_written models E d q c xs ≡ content_writes lead d (reads_at (allowed models)) v (parts_in models E d q i) (type_writes v (parts_in models E d q i) (iw (allowed models))) c)
        (content_read q (absent models) r cs v (readers_in models E d q i) (type_read models r v (readers_in models E d q i) (ir (allowed models))) c)
    here_as_content c g =
        content_agrees models E d q r cs (reads_at (allowed models)) v i whole fits (it (allowed models)) (is (allowed models)) (iw (allowed models)) (ir (allowed models)) c g (λ n a. item_agrees (allowed models) n)

  -- ---- names, which are read as texts, settle as texts

  abbrev Of : ℕ → List ℕ → TypeModel → Bool
  Of k s t = type_takes r (text s) no_parts (item_reads models cs r (text s) no_parts k) t

  abbrev As : ℕ → List ℕ → TypeModel → Value
  As k s t = type_writes (text s) no_parts (item_writes models cs r d (text s) no_parts k) t

  module _ (s : List ℕ) where
    abbrev Textual : ℕ → Type 0
    Textual k = (n : List ℕ) → item_reads models cs r (text s) no_parts k n ≡ true → IsTextual (item_writes models cs r d (text s) no_parts k n)

    type_textual : (k : ℕ) → Textual k → (t : TypeModel) → Of k s t ≡ true → IsTextual (As k s t)
    type_textual k items text_type h = λ m n. refl
    type_textual k items (native_type f) h = λ m n. refl
    type_textual k items any_type h = λ m n. refl
    type_textual k items (option_type t) h = type_textual k items t h
    type_textual k items (boxed_type t) h = type_textual k items t h
    type_textual k items (item_type n) h = items n h
    type_textual k items _ h = absurd (true≢false (sym h))

    abbrev Takes : ℕ → Content → Bool
    Takes k c = still_reads models cs r (text s) k c

    abbrev Writes : ℕ → Content → Value
    Writes k c = content_writes lead d (Takes k) (text s) no_parts (As k s) c

    content_textual : (k : ℕ) → Textual k → (c : Content) → Takes k c ≡ true → IsTextual (Writes k c)
    content_textual k items (one_type t) h = type_textual k items t h
    content_textual k items (places ts) h = absurd (true≢false (sym h))
    content_textual k items (named_fields closed fs) h = absurd (true≢false (sym h))

    name_textual : (k : ℕ) (o : Option VariantModel) → is_unit_named o ≡ true → IsTextual (name_written lead d (Takes k) (text s) no_parts (As k s) o)
    name_textual k None h = absurd (true≢false (sym h))
    name_textual k (Some w) h = λ m n. refl

    untagged_textual : (k : ℕ) → Textual k → (closed : Bool) (ws : List VariantModel) → list_any (λ w. Takes k (variant_content closed w)) ws ≡ true
        → IsTextual (untagged_writes lead d (Takes k) (text s) no_parts (As k s) closed ws)
    untagged_textual k items closed [] h = absurd (true≢false (sym h))
    untagged_textual k items closed (w ∷ ws) h = by (Takes k (variant_content closed w)) (content_textual k items (variant_content closed w)) (untagged_textual k items closed ws) refl h
      where
        by : (b : Bool) → (Takes k (variant_content closed w) ≡ true → IsTextual (Writes k (variant_content closed w)))
            → (list_any (λ u. Takes k (variant_content closed u)) ws ≡ true → IsTextual (untagged_writes lead d (Takes k) (text s) no_parts (As k s) closed ws)) → Takes k (variant_content closed w) ≡ b
            → (b || list_any (λ u. Takes k (variant_content closed u)) ws) ≡ true
            → IsTextual (cond b (Writes k (variant_content closed w)) (untagged_writes lead d (Takes k) (text s) no_parts (As k s) closed ws))
        by true f g e z = f e
        by false f g e z = g z

    body_textual : (k : ℕ) → Textual k → (closed : Bool) (b : BodyModel) → body_takes lead no_parts (Of k s) closed b (text s) ≡ true
        → IsTextual (body_writes lead d (Takes k) (text s) no_parts (As k s) closed b)
    body_textual k items closed (struct_model struct_style fs) h = absurd (true≢false (sym h))
    body_textual k items closed (struct_model newtype_style fs) h = content_textual k items (fields_content closed newtype_style fs) h
    body_textual k items closed (struct_model tuple_style fs) h = absurd (true≢false (sym h))
    body_textual k items closed (struct_model unit_style fs) h = absurd (true≢false (sym h))
    body_textual k items closed (enum_model external_tag ws) h = name_textual k (variant_named s ws) h
    body_textual k items closed (enum_model (internal_tag tag) ws) h = absurd (true≢false (sym h))
    body_textual k items closed (enum_model (adjacent_tag tag content) ws) h = absurd (true≢false (sym h))
    body_textual k items closed (enum_model untagged ws) h = untagged_textual k items closed ws h

    given_textual : (k : ℕ) → Textual k → (o : Option ContainerModel) → container_takes lead no_parts (Of k s) r cs (text s) o ≡ true
        → IsTextual (container_writes lead d (Takes k) (text s) no_parts (As k s) o)
    given_textual k items None h = absurd (true≢false (sym h))
    given_textual k items (Some m) h = body_textual k items m.closed m.body (and_left (body_takes lead no_parts (Of k s) m.closed m.body (text s)) _ h)

    item_textual : (k : ℕ) → Textual k
    item_textual zero n h = absurd (true≢false (sym h))
    item_textual (suc k) n h = given_textual k (item_textual k) (container_named n models) h

    pub textual : (t : TypeModel) → Of (allowed models) s t ≡ true → IsTextual (As (allowed models) s t)
    textual t = type_textual (allowed models) (item_textual (allowed models)) t

  -- ---- by the parts of the value

  pub record AgreesAt (v : Value) (pj : Parts Judge) (ps : Parts Seen) (pp : Parts Part) (pr : Parts Reader) : Type 0 where
    pub as_type : (t : TypeModel) → Agrees E (type_takes r v pj (item_reads models cs r v pj (allowed models)) t) (type_stops ps (item_stops models cs r v ps (allowed models)) t)
        (λ x. written models t x ≡ type_writes v pp (item_writes models cs r d v pp (allowed models)) t) (type_read models r v pr (item_reading models cs r q v pr (allowed models)) t)
    pub as_content : (c : Content) → ContentIsGood models E d q c
        → Agrees E (content_takes lead pj (type_takes r v pj (item_reads models cs r v pj (allowed models))) c)
        (content_stops lead (still_reads models cs r v (allowed models)) v ps (type_stops ps (item_stops models cs r v ps (allowed models))) c)
        (λ xs. contents_written models E d q c xs ≡ content_writes lead d (still_reads models cs r v (allowed models)) v pp (type_writes v pp (item_writes models cs r d v pp (allowed models))) c)
        (content_read q (absent models) r cs v pr (type_read models r v pr (item_reading models cs r q v pr (allowed models))) c)

  here : (v : Value) (i : Inside (Part' models E d q) (Entry models E d q)) (whole : has_json_numbers v ≡ true) (fits : Fits models E d q v i) (parts : parts_of models cs r v ≡ takes_in models E d q i)
      → AgreesAt v (takes_in models E d q i) (seen_in models E d q i) (parts_in models E d q i) (readers_in models E d q i)
  here v i whole fits parts = record { as_type = here_as_type v i whole fits parts; as_content = here_as_content v i whole fits parts }

  pub record ValueAgrees (v : Value) : Type 0 where
    pub as_type : (t : TypeModel) → Agrees E (value_reads models cs r v (one_type t)) (value_stops models cs r v (one_type t)) (λ x. written models t x ≡ value_writes models cs r d v (one_type t)) ((value_reader models cs r q v).as_type t)
    pub as_content : (c : Content) → ContentIsGood models E d q c
        → Agrees E (value_reads models cs r v c) (value_stops models cs r v c) (λ xs. contents_written models E d q c xs ≡ value_writes models cs r d v c) ((value_reader models cs r q v).as_content c)

  -- the part that a value is
  abbrev part_for : (v : Value) → ValueAgrees v → Part' models E d q
  part_for v a = record {
    seen = record { takes = value_reads models cs r v; stops = value_stops models cs r v };
    part = record { value = v; writes = value_writes models cs r d v };
    reader = value_reader models cs r q v;
    as_type = a.as_type;
    as_content = a.as_content;
    empties = empties models cs r q v;
  }

  abbrev AllAgree : Items → Type 0
  AllAgree no_items = Unit {0}
  AllAgree (item v vs) = ValueAgrees v × AllAgree vs

  abbrev MembersAgree : Members → Type 0
  MembersAgree no_members = Unit {0}
  MembersAgree (member k v ms) = ValueAgrees (text k) × ValueAgrees v × MembersAgree ms

  abbrev parts_for : (xs : Items) → AllAgree xs → List (Part' models E d q)
  parts_for no_items h = []
  parts_for (item v vs) h = part_for v h.0 ∷ parts_for vs h.1

  abbrev entries_for : (ms : Members) → MembersAgree ms → List (Entry models E d q)
  entries_for no_members h = []
  entries_for (member k v ms) h = record { name = k; key = part_for (text k) h.0; value = part_for v h.1; texts = textual k } ∷ entries_for ms h.2

  judges_are : (xs : Items) (h : AllAgree xs) → item_judges models cs r xs ≡ map (takes_of models E d q) (parts_for xs h)
  judges_are no_items h = refl
  judges_are (item v vs) h = ap (λ js. value_reads models cs r v ∷ js) (judges_are vs h.1)

  seen_are : (xs : Items) (h : AllAgree xs) → items_seen models cs r xs ≡ map (seen_of models E d q) (parts_for xs h)
  seen_are no_items h = refl
  seen_are (item v vs) h = ap (λ js. record { takes = value_reads models cs r v; stops = value_stops models cs r v } ∷ js) (seen_are vs h.1)

  writers_are : (xs : Items) (h : AllAgree xs) → item_writers models cs r d xs ≡ map (part_of models E d q) (parts_for xs h)
  writers_are no_items h = refl
  writers_are (item v vs) h = ap (λ js. record { value = v; writes = value_writes models cs r d v } ∷ js) (writers_are vs h.1)

  readers_are : (xs : Items) (h : AllAgree xs) → item_readers models cs r q xs ≡ map (reader_of models E d q) (parts_for xs h)
  readers_are no_items h = refl
  readers_are (item v vs) h = ap (λ js. value_reader models cs r q v ∷ js) (readers_are vs h.1)

  member_judges_are : (ms : Members) (h : MembersAgree ms) → member_judges models cs r ms ≡ map (takes_at models E d q) (entries_for ms h)
  member_judges_are no_members h = refl
  member_judges_are (member k v ms) h = ap (λ js. record { name = k; key = value_reads models cs r (text k); value = value_reads models cs r v } ∷ js) (member_judges_are ms h.2)

  members_seen_are : (ms : Members) (h : MembersAgree ms) → members_seen models cs r ms ≡ map (seen_at models E d q) (entries_for ms h)
  members_seen_are no_members h = refl
  members_seen_are (member k v ms) h =
      ap (λ js. record { name = k; key = record { takes = value_reads models cs r (text k); stops = λ c. [] }; value = record { takes = value_reads models cs r v; stops = value_stops models cs r v } } ∷ js) (members_seen_are ms h.2)

  member_writers_are : (ms : Members) (h : MembersAgree ms) → member_writers models cs r d ms ≡ map (part_at models E d q) (entries_for ms h)
  member_writers_are no_members h = refl
  member_writers_are (member k v ms) h =
      ap (λ js. record { name = k; key = record { value = text k; writes = value_writes models cs r d (text k) }; value = record { value = v; writes = value_writes models cs r d v } } ∷ js) (member_writers_are ms h.2)

  member_readers_are : (ms : Members) (h : MembersAgree ms) → member_readers models cs r q ms ≡ map (reader_at models E d q) (entries_for ms h)
  member_readers_are no_members h = refl
  member_readers_are (member k v ms) h = ap (λ js. record { name = k; key = value_reader models cs r q (text k); value = value_reader models cs r q v } ∷ js) (member_readers_are ms h.2)

  list_agrees : (xs : Items) → has_json_numbers (list xs) ≡ true → (h : AllAgree xs)
      → AgreesAt (list xs) (list_parts (item_judges models cs r xs)) (list_parts (items_seen models cs r xs)) (list_parts (item_writers models cs r d xs)) (list_parts (item_readers models cs r q xs))
  list_agrees xs whole h =
      subst (λ a. AgreesAt (list xs) (list_parts a) (list_parts (items_seen models cs r xs)) (list_parts (item_writers models cs r d xs)) (list_parts (item_readers models cs r q xs))) (sym (judges_are xs h))
      (subst (λ a. AgreesAt (list xs) (list_parts (map (takes_of models E d q) (parts_for xs h))) (list_parts a) (list_parts (item_writers models cs r d xs)) (list_parts (item_readers models cs r q xs))) (sym (seen_are xs h))
      (subst (λ a. AgreesAt (list xs) (list_parts (map (takes_of models E d q) (parts_for xs h))) (list_parts (map (seen_of models E d q) (parts_for xs h))) (list_parts a) (list_parts (item_readers models cs r q xs))) (sym (writers_are xs h))
      (subst (λ a. AgreesAt (list xs) (list_parts (map (takes_of models E d q) (parts_for xs h))) (list_parts (map (seen_of models E d q) (parts_for xs h))) (list_parts (map (part_of models E d q) (parts_for xs h))) (list_parts a)) (sym (readers_are xs h))
      (here (list xs) (items_inside (parts_for xs h)) whole tt (ap list_parts (judges_are xs h))))))

  object_agrees : (ms : Members) → has_json_numbers (object ms) ≡ true → (h : MembersAgree ms)
      → AgreesAt (object ms) (object_parts (member_judges models cs r ms)) (object_parts (members_seen models cs r ms)) (object_parts (member_writers models cs r d ms)) (object_parts (member_readers models cs r q ms))
  object_agrees ms whole h =
      subst (λ a. AgreesAt (object ms) (object_parts a) (object_parts (members_seen models cs r ms)) (object_parts (member_writers models cs r d ms)) (object_parts (member_readers models cs r q ms))) (sym (member_judges_are ms h))
      (subst (λ a. AgreesAt (object ms) (object_parts (map (takes_at models E d q) (entries_for ms h))) (object_parts a) (object_parts (member_writers models cs r d ms)) (object_parts (member_readers models cs r q ms))) (sym (members_seen_are ms h))
      (subst (λ a. AgreesAt (object ms) (object_parts (map (takes_at models E d q) (entries_for ms h))) (object_parts (map (seen_at models E d q) (entries_for ms h))) (object_parts a) (object_parts (member_readers models cs r q ms))) (sym (member_writers_are ms h))
      (subst (λ a. AgreesAt (object ms) (object_parts (map (takes_at models E d q) (entries_for ms h))) (object_parts (map (seen_at models E d q) (entries_for ms h))) (object_parts (map (part_at models E d q) (entries_for ms h))) (object_parts a)) (sym (member_readers_are ms h))
      (here (object ms) (members_inside (entries_for ms h)) whole tt (ap object_parts (member_judges_are ms h))))))

  text_agrees : (s : List ℕ) → ValueAgrees (text s)
  text_agrees s = let a = here (text s) none_inside refl tt refl in record { as_type = a.as_type; as_content = a.as_content }

  mutual
    pub value_agrees : (v : Value) → has_json_numbers v ≡ true → ValueAgrees v
    value_agrees null h = let a = here null none_inside h tt refl in record { as_type = a.as_type; as_content = a.as_content }
    value_agrees (value.boolean b) h = let a = here (value.boolean b) none_inside h tt refl in record { as_type = a.as_type; as_content = a.as_content }
    value_agrees (number z) h = let a = here (number z) none_inside h tt refl in record { as_type = a.as_type; as_content = a.as_content }
    value_agrees fraction h = let a = here fraction none_inside h tt refl in record { as_type = a.as_type; as_content = a.as_content }
    value_agrees (text s) h = text_agrees s
    value_agrees (list xs) h = let a = list_agrees xs h (all_agree xs h) in record { as_type = a.as_type; as_content = a.as_content }
    value_agrees (object ms) h = let a = object_agrees ms h (members_agree ms h) in record { as_type = a.as_type; as_content = a.as_content }

    all_agree : (xs : Items) → items_have_json_numbers xs ≡ true → AllAgree xs
    all_agree no_items h = tt
    all_agree (item v vs) h = (value_agrees v (and_left (has_json_numbers v) (items_have_json_numbers vs) h), all_agree vs (and_right (has_json_numbers v) (items_have_json_numbers vs) h))

    members_agree : (ms : Members) → members_have_json_numbers ms ≡ true → MembersAgree ms
    members_agree no_members h = tt
    members_agree (member k v ms) h = (
      text_agrees k,
      value_agrees v (and_left (has_json_numbers v) (members_have_json_numbers ms) h),
      members_agree ms (and_right (has_json_numbers v) (members_have_json_numbers ms) h),
    )
