-- A value in whose objects no name stands twice is read as a document in each of whose schemas names differ, and sizes are below 2^32.
use Rattle.std.proofs.Common.{◌≡◌, ℕ, ◌<◌, ◌^◌, pos, negsuc, List, [], ◌∷◌, Option, Some, None, option_map, Ordering, Less, Equal, Greater, Bool, true, false, ◌&&◌, ◌||◌, not, bytes_eq, true≢false, refl, sym, subst, arith}
use Rattle.std.specs.Prelude.{nat_le, unwrap_or, option_and_then, codes, if◌then◌else◌}
use Rattle.std.specs.List.{list_all}
use Rattle.std.specs.Ordering.{nat_cmp, match_ordering}
use Rattle.std.specs.Cmp.Lexicographic.{slice_cmp}
use Rattle.std.proofs.lemmas.Bool.{leb-true}
use Rattle.json_value.specs.Value as value
use Rattle.json_value.specs.Value.{Value, Items, Members, null, number, fraction, text, list, item, no_items, member, no_members, member_at, has_name}
use Rattle.schema_defs.specs.declared.Setting.{Setting}
use Rattle.schema_defs.specs.Schema as tree
use Rattle.schema_defs.specs.Schema.{Plain, Schema, object, Same, no_same, Lists, no_lists, Named, no_named, MaybeSchema, MaybeSchemas, Schemas, no_more, schema, Places, each_item, by_place, Properties, no_properties, property, Definition, Document}
use Rattle.schema_defs.specs.Read.{◌⊛◌, Reading, Lookup, lookup_of, reading, item_readings, member_readings, optional, keyword, by_value, any_stands, flag_of, size_of, names_of as required_of, texts_in, name_set, unless_empty, places_of, maybe_schema, maybe_list, same_words, condition_words, list_words, member_words, make_same, make_lists, make_named, plain_of, same_of, lists_of, named_of, schema_of, schemas_of, properties_of, with_definition, with_definitions, joined, definitions_of, make_document, document_of}
use Rattle.schema_defs.proofs.Unknown.{keywords_are_members}
use Rattle.enum_defs.specs.Words.{names_of}
use Rattle.distinct_names.specs.Names.{NamesDiffer, NamesOfItemsDiffer, MembersDiffer}
use Rattle.schema_laws.proofs.Options.{IfThere, chosen, mapped, followed, flattened, taken, passed, taken2, taken3, taken4}
use Rattle.convert_defs.specs.Apart.{differ}
use Rattle.document_laws.proofs.Rising.{set-differs}
use Rattle.document_laws.proofs.Apart.{Apart, ApartSame, ApartLists, ApartNamed, ApartMaybe, ApartList, ApartAll, ApartPlaces, ApartNames, ApartDefinitions, ApartDocument}

-- ---- keywords

abbrev Differ : List (List ℕ) → Type 0
Differ ns = differ ns ≡ true

-- schemas by name, whose names differ
abbrev Named_ : Properties → Type 0
Named_ ps = ApartNames ps × Differ (names_of ps)

-- what a value is read as
record Follows (v : Value) : Type 0 where
  as_schema : IfThere Apart (reading v).as_schema
  as_list : IfThere ApartAll (reading v).as_list
  as_named : IfThere Named_ (reading v).as_named

abbrev FollowsMaybe : Option Value → Type 0
FollowsMaybe None = Unit {0}
FollowsMaybe (Some v) = Follows v

abbrev ApartAt : {A : Type 0} → (Reading → Option A) → (A → Type 0) → Type 0
ApartAt f Q = (v : Value) → Follows v → IfThere Q (f (reading v))

at_some_schemas : ApartAt (λ r. option_and_then unless_empty r.as_list) ApartAll
at_some_schemas v g = followed ApartAll ApartAll unless_empty (reading v).as_list g.as_list filled
  where
    filled : (ss : Schemas) → ApartAll ss → IfThere ApartAll (unless_empty ss)
    filled no_more h = tt
    filled (schema s ss) h = h

at_items : ApartAt places_of ApartPlaces
at_items v g = by (reading v).as_schema g.as_schema
  where
    by : (o : Option Schema) → IfThere Apart o → IfThere ApartPlaces (elim o [ Some s ↦ Some (each_item s) | None ↦ option_map by_place (reading v).as_list ])
    by (Some s) h = h
    by None h = mapped ApartAll ApartPlaces by_place (reading v).as_list g.as_list (λ ss k. k)

at_required : ApartAt (by_value required_of) Differ
at_required v g = by (reading v).whole
  where
    by : (w : Value) → IfThere Differ (required_of w)
    by (list xs) = mapped (λ ns. Unit {0}) Differ name_set (texts_in xs) (any (texts_in xs)) (λ ns k. set-differs ns)
      where
        any : (o : Option (List (List ℕ))) → IfThere (λ ns. Unit {0}) o
        any None = tt
        any (Some ns) = tt
    by null = tt
    by (value.boolean b) = tt
    by (number z) = tt
    by fraction = tt
    by (text s) = tt
    by (value.object ms) = tt

abbrev Few : ℕ → Type 0
Few n = n < 2 ^ 32

at_size : ApartAt (by_value size_of) Few
at_size v g = by (reading v).whole
  where
    fits : (n : ℕ) (b : Bool) → nat_le n 4294967295 ≡ b → IfThere Few (if b then Some n else None)
    fits n true e =
        let l = leb-true n 4294967295 e in
        let few : n < 2 ^ 32 = omega arith in
        few
    fits n false e = tt

    by : (w : Value) → IfThere Few (size_of w)
    by (number (pos n)) = fits n (nat_le n 4294967295) refl
    by (number (negsuc n)) = tt
    by null = tt
    by (value.boolean b) = tt
    by fraction = tt
    by (text s) = tt
    by (list xs) = tt
    by (value.object ms) = tt

module _ {A : Type 0} (ms : Members) (k : List ℕ) (f : Reading → Option A) (Q : A → Type 0) (read : ApartAt f Q) where
  at_member : (o : Option Value) → FollowsMaybe o → IfThere (IfThere Q) (optional f (option_map reading o))
  at_member None g = tt
  at_member (Some v) g = mapped Q (IfThere Q) Some (f (reading v)) (read v g) (λ x h. h)

  at_keyword : FollowsMaybe (member_at k ms) → IfThere (IfThere Q) (keyword k f (lookup_of (member_readings ms)))
  at_keyword g = subst (λ o. IfThere (IfThere Q) (optional f o)) (sym (keywords_are_members k ms)) (at_member (member_at k ms) g)

-- ---- an object

maybe_apart : (o : Option Schema) → IfThere Apart o → ApartMaybe (maybe_schema o)
maybe_apart None h = tt
maybe_apart (Some s) h = h

list_apart : (o : Option Schemas) → IfThere ApartAll o → ApartList (maybe_list o)
list_apart None h = tt
list_apart (Some ss) h = h

places_apart : (o : Option Places) → IfThere ApartPlaces o → ApartPlaces (unwrap_or o tree.no_items)
places_apart None h = tt
places_apart (Some ps) h = h

names_apart_of : (o : Option Properties) → IfThere Named_ o → Named_ (unwrap_or o no_properties)
names_apart_of None h = (tt, refl)
names_apart_of (Some ps) h = h

few : (o : Option ℕ) → IfThere Few o → (n : ℕ) → o ≡ Some n → n < 2 ^ 32
few None h n e = absurd (none_some n e)
  where
    none_some : (n : ℕ) → None ≡ Some n → ⊥
    none_some n e = cc
few (Some m) h n e = let same : m ≡ n = cc in subst Few same h

required_apart : (o : Option (List (List ℕ))) → IfThere Differ o → Differ (unwrap_or o [])
required_apart None h = refl
required_apart (Some ns) h = h

module _ (f : Lookup) where
  same_apart : IfThere (IfThere ApartAll) (keyword (codes "allOf") (λ r. option_and_then unless_empty r.as_list) f) → IfThere (IfThere ApartAll) (keyword (codes "anyOf") (λ r. r.as_list) f)
      → IfThere (IfThere ApartAll) (keyword (codes "oneOf") (λ r. r.as_list) f) → IfThere (IfThere Apart) (keyword (codes "not") (λ r. r.as_schema) f) → IfThere ApartSame (same_of f)
  unfolding same_of
  same_apart a b c d =
      chosen (IfThere ApartSame) (any_stands same_words f) _ _
      (taken4 (IfThere ApartAll) (IfThere ApartAll) (IfThere ApartAll) (IfThere Apart) ApartSame (Some (make_same (any_stands condition_words f)))
      (keyword (codes "allOf") (λ r. option_and_then unless_empty r.as_list) f) (keyword (codes "anyOf") (λ r. r.as_list) f) (keyword (codes "oneOf") (λ r. r.as_list) f) (keyword (codes "not") (λ r. r.as_schema) f)
      (λ all h any i one j none k. (list_apart all h, list_apart any i, list_apart one j, maybe_apart none k)) a b c d)
      tt

  lists_apart : IfThere (IfThere ApartPlaces) (keyword (codes "items") places_of f) → IfThere (IfThere Apart) (keyword (codes "additionalItems") (λ r. r.as_schema) f)
      → IfThere (IfThere Apart) (keyword (codes "contains") (λ r. r.as_schema) f) → IfThere (IfThere Few) (keyword (codes "minItems") (by_value size_of) f) → IfThere ApartLists (lists_of f)
  unfolding lists_of
  lists_apart a b c e =
      chosen (IfThere ApartLists) (any_stands list_words f) _ _
      (passed ApartLists
      (Some make_lists ⊛ keyword (codes "items") places_of f ⊛ keyword (codes "additionalItems") (λ r. r.as_schema) f ⊛ keyword (codes "contains") (λ r. r.as_schema) f
      ⊛ keyword (codes "maxItems") (by_value size_of) f ⊛ keyword (codes "minItems") (by_value size_of) f)
      (keyword (codes "uniqueItems") (by_value flag_of) f)
      (taken (IfThere Few) (λ (k : Option Bool → Lists). (u : Option Bool) → ApartLists (k u))
      (Some make_lists ⊛ keyword (codes "items") places_of f ⊛ keyword (codes "additionalItems") (λ r. r.as_schema) f ⊛ keyword (codes "contains") (λ r. r.as_schema) f ⊛ keyword (codes "maxItems") (by_value size_of) f)
      (keyword (codes "minItems") (by_value size_of) f)
      (passed (λ (k : Option ℕ → Option Bool → Lists). (n : Option ℕ) → IfThere Few n → (u : Option Bool) → ApartLists (k n u))
      (Some make_lists ⊛ keyword (codes "items") places_of f ⊛ keyword (codes "additionalItems") (λ r. r.as_schema) f ⊛ keyword (codes "contains") (λ r. r.as_schema) f)
      (keyword (codes "maxItems") (by_value size_of) f)
      (taken3 (IfThere ApartPlaces) (IfThere Apart) (IfThere Apart) (λ (k : Option ℕ → Option ℕ → Option Bool → Lists). (m : Option ℕ) (n : Option ℕ) → IfThere Few n → (u : Option Bool) → ApartLists (k m n u)) (Some make_lists)
      (keyword (codes "items") places_of f) (keyword (codes "additionalItems") (λ r. r.as_schema) f) (keyword (codes "contains") (λ r. r.as_schema) f)
      (λ places h rest i contains j m n g u. (places_apart places h, maybe_apart rest i, maybe_apart contains j, few n g)) a b c))
      e))
      tt

  both : (a b : Bool) → a ≡ true → b ≡ true → (a && b) ≡ true
  both a b h k = λ i. h i && k i

  named_parts : IfThere (IfThere Named_) (keyword (codes "properties") (λ r. r.as_named) f) → IfThere (IfThere Named_) (keyword (codes "patternProperties") (λ r. r.as_named) f)
      → IfThere (IfThere Apart) (keyword (codes "additionalProperties") (λ r. r.as_schema) f) → IfThere (IfThere Apart) (keyword (codes "propertyNames") (λ r. r.as_schema) f)
      → IfThere (λ (k : Option ℕ → Option ℕ → Option (List (List ℕ)) → Named). (m : Option ℕ) (n : Option ℕ) (q : Option (List (List ℕ))) → IfThere Differ q → ApartNamed (k m n q))
      (Some make_named ⊛ keyword (codes "properties") (λ r. r.as_named) f ⊛ keyword (codes "patternProperties") (λ r. r.as_named) f ⊛ keyword (codes "additionalProperties") (λ r. r.as_schema) f ⊛ keyword (codes "propertyNames") (λ r. r.as_schema) f)
  named_parts a b c d =
      taken4 (IfThere Named_) (IfThere Named_) (IfThere Apart) (IfThere Apart) (λ (k : Option ℕ → Option ℕ → Option (List (List ℕ)) → Named). (m : Option ℕ) (n : Option ℕ) (q : Option (List (List ℕ))) → IfThere Differ q → ApartNamed (k m n q)) (Some make_named)
      (keyword (codes "properties") (λ r. r.as_named) f) (keyword (codes "patternProperties") (λ r. r.as_named) f) (keyword (codes "additionalProperties") (λ r. r.as_schema) f) (keyword (codes "propertyNames") (λ r. r.as_schema) f)
      (λ props h patterns i rest j names k m n q l.
      let x = names_apart_of props h in let y = names_apart_of patterns i in
      (both (differ (names_of (unwrap_or props no_properties))) (differ (unwrap_or q [])) x.1 (required_apart q l), x.0, y.0, maybe_apart rest j, maybe_apart names k)) a b c d

  named_apart : IfThere (IfThere Named_) (keyword (codes "properties") (λ r. r.as_named) f) → IfThere (IfThere Named_) (keyword (codes "patternProperties") (λ r. r.as_named) f)
      → IfThere (IfThere Apart) (keyword (codes "additionalProperties") (λ r. r.as_schema) f) → IfThere (IfThere Apart) (keyword (codes "propertyNames") (λ r. r.as_schema) f)
      → IfThere (IfThere Differ) (keyword (codes "required") (by_value required_of) f) → IfThere ApartNamed (named_of f)
  unfolding named_of
  named_apart a b c d e =
      chosen (IfThere ApartNamed) (any_stands member_words f) _ _
      (taken (IfThere Differ) ApartNamed
      (Some make_named ⊛ keyword (codes "properties") (λ r. r.as_named) f ⊛ keyword (codes "patternProperties") (λ r. r.as_named) f ⊛ keyword (codes "additionalProperties") (λ r. r.as_schema) f ⊛ keyword (codes "propertyNames") (λ r. r.as_schema) f
      ⊛ keyword (codes "maxProperties") (by_value size_of) f ⊛ keyword (codes "minProperties") (by_value size_of) f)
      (keyword (codes "required") (by_value required_of) f)
      (passed (λ (k : Option (List (List ℕ)) → Named). (q : Option (List (List ℕ))) → IfThere Differ q → ApartNamed (k q))
      (Some make_named ⊛ keyword (codes "properties") (λ r. r.as_named) f ⊛ keyword (codes "patternProperties") (λ r. r.as_named) f ⊛ keyword (codes "additionalProperties") (λ r. r.as_schema) f ⊛ keyword (codes "propertyNames") (λ r. r.as_schema) f
      ⊛ keyword (codes "maxProperties") (by_value size_of) f)
      (keyword (codes "minProperties") (by_value size_of) f)
      (passed (λ (k : Option ℕ → Option (List (List ℕ)) → Named). (n : Option ℕ) (q : Option (List (List ℕ))) → IfThere Differ q → ApartNamed (k n q))
      (Some make_named ⊛ keyword (codes "properties") (λ r. r.as_named) f ⊛ keyword (codes "patternProperties") (λ r. r.as_named) f ⊛ keyword (codes "additionalProperties") (λ r. r.as_schema) f ⊛ keyword (codes "propertyNames") (λ r. r.as_schema) f)
      (keyword (codes "maxProperties") (by_value size_of) f)
      (named_parts a b c d)))
      e)
      tt

  any : {A : Type 0} (o : Option A) → IfThere (λ x. Unit {0}) o
  any None = tt
  any (Some x) = tt

  object_of : IfThere ApartSame (same_of f) → IfThere ApartLists (lists_of f) → IfThere ApartNamed (named_of f) → IfThere Apart (schema_of f)
  unfolding schema_of
  object_of a b c =
      taken4 (λ (p : Plain). Unit {0}) ApartSame ApartLists ApartNamed Apart (Some (λ (p : Plain) (ss : Same) (ls : Lists) (ns : Named). object p ss ls ns)) (plain_of f) (same_of f) (lists_of f) (named_of f)
      (λ p h ss i ls j ns k. (i, j, k)) (any (plain_of f)) a b c

-- each keyword of an object
object_apart : (ms : Members) → ((n : List ℕ) → FollowsMaybe (member_at n ms)) → IfThere Apart (schema_of (lookup_of (member_readings ms)))
object_apart ms g =
    let look = lookup_of (member_readings ms) in
    object_of look
    (same_apart look
    (at_keyword ms (codes "allOf") (λ r. option_and_then unless_empty r.as_list) ApartAll at_some_schemas (g (codes "allOf")))
    (at_keyword ms (codes "anyOf") (λ r. r.as_list) ApartAll (λ v h. h.as_list) (g (codes "anyOf")))
    (at_keyword ms (codes "oneOf") (λ r. r.as_list) ApartAll (λ v h. h.as_list) (g (codes "oneOf")))
    (at_keyword ms (codes "not") (λ r. r.as_schema) Apart (λ v h. h.as_schema) (g (codes "not"))))
    (lists_apart look
    (at_keyword ms (codes "items") places_of ApartPlaces at_items (g (codes "items")))
    (at_keyword ms (codes "additionalItems") (λ r. r.as_schema) Apart (λ v h. h.as_schema) (g (codes "additionalItems")))
    (at_keyword ms (codes "contains") (λ r. r.as_schema) Apart (λ v h. h.as_schema) (g (codes "contains")))
    (at_keyword ms (codes "minItems") (by_value size_of) Few at_size (g (codes "minItems"))))
    (named_apart look
    (at_keyword ms (codes "properties") (λ r. r.as_named) Named_ (λ v h. h.as_named) (g (codes "properties")))
    (at_keyword ms (codes "patternProperties") (λ r. r.as_named) Named_ (λ v h. h.as_named) (g (codes "patternProperties")))
    (at_keyword ms (codes "additionalProperties") (λ r. r.as_schema) Apart (λ v h. h.as_schema) (g (codes "additionalProperties")))
    (at_keyword ms (codes "propertyNames") (λ r. r.as_schema) Apart (λ v h. h.as_schema) (g (codes "propertyNames")))
    (at_keyword ms (codes "required") (by_value required_of) Differ at_required (g (codes "required"))))

-- ---- each value

abbrev ListApart : Items → Type 0
ListApart vs = IfThere ApartAll (schemas_of (item_readings vs))

-- and another name that doesn't stand there is none of theirs
abbrev AllNamed : Members → Properties → Type 0
AllNamed ms ps = Named_ ps × ((n : List ℕ) → has_name n ms ≡ false → list_all (λ m. not (bytes_eq n m)) (names_of ps) ≡ true)

abbrev NamedApart : Members → Type 0
NamedApart ms = IfThere (AllNamed ms) (properties_of (member_readings ms))

one_named : (n : List ℕ) (v : Value) (ms : Members) → has_name n ms ≡ false → Follows v → NamedApart ms → NamedApart (member n v ms)
one_named n v ms d g h =
    taken2 Apart (AllNamed ms) (AllNamed (member n v ms)) (Some (λ (s : Schema) (ps : Properties). property n s ps)) (reading v).as_schema (properties_of (member_readings ms))
    (λ s x ps y. (((x, y.0.0), (λ i. y.1 n d i && y.0.1 i)), (λ k z. later k ps y.1 z))) g.as_schema h
  where
    later : (k : List ℕ) (ps : Properties) → ((n : List ℕ) → has_name n ms ≡ false → list_all (λ m. not (bytes_eq n m)) (names_of ps) ≡ true) → (bytes_eq k n || has_name k ms) ≡ false → (not (bytes_eq k n) && list_all (λ m. not (bytes_eq k m)) (names_of ps)) ≡ true
    later k ps f z = by (bytes_eq k n) z
      where
        by : (b : Bool) → (b || has_name k ms) ≡ false → (not b && list_all (λ m. not (bytes_eq k m)) (names_of ps)) ≡ true
        by true z = absurd (true≢false z)
        by false z = f k z

named_only : (ms : Members) → NamedApart ms → IfThere Named_ (properties_of (member_readings ms))
named_only ms h = by (properties_of (member_readings ms)) h
  where
    by : (o : Option Properties) → IfThere (AllNamed ms) o → IfThere Named_ o
    by None h = tt
    by (Some ps) h = h.0

mutual
  follows : (v : Value) → NamesDiffer v → Follows v
  follows null h = record { as_schema = tt; as_list = tt; as_named = tt }
  follows (value.boolean b) h = record { as_schema = tt; as_list = tt; as_named = tt }
  follows (number z) h = record { as_schema = tt; as_list = tt; as_named = tt }
  follows fraction h = record { as_schema = tt; as_list = tt; as_named = tt }
  follows (text s) h = record { as_schema = tt; as_list = tt; as_named = tt }
  follows (list xs) h = record { as_schema = tt; as_list = follows_items xs h; as_named = tt }
  follows (value.object ms) h = record { as_schema = object_apart ms (follows_at ms h); as_list = tt; as_named = named_only ms (follows_members ms h) }

  follows_items : (vs : Items) → NamesOfItemsDiffer vs → ListApart vs
  follows_items no_items h = tt
  follows_items (item v vs) h = taken2 Apart ApartAll ApartAll (Some (λ (s : Schema) (ss : Schemas). schema s ss)) (reading v).as_schema (schemas_of (item_readings vs)) (λ s x ss y. (x, y)) (follows v h.0).as_schema (follows_items vs h.1)

  follows_members : (ms : Members) → MembersDiffer ms → NamedApart ms
  follows_members no_members h = ((tt, refl), λ n z. refl)
  follows_members (member n v ms) h = one_named n v ms h.0 (follows v h.1) (follows_members ms h.2)

  follows_at : (ms : Members) → MembersDiffer ms → (n : List ℕ) → FollowsMaybe (member_at n ms)
  follows_at no_members h n = tt
  follows_at (member k v ms) h n = chosen FollowsMaybe (bytes_eq n k) (Some v) (member_at n ms) (follows v h.1) (follows_at ms h.2 n)

-- ---- documents

inserted : (e : Definition) (ds : List Definition) → Apart e.body → ApartDefinitions ds → IfThere ApartDefinitions (with_definition e ds)
inserted e [] h g = (h, tt)
inserted e (d ∷ ds) h g = by_order (slice_cmp nat_cmp e.name d.name) (with_definition e ds) (inserted e ds h g.1)
  where
    by_order : (c : Ordering) (o : Option (List Definition)) → IfThere ApartDefinitions o → IfThere ApartDefinitions (match_ordering c (Some (e ∷ d ∷ ds)) None (option_map (λ es. d ∷ es) o))
    by_order Less o i = (h, g)
    by_order Equal o i = tt
    by_order Greater o i = mapped ApartDefinitions ApartDefinitions (λ es. d ∷ es) o i (λ es j. (g.0, j))

inserted_all : (b : Bool) (ps : Properties) (o : Option (List Definition)) → ApartNames ps → IfThere ApartDefinitions o → IfThere ApartDefinitions (with_definitions b ps o)
inserted_all b no_properties o h g = g
inserted_all b (property k s ps) o h g =
    followed ApartDefinitions ApartDefinitions (with_definition (record { name = k; under_defs = b; body = s })) (with_definitions b ps o) (inserted_all b ps o h.1 g)
    (λ ds i. inserted (record { name = k; under_defs = b; body = s }) ds h.0 i)

joined_apart : (x y : Option Properties) → IfThere Named_ x → IfThere Named_ y → IfThere ApartDefinitions (joined x y)
joined_apart x y h g =
    inserted_all true (unwrap_or y no_properties) (with_definitions false (unwrap_or x no_properties) (Some [])) (names_apart_of y g).0
    (inserted_all false (unwrap_or x no_properties) (Some []) (names_apart_of x h).0 tt)

definitions_apart : (f : Lookup) → IfThere (IfThere Named_) (keyword (codes "definitions") (λ r. r.as_named) f) → IfThere (IfThere Named_) (keyword (codes "$defs") (λ r. r.as_named) f) → IfThere ApartDefinitions (definitions_of f)
unfolding definitions_of
definitions_apart f h g =
    flattened ApartDefinitions (Some joined ⊛ keyword (codes "definitions") (λ r. r.as_named) f ⊛ keyword (codes "$defs") (λ r. r.as_named) f)
    (taken2 (IfThere Named_) (IfThere Named_) (IfThere ApartDefinitions) (Some joined) (keyword (codes "definitions") (λ r. r.as_named) f) (keyword (codes "$defs") (λ r. r.as_named) f)
    (λ x i y j. joined_apart x y i j) h g)

-- where no name stands twice in an object of the value
pub document_apart : (setting : Setting) (v : Value) → NamesDiffer v → IfThere ApartDocument (document_of setting v)
unfolding document_of
document_apart setting null h = tt
document_apart setting (value.boolean b) h = (tt, tt)
document_apart setting (number z) h = tt
document_apart setting fraction h = tt
document_apart setting (text s) h = tt
document_apart setting (list xs) h = tt
document_apart setting (value.object ms) h =
    let g = follows_at ms h in
    taken2 Apart ApartDefinitions ApartDocument (Some (make_document setting)) (schema_of (lookup_of (member_readings ms))) (definitions_of (lookup_of (member_readings ms))) (λ s i ds j. (i, j))
    (object_apart ms g)
    (definitions_apart (lookup_of (member_readings ms))
    (at_keyword ms (codes "definitions") (λ r. r.as_named) Named_ (λ v h. h.as_named) (g (codes "definitions")))
    (at_keyword ms (codes "$defs") (λ r. r.as_named) Named_ (λ v h. h.as_named) (g (codes "$defs"))))
