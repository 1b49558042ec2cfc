-- Of each schema that is read something holds that holds of keywords without a walk, and without a name twice where the value has none.
use Rattle.std.proofs.Common.{◌≡◌, ℕ, List, [], ◌∷◌, Option, Some, None, option_map, Ordering, Less, Equal, Greater, Bool, true, false, bytes_eq, codes, refl, sym, subst, ◌&&◌, ◌||◌, not, map, true≢false}
use Rattle.std.specs.Prelude.{unwrap_or, Contains, option_and_then, if◌then◌else◌}
use Rattle.std.specs.List.{AllByRecursion, list_all}
use Rattle.std.specs.Ordering.{nat_cmp, match_ordering}
use Rattle.std.specs.Cmp.Lexicographic.{slice_cmp}
use Rattle.json_value.specs.Value as value
use Rattle.json_value.specs.Value.{Value, Items, Members, null, number, fraction, text, list, item, no_items, member, no_members, member_at, has_name}
use Rattle.schema_defs.specs.declared.Setting.{Setting}
use Rattle.schema_defs.specs.Schema as tree
use Rattle.schema_defs.specs.Schema.{Types, Numbers, Texts, Plain, Schema, object, Same, Lists, Named, MaybeSchema, MaybeSchemas, Schemas, no_more, schema, Places, each_item, by_place, Properties, no_properties, property, Definition, Document}
use Rattle.schema_defs.specs.Admits.{target, defined, defined_as, definition_name, is_root_reference}
use Rattle.schema_defs.specs.Read.{◌⊛◌, Reading, Lookup, lookup_of, reading, item_readings, member_readings, optional, keyword, by_value, any_stands, flag_of, size_of, names_of as required_of, unless_empty, places_of, maybe_schema, maybe_list, same_words, condition_words, list_words, member_words, make_same, make_lists, make_named, plain_of, same_of, lists_of, named_of, schema_of, schemas_of, properties_of, with_definition, with_definitions, joined, definitions_of, make_document, document_of, make_plain, numbers_of, texts_of, text_of, kept, kept_list, types_of}
use Rattle.schema_defs.proofs.Unknown.{keywords_are_members}
use Rattle.merge_walks.specs.Samples.{walk_in}
use Rattle.each_schema.specs.Each.{EachSchema, EachInSame, EachInLists, EachInNamed, EachInMaybe, EachInList, EachInAll, EachInPlaces, EachInProperties, EachInDefinitions, EachInDocument, of_any_size}
use Rattle.distinct_names.specs.Names.{NamesDiffer as ValueNamesDiffer, NamesOfItemsDiffer, MembersDiffer}
use Rattle.enum_defs.specs.Words.{names_of}
use Rattle.convert_defs.specs.Apart.{differ}
use Rattle.schema_defs.specs.Laws.{NamesRise}
use Rattle.schema_defs.proofs.Rising.{definitions_rise}
use Rattle.schema_defs.proofs.Stand.{first_in, rest_in}
use Rattle.schema_laws.proofs.Located.{found}
use Rattle.schema_laws.proofs.Options.{IfThere, chosen, mapped, followed, flattened, passed, passed3, taken2, taken3, taken4}
use Rattle.depth_laws.specs.Steps.{HasShort, IsShortOrNone}
use Rattle.depth_laws.specs.Standing.{NamesDiffer}
use Rattle.depth_laws.specs.Leading.{IsBare}
use Rattle.depth_laws.specs.Inside.{ReadIsBare}
use Rattle.depth_laws.proofs.Fit.{IsFreshSchema, ReadIsFresh}

-- `K` says that no name stands twice in an object of the value
module _ (K : Type 0) (At : Plain → Named → Type 0) (at : (p : Plain) (ns : Named) → p.walk ≡ None → (K → NamesDiffer ns) → At p ns) where
  abbrev Is : Schema → Type 0
  Is = EachSchema At of_any_size

  abbrev OfSame : Same → Type 0
  OfSame = EachInSame At of_any_size

  abbrev OfLists : Lists → Type 0
  OfLists = EachInLists At of_any_size

  abbrev OfNamed : Named → Type 0
  OfNamed = EachInNamed At of_any_size

  abbrev OfMaybe : MaybeSchema → Type 0
  OfMaybe = EachInMaybe At of_any_size

  abbrev OfList : MaybeSchemas → Type 0
  OfList = EachInList At of_any_size

  abbrev All : Schemas → Type 0
  All = EachInAll At of_any_size

  abbrev OfPlaces : Places → Type 0
  OfPlaces = EachInPlaces At of_any_size

  abbrev OfProperties : Properties → Type 0
  OfProperties = EachInProperties At of_any_size

  -- schemas by name, whose names differ
  abbrev Named_ : Properties → Type 0
  Named_ ps = OfProperties ps × (K → differ (names_of ps) ≡ true)

  abbrev NamedIs : Named → Type 0
  NamedIs ns = OfNamed ns × (K → NamesDiffer ns)

  abbrev OfDefinitions : List Definition → Type 0
  OfDefinitions = EachInDefinitions At of_any_size

  abbrev OfDocument : Document → Type 0
  OfDocument = EachInDocument At of_any_size

  -- ---- keywords

  -- what a value is read as
  record Follows (v : Value) : Type 0 where
    as_schema : IfThere Is (reading v).as_schema
    as_list : IfThere All (reading v).as_list
    as_named : IfThere Named_ (reading v).as_named

  abbrev FollowsMaybe : Option Value → Type 0
  FollowsMaybe None = Unit {0}
  FollowsMaybe (Some v) = Follows v

  abbrev ReadAs : {A : Type 0} → (Reading → Option A) → (A → Type 0) → Type 0
  ReadAs f Q = (v : Value) → Follows v → IfThere Q (f (reading v))

  at_some_schemas : ReadAs (λ r. option_and_then unless_empty r.as_list) All
  at_some_schemas v g = followed All All unless_empty (reading v).as_list g.as_list filled
    where
      filled : (ss : Schemas) → All ss → IfThere All (unless_empty ss)
      filled no_more h = tt
      filled (schema s ss) h = h

  at_items : ReadAs places_of OfPlaces
  at_items v g = by (reading v).as_schema g.as_schema
    where
      by : (o : Option Schema) → IfThere Is o → IfThere OfPlaces (elim o [ Some s ↦ Some (each_item s) | None ↦ option_map by_place (reading v).as_list ])
      by (Some s) h = h
      by None h = mapped All OfPlaces by_place (reading v).as_list g.as_list (λ ss k. k)

  module _ {A : Type 0} (ms : Members) (k : List ℕ) (f : Reading → Option A) (Q : A → Type 0) (read : ReadAs f Q) where
    at_member : (o : Option Value) → FollowsMaybe o → IfThere (IfThere Q) (optional f (option_map reading o))
    at_member None g = tt
    at_member (Some v) g = mapped Q (IfThere Q) Some (f (reading v)) (read v g) (λ x h. h)

    at_keyword : FollowsMaybe (member_at k ms) → IfThere (IfThere Q) (keyword k f (lookup_of (member_readings ms)))
    at_keyword g = subst (λ o. IfThere (IfThere Q) (optional f o)) (sym (keywords_are_members k ms)) (at_member (member_at k ms) g)

  -- ---- an object

  maybe_apart : (o : Option Schema) → IfThere Is o → OfMaybe (maybe_schema o)
  maybe_apart None h = tt
  maybe_apart (Some s) h = h

  list_apart : (o : Option Schemas) → IfThere All o → OfList (maybe_list o)
  list_apart None h = tt
  list_apart (Some ss) h = h

  places_apart : (o : Option Places) → IfThere OfPlaces o → OfPlaces (unwrap_or o tree.no_items)
  places_apart None h = tt
  places_apart (Some ps) h = h

  names_apart_of : (o : Option Properties) → IfThere Named_ o → Named_ (unwrap_or o no_properties)
  names_apart_of None h = (tt, λ k. refl)
  names_apart_of (Some ps) h = h

  any : {A : Type 0} (o : Option A) → IfThere (λ x. Unit {0}) o
  any None = tt
  any (Some x) = tt

  module _ (f : Lookup) where
    same_apart : IfThere (IfThere All) (keyword (codes "allOf") (λ r. option_and_then unless_empty r.as_list) f) → IfThere (IfThere All) (keyword (codes "anyOf") (λ r. r.as_list) f)
        → IfThere (IfThere All) (keyword (codes "oneOf") (λ r. r.as_list) f) → IfThere (IfThere Is) (keyword (codes "not") (λ r. r.as_schema) f) → IfThere OfSame (same_of f)
    unfolding same_of
    same_apart a b c d =
        chosen (IfThere OfSame) (any_stands same_words f) _ _
        (taken4 (IfThere All) (IfThere All) (IfThere All) (IfThere Is) OfSame (Some (make_same (any_stands condition_words f)))
        (keyword (codes "allOf") (λ r. option_and_then unless_empty r.as_list) f) (keyword (codes "anyOf") (λ r. r.as_list) f) (keyword (codes "oneOf") (λ r. r.as_list) f) (keyword (codes "not") (λ r. r.as_schema) f)
        (λ all h any i one j none k. (list_apart all h, list_apart any i, list_apart one j, maybe_apart none k)) a b c d)
        tt

    lists_apart : IfThere (IfThere OfPlaces) (keyword (codes "items") places_of f) → IfThere (IfThere Is) (keyword (codes "additionalItems") (λ r. r.as_schema) f)
        → IfThere (IfThere Is) (keyword (codes "contains") (λ r. r.as_schema) f) → IfThere OfLists (lists_of f)
    unfolding lists_of
    lists_apart a b c =
        chosen (IfThere OfLists) (any_stands list_words f) _ _
        (passed3 OfLists (Some make_lists ⊛ keyword (codes "items") places_of f ⊛ keyword (codes "additionalItems") (λ r. r.as_schema) f ⊛ keyword (codes "contains") (λ r. r.as_schema) f)
        (keyword (codes "maxItems") (by_value size_of) f) (keyword (codes "minItems") (by_value size_of) f) (keyword (codes "uniqueItems") (by_value flag_of) f)
        (taken3 (IfThere OfPlaces) (IfThere Is) (IfThere Is) (λ (k : Option ℕ → Option ℕ → Option Bool → Lists). (m : Option ℕ) (n : Option ℕ) (u : Option Bool) → OfLists (k m n u)) (Some make_lists)
        (keyword (codes "items") places_of f) (keyword (codes "additionalItems") (λ r. r.as_schema) f) (keyword (codes "contains") (λ r. r.as_schema) f)
        (λ places h rest i contains j m n u. (places_apart places h, maybe_apart rest i, maybe_apart contains j, tt)) a b c))
        tt

    named_apart : IfThere (IfThere Named_) (keyword (codes "properties") (λ r. r.as_named) f) → IfThere (IfThere Named_) (keyword (codes "patternProperties") (λ r. r.as_named) f)
        → IfThere (IfThere Is) (keyword (codes "additionalProperties") (λ r. r.as_schema) f) → IfThere (IfThere Is) (keyword (codes "propertyNames") (λ r. r.as_schema) f) → IfThere NamedIs (named_of f)
    unfolding named_of
    named_apart a b c d =
        chosen (IfThere NamedIs) (any_stands member_words f) _ _
        (passed3 NamedIs
        (Some make_named ⊛ keyword (codes "properties") (λ r. r.as_named) f ⊛ keyword (codes "patternProperties") (λ r. r.as_named) f ⊛ keyword (codes "additionalProperties") (λ r. r.as_schema) f ⊛ keyword (codes "propertyNames") (λ r. r.as_schema) f)
        (keyword (codes "maxProperties") (by_value size_of) f) (keyword (codes "minProperties") (by_value size_of) f) (keyword (codes "required") (by_value required_of) f)
        (taken4 (IfThere Named_) (IfThere Named_) (IfThere Is) (IfThere Is) (λ (k : Option ℕ → Option ℕ → Option (List (List ℕ)) → Named). (m : Option ℕ) (n : Option ℕ) (q : Option (List (List ℕ))) → NamedIs (k m n q)) (Some make_named)
        (keyword (codes "properties") (λ r. r.as_named) f) (keyword (codes "patternProperties") (λ r. r.as_named) f) (keyword (codes "additionalProperties") (λ r. r.as_schema) f) (keyword (codes "propertyNames") (λ r. r.as_schema) f)
        (λ props h patterns i rest j names k m n q. let x = names_apart_of props h in let y = names_apart_of patterns i in ((x.0, y.0, maybe_apart rest j, maybe_apart names k), λ z. (x.1 z, y.1 z))) a b c d))
        (tt, λ k. tt)

    plain_is : IfThere (λ (p : Plain). p.walk ≡ None) (plain_of f)
    unfolding plain_of
    plain_is =
        passed (λ (p : Plain). p.walk ≡ None) _ (keyword (codes "$ref") (by_value text_of) f)
        (passed3 (λ (k : Option (List ℕ) → Plain). (q : Option (List ℕ)) → (k q).walk ≡ None) _ (keyword (codes "enum") (by_value kept_list) f) (numbers_of f) (texts_of f)
        (passed3 (λ (k : Option (List Value) → Option Numbers → Option Texts → Option (List ℕ) → Plain). (e : Option (List Value)) (n : Option Numbers) (x : Option Texts) (q : Option (List ℕ)) → (k e n x q).walk ≡ None) _
        (keyword (codes "const") (by_value kept) f) (keyword (codes "type") (by_value types_of) f) (keyword (codes "format") (by_value text_of) f)
        (passed3 (λ (k : Option Value → Option Types → Option (List ℕ) → Option (List Value) → Option Numbers → Option Texts → Option (List ℕ) → Plain). (c : Option Value) (y : Option Types) (o : Option (List ℕ)) (e : Option (List Value)) (n : Option Numbers) (x : Option Texts) (q : Option (List ℕ)) → (k c y o e n x q).walk ≡ None)
        (Some make_plain) (keyword (codes "title") (by_value text_of) f) (keyword (codes "description") (by_value text_of) f) (keyword (codes "default") (by_value kept) f)
        (λ t d v c y o e n x q. refl))))

    object_of : IfThere OfSame (same_of f) → IfThere OfLists (lists_of f) → IfThere NamedIs (named_of f) → IfThere Is (schema_of f)
    unfolding schema_of
    object_of a b c =
        taken4 (λ (p : Plain). p.walk ≡ None) OfSame OfLists NamedIs Is (Some (λ (p : Plain) (ss : Same) (ls : Lists) (ns : Named). object p ss ls ns)) (plain_of f) (same_of f) (lists_of f) (named_of f)
        (λ p h ss i ls j ns k. (at p ns h k.1, i, j, k.0)) plain_is a b c

  -- each keyword of an object
  object_apart : (ms : Members) → ((n : List ℕ) → FollowsMaybe (member_at n ms)) → IfThere Is (schema_of (lookup_of (member_readings ms)))
  object_apart ms g =
      let look = lookup_of (member_readings ms) in
      object_of look
      (same_apart look
      (at_keyword ms (codes "allOf") (λ r. option_and_then unless_empty r.as_list) All at_some_schemas (g (codes "allOf")))
      (at_keyword ms (codes "anyOf") (λ r. r.as_list) All (λ v h. h.as_list) (g (codes "anyOf")))
      (at_keyword ms (codes "oneOf") (λ r. r.as_list) All (λ v h. h.as_list) (g (codes "oneOf")))
      (at_keyword ms (codes "not") (λ r. r.as_schema) Is (λ v h. h.as_schema) (g (codes "not"))))
      (lists_apart look
      (at_keyword ms (codes "items") places_of OfPlaces at_items (g (codes "items")))
      (at_keyword ms (codes "additionalItems") (λ r. r.as_schema) Is (λ v h. h.as_schema) (g (codes "additionalItems")))
      (at_keyword ms (codes "contains") (λ r. r.as_schema) Is (λ v h. h.as_schema) (g (codes "contains"))))
      (named_apart look
      (at_keyword ms (codes "properties") (λ r. r.as_named) Named_ (λ v h. h.as_named) (g (codes "properties")))
      (at_keyword ms (codes "patternProperties") (λ r. r.as_named) Named_ (λ v h. h.as_named) (g (codes "patternProperties")))
      (at_keyword ms (codes "additionalProperties") (λ r. r.as_schema) Is (λ v h. h.as_schema) (g (codes "additionalProperties")))
      (at_keyword ms (codes "propertyNames") (λ r. r.as_schema) Is (λ v h. h.as_schema) (g (codes "propertyNames"))))

  -- ---- each value

  -- and another name that doesn't stand there is none of theirs
  abbrev AllNamed : Members → Properties → Type 0
  AllNamed ms ps = OfProperties ps × (K → (differ (names_of ps) ≡ true) × ((n : List ℕ) → has_name n ms ≡ false → list_all (λ m. not (bytes_eq n m)) (names_of ps) ≡ true))

  abbrev NamedApart : Members → Type 0
  NamedApart ms = IfThere (AllNamed ms) (properties_of (member_readings ms))

  one_named : (n : List ℕ) (v : Value) (ms : Members) → (K → has_name n ms ≡ false) → Follows v → NamedApart ms → NamedApart (member n v ms)
  one_named n v ms d g h =
      taken2 Is (AllNamed ms) (AllNamed (member n v ms)) (Some (λ (s : Schema) (ps : Properties). property n s ps)) (reading v).as_schema (properties_of (member_readings ms))
      (λ s x ps y. ((x, y.0), λ z. ((λ i. (y.1 z).1 n (d z) i && (y.1 z).0 i), λ m w. later m ps (y.1 z).1 w))) g.as_schema h
    where
      later : (k : List ℕ) (ps : Properties) → ((n : List ℕ) → has_name n ms ≡ false → list_all (λ m. not (bytes_eq n m)) (names_of ps) ≡ true) → (bytes_eq k n || has_name k ms) ≡ false → (not (bytes_eq k n) && list_all (λ m. not (bytes_eq k m)) (names_of ps)) ≡ true
      later k ps f z = by (bytes_eq k n) z
        where
          by : (b : Bool) → (b || has_name k ms) ≡ false → (not b && list_all (λ m. not (bytes_eq k m)) (names_of ps)) ≡ true
          by true z = absurd (true≢false z)
          by false z = f k z

  named_only : (ms : Members) → NamedApart ms → IfThere Named_ (properties_of (member_readings ms))
  named_only ms h = by (properties_of (member_readings ms)) h
    where
      by : (o : Option Properties) → IfThere (AllNamed ms) o → IfThere Named_ o
      by None h = tt
      by (Some ps) h = (h.0, λ k. (h.1 k).0)

  mutual
    follows : (v : Value) → (K → ValueNamesDiffer v) → Follows v
    follows null h = record { as_schema = tt; as_list = tt; as_named = tt }
    follows (value.boolean b) h = record { as_schema = tt; as_list = tt; as_named = tt }
    follows (number z) h = record { as_schema = tt; as_list = tt; as_named = tt }
    follows fraction h = record { as_schema = tt; as_list = tt; as_named = tt }
    follows (text s) h = record { as_schema = tt; as_list = tt; as_named = tt }
    follows (list xs) h = record { as_schema = tt; as_list = follows_items xs h; as_named = tt }
    follows (value.object ms) h = record { as_schema = object_apart ms (follows_at ms h); as_list = tt; as_named = named_only ms (follows_members ms h) }

    follows_items : (vs : Items) → (K → NamesOfItemsDiffer vs) → IfThere All (schemas_of (item_readings vs))
    follows_items no_items h = tt
    follows_items (item v vs) h = taken2 Is All All (Some (λ (s : Schema) (ss : Schemas). schema s ss)) (reading v).as_schema (schemas_of (item_readings vs)) (λ s x ss y. (x, y)) (follows v (λ k. (h k).0)).as_schema (follows_items vs (λ k. (h k).1))

    follows_members : (ms : Members) → (K → MembersDiffer ms) → NamedApart ms
    follows_members no_members h = (tt, λ k. (refl, λ n z. refl))
    follows_members (member n v ms) h = one_named n v ms (λ k. (h k).0) (follows v (λ k. (h k).1)) (follows_members ms (λ k. (h k).2))

    follows_at : (ms : Members) → (K → MembersDiffer ms) → (n : List ℕ) → FollowsMaybe (member_at n ms)
    follows_at no_members h n = tt
    follows_at (member k v ms) h n = chosen FollowsMaybe (bytes_eq n k) (Some v) (member_at n ms) (follows v (λ k. (h k).1)) (follows_at ms (λ k. (h k).2) n)

  -- ---- documents

  inserted : (e : Definition) (ds : List Definition) → Is e.body → OfDefinitions ds → IfThere OfDefinitions (with_definition e ds)
  inserted e [] h g = (h, tt)
  inserted e (d ∷ ds) h g = by_order (slice_cmp nat_cmp e.name d.name) (with_definition e ds) (inserted e ds h g.1)
    where
      by_order : (c : Ordering) (o : Option (List Definition)) → IfThere OfDefinitions o → IfThere OfDefinitions (match_ordering c (Some (e ∷ d ∷ ds)) None (option_map (λ es. d ∷ es) o))
      by_order Less o i = (h, g)
      by_order Equal o i = tt
      by_order Greater o i = mapped OfDefinitions OfDefinitions (λ es. d ∷ es) o i (λ es j. (g.0, j))

  inserted_all : (b : Bool) (ps : Properties) (o : Option (List Definition)) → OfProperties ps → IfThere OfDefinitions o → IfThere OfDefinitions (with_definitions b ps o)
  inserted_all b no_properties o h g = g
  inserted_all b (property k s ps) o h g =
      followed OfDefinitions OfDefinitions (with_definition (record { name = k; under_defs = b; body = s })) (with_definitions b ps o) (inserted_all b ps o h.1 g)
      (λ ds i. inserted (record { name = k; under_defs = b; body = s }) ds h.0 i)

  joined_apart : (x y : Option Properties) → IfThere Named_ x → IfThere Named_ y → IfThere OfDefinitions (joined x y)
  joined_apart x y h g =
      inserted_all true (unwrap_or y no_properties) (with_definitions false (unwrap_or x no_properties) (Some [])) (names_apart_of y g).0
      (inserted_all false (unwrap_or x no_properties) (Some []) (names_apart_of x h).0 tt)

  definitions_apart : (f : Lookup) → IfThere (IfThere Named_) (keyword (codes "definitions") (λ r. r.as_named) f) → IfThere (IfThere Named_) (keyword (codes "$defs") (λ r. r.as_named) f) → IfThere OfDefinitions (definitions_of f)
  unfolding definitions_of
  definitions_apart f h g =
      flattened OfDefinitions (Some joined ⊛ keyword (codes "definitions") (λ r. r.as_named) f ⊛ keyword (codes "$defs") (λ r. r.as_named) f)
      (taken2 (IfThere Named_) (IfThere Named_) (IfThere OfDefinitions) (Some joined) (keyword (codes "definitions") (λ r. r.as_named) f) (keyword (codes "$defs") (λ r. r.as_named) f)
      (λ x i y j. joined_apart x y i j) h g)

  pub document_apart : (setting : Setting) (v : Value) → (K → ValueNamesDiffer v) → IfThere OfDocument (document_of setting v)
  unfolding document_of
  document_apart setting null h = tt
  document_apart setting (value.boolean b) h = (tt, tt)
  document_apart setting (number z) h = tt
  document_apart setting fraction h = tt
  document_apart setting (text s) h = tt
  document_apart setting (list xs) h = tt
  document_apart setting (value.object ms) h =
      let g = follows_at ms h in
      taken2 Is OfDefinitions OfDocument (Some (make_document setting)) (schema_of (lookup_of (member_readings ms))) (definitions_of (lookup_of (member_readings ms))) (λ s i ds j. (i, j))
      (object_apart ms g)
      (definitions_apart (lookup_of (member_readings ms))
      (at_keyword ms (codes "definitions") (λ r. r.as_named) Named_ (λ v h. h.as_named) (g (codes "definitions")))
      (at_keyword ms (codes "$defs") (λ r. r.as_named) Named_ (λ v h. h.as_named) (g (codes "$defs"))))

-- ---- what a reference leads to

none-is : {X : Type 0} (x : X) → None ≡ Some x → ⊥
none-is x e = cc

some-is : {X : Type 0} (x y : X) → Some x ≡ Some y → x ≡ y
some-is x y e = cc

module _ (At : Plain → Named → Type 0) where
  of-definition : (n : List ℕ) (ds : List Definition) (t : Schema) → EachInDefinitions At of_any_size ds → option_map (λ e. e.body) (defined n ds) ≡ Some t → EachSchema At of_any_size t
  of-definition n [] t h e = absurd (none-is t e)
  of-definition n (x ∷ ds) t h e = by (bytes_eq n x.name) e (λ g. of-definition n ds t h.1 g)
    where
      by : (b : Bool) → option_map (λ (y : Definition). y.body) (if b then Some x else defined n ds) ≡ Some t → (option_map (λ (y : Definition). y.body) (defined n ds) ≡ Some t → EachSchema At of_any_size t) → EachSchema At of_any_size t
      by true g rec = subst (λ u. EachSchema At of_any_size u) (some-is x.body t g) h.0
      by false g rec = rec g

  of-target : (d : Document) → EachInDocument At of_any_size d → (q : List ℕ) (t : Schema) → target d q ≡ Some t → EachSchema At of_any_size t
  of-target d h q t e = by (is_root_reference q) e
    where
      named : (n : Option (List ℕ)) → option_map (λ (y : Definition). y.body) (defined_as d n) ≡ Some t → EachSchema At of_any_size t
      named None g = absurd (none-is t g)
      named (Some n) g = of-definition n d.definitions t h.1 g

      by : (b : Bool) → (if b then Some d.root else option_map (λ (y : Definition). y.body) (defined_as d (definition_name q))) ≡ Some t → EachSchema At of_any_size t
      by true g = subst (λ u. EachSchema At of_any_size u) (some-is d.root t g) h.0
      by false g = named (definition_name q) g

-- ---- documents that were read

abbrev NoWalk : Plain → Named → Type 0
NoWalk p ns = p.walk ≡ None

short-plain : (most : ℕ) (p : Plain) (ns : Named) → p.walk ≡ None → HasShort most p ns
short-plain most p ns e = subst (λ w. IsShortOrNone most w) (sym e) tt

module _ (most : ℕ) where
  own : (s : Schema) → EachSchema NoWalk of_any_size s → walk_in s ≡ None
  own (tree.boolean b) h = refl
  own (object p ss ls ns) h = h.0

  all-own : (ds : List Definition) → EachInDefinitions (HasShort most) of_any_size ds → EachInDefinitions NoWalk of_any_size ds → AllByRecursion (λ e. IsFreshSchema most e.body) ds
  all-own [] h g = tt
  all-own (e ∷ ds) h g = ((h.0, own e.body g.0), all-own ds h.1 g.1)

there : {A : Type 0} (P : A → Type 0) (o : Option A) (x : A) → o ≡ Some x → IfThere P o → P x
there P o x e h = subst (λ o. IfThere P o) e h

no-premise : {X : Type 0} → ⊥ → X
no-premise x = absurd x

pub read_is_fresh : ReadIsFresh
read_is_fresh setting v d e most =
    let h = there (EachInDocument (HasShort most) of_any_size) (document_of setting v) d e (document_apart ⊥ (HasShort most) (λ p ns e f. short-plain most p ns e) setting v no-premise) in
    let g = there (EachInDocument NoWalk of_any_size) (document_of setting v) d e (document_apart ⊥ NoWalk (λ p ns e f. e) setting v no-premise) in
    record { targets = of-target (HasShort most) d h; root = (h.0, own most d.root g.0); definitions = all-own most d.definitions h.1 g.1 }

-- each definition is found by its name, as names rise
module _ (ds : List Definition) (rise : NamesRise (map (λ e. e.name) ds)) where
  all-found : (es : List Definition) → ((x : Definition) → Contains es x → Contains ds x) → EachInDefinitions IsBare of_any_size es → AllByRecursion (λ e. EachSchema IsBare of_any_size e.body × (defined e.name ds ≡ Some e)) es
  all-found [] w h = tt
  all-found (e ∷ es) w h = ((h.0, found ds rise e (w e (first_in e es))), all-found es (λ x c. w x (rest_in e es x c)) h.1)

pub read_is_bare : ReadIsBare
read_is_bare setting v d e differs =
    let h = there (EachInDocument IsBare of_any_size) (document_of setting v) d e (document_apart (Unit {0}) IsBare (λ p ns e f. (e, f tt)) setting v (λ k. differs)) in
    record { root = h.0; definitions = all-found d.definitions (definitions_rise setting v d e) d.definitions (λ x c. c) h.1; targets = of-target IsBare d h }
