-- A value of whose schemas nothing is told is read as a document whose schemas have the keywords that this says.
use Rattle.std.proofs.Common.{ℕ, ◌≡◌, suc, List, [], ◌∷◌, map, Option, Some, None, option_map, Ordering, Less, Equal, Greater, Bool, true, false, bytes_eq, refl, sym, subst, ◌∙◌}
use Rattle.std.specs.Prelude.{unwrap_or, option_and_then, codes, if◌then◌else◌}
use Rattle.std.specs.List.{flat_map}
use Rattle.std.specs.Ordering.{nat_cmp, match_ordering}
use Rattle.std.specs.Cmp.Lexicographic.{slice_cmp}
use Rattle.json_value.specs.Value as value
use Rattle.json_value.specs.Value.{Value, Items, Members, null, number, fraction, text, list, item, no_items, member, no_members, member_at}
use Rattle.schema_defs.specs.Location.{place}
use Rattle.schema_defs.specs.Schema as tree
use Rattle.schema_defs.specs.Schema.{Plain, Schema, object, Same, Lists, Named, MaybeSchema, MaybeSchemas, Schemas, no_more, schema, Places, each_item, by_place, Properties, no_properties, property, Definition, Document}
use Rattle.schema_defs.specs.declared.Setting.{Setting}
use Rattle.schema_defs.specs.Read.{◌⊛◌, Reading, Lookup, lookup_of, reading, item_readings, member_readings, optional, keyword, by_value, any_stands, flag_of, size_of, names_of, unless_empty, places_of, maybe_schema, maybe_list, same_words, condition_words, list_words, member_words, make_same, make_lists, make_named, plain_of, same_of, lists_of, named_of, schema_of, schemas_of, properties_of, with_definition, with_definitions, joined, definitions_of, make_document, document_of}
use Rattle.schema_defs.proofs.Unknown.{keywords_are_members}
use Rattle.schema_faults.specs.declared.keyword.Holds.{Holds}
use Rattle.schema_faults.specs.declared.keyword.Holds.TheVariants.{Schema as OneSchema, SomeSchemas, Schemas as ManySchemas, SchemaOrSchemas, NamedSchemas, Defs, Definitions}
use Rattle.schema_faults.specs.Keywords.{Row, keywords, is_known_at}
use Rattle.schema_faults.specs.Schemas as nodes
use Rattle.schema_faults.specs.Schemas.{Node, under, held, held_items, held_members, nodes_in, nodes_at, nodes_of, list_nodes, object_nodes, schema_nodes}
use Rattle.schema_faults.specs.Faults.{Told}
use Rattle.schema_faults.proofs.Walk.{held_at-member}
use Rattle.schema_faults.proofs.Readings.{is_empty, quiet, quiet-append, quiet-under}
use Rattle.schema_faults.proofs.Objects.{AllTrue, and_left, and_right}
use Rattle.schema_laws.proofs.Options.{IfThere, chosen, mapped, followed, flattened, passed3, taken2, taken3, taken4}
use Rattle.each_schema.specs.Each.{EachSchema, EachInSame, EachInLists, EachInNamed, EachInMaybe, EachInList, EachInAll, EachInPlaces, EachInProperties, EachInDefinitions, EachInDocument, of_any_size}

-- `told` is told of each schema without them
module _ (At : Plain → Type 0) (told : Told)
    (own_keywords : (at_root : Bool) (k : List ℕ) (ms : Members) → is_empty (told at_root k (value.object ms)) ≡ true → IfThere At (plain_of (lookup_of (member_readings ms)))) where
  abbrev Here : Plain → Named → Type 0
  Here p ns = At p

  abbrev Is : Schema → Type 0
  Is = EachSchema Here of_any_size

  abbrev IsSame : Same → Type 0
  IsSame = EachInSame Here of_any_size

  abbrev IsLists : Lists → Type 0
  IsLists = EachInLists Here of_any_size

  abbrev IsNamed : Named → Type 0
  IsNamed = EachInNamed Here of_any_size

  abbrev IsMaybe : MaybeSchema → Type 0
  IsMaybe = EachInMaybe Here of_any_size

  abbrev IsList : MaybeSchemas → Type 0
  IsList = EachInList Here of_any_size

  abbrev IsAll : Schemas → Type 0
  IsAll = EachInAll Here of_any_size

  abbrev IsPlaces : Places → Type 0
  IsPlaces = EachInPlaces Here of_any_size

  abbrev IsProperties : Properties → Type 0
  IsProperties = EachInProperties Here of_any_size

  abbrev OfDefinitions : List Definition → Type 0
  OfDefinitions = EachInDefinitions Here of_any_size

  abbrev OfDocument : Document → Type 0
  OfDocument = EachInDocument Here of_any_size

  abbrev IsQuiet : List Node → Type 0
  IsQuiet ns = quiet told ns ≡ true

  -- ---- keywords

  -- what a value is read as, where nothing is told of the schemas in it
  record Follows (v : Value) : Type 0 where
    as_schema : (k : List ℕ) → IsQuiet ((held v).nodes k) → IfThere Is (reading v).as_schema
    as_list : (k : List ℕ) → IsQuiet ((held v).in_list k) → IfThere IsAll (reading v).as_list
    as_named : (k : List ℕ) → IsQuiet ((held v).in_object k) → IfThere IsProperties (reading v).as_named

  abbrev FollowsMaybe : Option Value → Type 0
  FollowsMaybe None = Unit {0}
  FollowsMaybe (Some v) = Follows v

  -- what a keyword is read as has them
  abbrev HasAt : {A : Type 0} (k : List ℕ) (h : Holds) → (Reading → Option A) → (A → Type 0) → Type 0
  HasAt k h f Q = (v : Value) → Follows v → IsQuiet (nodes_in (k, h) (held v)) → IfThere Q (f (reading v))

  at_schema : (k : List ℕ) → HasAt k OneSchema (λ r. r.as_schema) Is
  at_schema k null g q = tt
  at_schema k (value.boolean b) g q = g.as_schema k q
  at_schema k (number z) g q = tt
  at_schema k fraction g q = tt
  at_schema k (text s) g q = tt
  at_schema k (list xs) g q = tt
  at_schema k (value.object ms) g q = g.as_schema k q

  at_schemas : (k : List ℕ) → HasAt k ManySchemas (λ r. r.as_list) IsAll
  at_schemas k v g q = g.as_list k q

  filled : (ss : Schemas) → IsAll ss → IfThere IsAll (unless_empty ss)
  filled no_more h = tt
  filled (schema s ss) h = h

  at_some_schemas : (k : List ℕ) → HasAt k SomeSchemas (λ r. option_and_then unless_empty r.as_list) IsAll
  at_some_schemas k v g q = followed IsAll IsAll unless_empty (reading v).as_list (g.as_list k q) filled

  at_named : (k : List ℕ) → HasAt k NamedSchemas (λ r. r.as_named) IsProperties
  at_named k v g q = g.as_named k q

  at_definitions : (k : List ℕ) → HasAt k Definitions (λ r. r.as_named) IsProperties
  at_definitions k v g q = g.as_named k q

  at_defs : (k : List ℕ) → HasAt k Defs (λ r. r.as_named) IsProperties
  at_defs k v g q = g.as_named k q

  as_one : (o : Option Schema) → IfThere Is o → IfThere IsPlaces (elim o [ Some s ↦ Some (each_item s) | None ↦ option_map by_place None ])
  as_one None h = tt
  as_one (Some s) h = h

  at_items : (k : List ℕ) → HasAt k SchemaOrSchemas places_of IsPlaces
  at_items k null g q = tt
  at_items k (value.boolean b) g q = tt
  at_items k (number z) g q = tt
  at_items k fraction g q = tt
  at_items k (text s) g q = tt
  at_items k (list xs) g q = mapped IsAll IsPlaces by_place (reading (list xs)).as_list (g.as_list k q) (λ ss h. h)
  at_items k (value.object ms) g q =
      as_one (reading (value.object ms)).as_schema
      (g.as_schema k (and_left (quiet told ((held (value.object ms)).nodes k)) (quiet told []) (sym (quiet-append told ((held (value.object ms)).nodes k) []) ∙ q)))

  module _ {A : Type 0} (ms : Members) (k : List ℕ) (h : Holds) (f : Reading → Option A) (Q : A → Type 0) (read : HasAt k h f Q) where
    at_member : (o : Option Value) → FollowsMaybe o → IsQuiet (nodes_at (k, h) (option_map held o)) → IfThere (IfThere Q) (optional f (option_map reading o))
    at_member None g q = tt
    at_member (Some v) g q = mapped Q (IfThere Q) Some (f (reading v)) (read v g (sym (quiet-under told k (nodes_in (k, h) (held v))) ∙ q)) (λ x h. h)

    at_keyword : (b : Bool) → is_known_at b h ≡ true → FollowsMaybe (member_at k ms) → IsQuiet (nodes_of b (held_members ms) (k, h)) → IfThere (IfThere Q) (keyword k f (lookup_of (member_readings ms)))
    at_keyword b known g q =
        subst (λ o. IfThere (IfThere Q) (optional f o)) (sym (keywords_are_members k ms))
        (at_member (member_at k ms) g (sym (λ i. quiet told (if known i then nodes_at (k, h) (held_at-member k ms i) else [])) ∙ q))

  rows : (g : Row → List Node) (rs : List Row) → IsQuiet (flat_map g rs) → AllTrue (map (λ r. quiet told (g r)) rs)
  rows g [] h = tt
  rows g (r ∷ rs) h =
      let e = sym (quiet-append told (g r) (flat_map g rs)) ∙ h in
      (and_left (quiet told (g r)) (quiet told (flat_map g rs)) e, rows g rs (and_right (quiet told (g r)) (quiet told (flat_map g rs)) e))

  -- ---- an object

  maybe_has : (o : Option Schema) → IfThere Is o → IsMaybe (maybe_schema o)
  maybe_has None h = tt
  maybe_has (Some s) h = h

  list_has : (o : Option Schemas) → IfThere IsAll o → IsList (maybe_list o)
  list_has None h = tt
  list_has (Some ss) h = h

  places_has : (o : Option Places) → IfThere IsPlaces o → IsPlaces (unwrap_or o tree.no_items)
  places_has None h = tt
  places_has (Some ps) h = h

  names_has : (o : Option Properties) → IfThere IsProperties o → IsProperties (unwrap_or o no_properties)
  names_has None h = tt
  names_has (Some ps) h = h

  module _ (f : Lookup) where
    same_has : IfThere (IfThere IsAll) (keyword (codes "allOf") (λ r. option_and_then unless_empty r.as_list) f) → IfThere (IfThere IsAll) (keyword (codes "anyOf") (λ r. r.as_list) f)
        → IfThere (IfThere IsAll) (keyword (codes "oneOf") (λ r. r.as_list) f) → IfThere (IfThere Is) (keyword (codes "not") (λ r. r.as_schema) f) → IfThere IsSame (same_of f)
    unfolding same_of
    same_has a b c d =
        chosen (IfThere IsSame) (any_stands same_words f) _ _
        (taken4 (IfThere IsAll) (IfThere IsAll) (IfThere IsAll) (IfThere Is) IsSame (Some (make_same (any_stands condition_words f)))
        (keyword (codes "allOf") (λ r. option_and_then unless_empty r.as_list) f) (keyword (codes "anyOf") (λ r. r.as_list) f) (keyword (codes "oneOf") (λ r. r.as_list) f) (keyword (codes "not") (λ r. r.as_schema) f)
        (λ all h any i one j none k. (list_has all h, list_has any i, list_has one j, maybe_has none k)) a b c d)
        tt

    lists_has : IfThere (IfThere IsPlaces) (keyword (codes "items") places_of f) → IfThere (IfThere Is) (keyword (codes "additionalItems") (λ r. r.as_schema) f)
        → IfThere (IfThere Is) (keyword (codes "contains") (λ r. r.as_schema) f) → IfThere IsLists (lists_of f)
    unfolding lists_of
    lists_has a b c =
        chosen (IfThere IsLists) (any_stands list_words f) _ _
        (passed3 IsLists (Some make_lists ⊛ keyword (codes "items") places_of f ⊛ keyword (codes "additionalItems") (λ r. r.as_schema) f ⊛ keyword (codes "contains") (λ r. r.as_schema) f)
        (keyword (codes "maxItems") (by_value size_of) f) (keyword (codes "minItems") (by_value size_of) f) (keyword (codes "uniqueItems") (by_value flag_of) f)
        (taken3 (IfThere IsPlaces) (IfThere Is) (IfThere Is) (λ (k : Option ℕ → Option ℕ → Option Bool → Lists). (m : Option ℕ) (n : Option ℕ) (u : Option Bool) → IsLists (k m n u)) (Some make_lists)
        (keyword (codes "items") places_of f) (keyword (codes "additionalItems") (λ r. r.as_schema) f) (keyword (codes "contains") (λ r. r.as_schema) f)
        (λ places h rest i contains j m n u. (places_has places h, maybe_has rest i, maybe_has contains j, tt)) a b c))
        tt

    named_has : IfThere (IfThere IsProperties) (keyword (codes "properties") (λ r. r.as_named) f) → IfThere (IfThere IsProperties) (keyword (codes "patternProperties") (λ r. r.as_named) f)
        → IfThere (IfThere Is) (keyword (codes "additionalProperties") (λ r. r.as_schema) f) → IfThere (IfThere Is) (keyword (codes "propertyNames") (λ r. r.as_schema) f) → IfThere IsNamed (named_of f)
    unfolding named_of
    named_has a b c d =
        chosen (IfThere IsNamed) (any_stands member_words f) _ _
        (passed3 IsNamed
        (Some make_named ⊛ keyword (codes "properties") (λ r. r.as_named) f ⊛ keyword (codes "patternProperties") (λ r. r.as_named) f ⊛ keyword (codes "additionalProperties") (λ r. r.as_schema) f ⊛ keyword (codes "propertyNames") (λ r. r.as_schema) f)
        (keyword (codes "maxProperties") (by_value size_of) f) (keyword (codes "minProperties") (by_value size_of) f) (keyword (codes "required") (by_value names_of) f)
        (taken4 (IfThere IsProperties) (IfThere IsProperties) (IfThere Is) (IfThere Is)
        (λ (k : Option ℕ → Option ℕ → Option (List (List ℕ)) → Named). (m : Option ℕ) (n : Option ℕ) (u : Option (List (List ℕ))) → IsNamed (k m n u)) (Some make_named)
        (keyword (codes "properties") (λ r. r.as_named) f) (keyword (codes "patternProperties") (λ r. r.as_named) f) (keyword (codes "additionalProperties") (λ r. r.as_schema) f) (keyword (codes "propertyNames") (λ r. r.as_schema) f)
        (λ props h patterns i rest j names k m n u. (names_has props h, names_has patterns i, maybe_has rest j, maybe_has names k)) a b c d))
        tt

    whole_has : IfThere At (plain_of f) → IfThere IsSame (same_of f) → IfThere IsLists (lists_of f) → IfThere IsNamed (named_of f) → IfThere Is (schema_of f)
    unfolding schema_of
    whole_has a b c d =
        taken4 At IsSame IsLists IsNamed Is (Some (λ (r : Plain) (ss : Same) (ls : Lists) (ns : Named). object r ss ls ns)) (plain_of f) (same_of f) (lists_of f) (named_of f)
        (λ r h ss i ls j ns k. (h, i, j, k)) a b c d

  module _ (ms : Members) (g : (n : List ℕ) → FollowsMaybe (member_at n ms)) where
    abbrev look : Lookup
    look = lookup_of (member_readings ms)

    from_rows : (b : Bool) (k : List ℕ) → is_empty (told b k (value.object ms)) ≡ true → AllTrue (map (λ r. quiet told (nodes_of b (held_members ms) r)) keywords) → IfThere Is (schema_of look)
    from_rows b k own h =
        whole_has look
        (own_keywords b k ms own)
        (same_has look
        (at_keyword ms (codes "allOf") SomeSchemas (λ r. option_and_then unless_empty r.as_list) IsAll (at_some_schemas (codes "allOf")) b refl (g (codes "allOf")) h.1.1.1.1.0)
        (at_keyword ms (codes "anyOf") ManySchemas (λ r. r.as_list) IsAll (at_schemas (codes "anyOf")) b refl (g (codes "anyOf")) h.1.1.1.1.1.0)
        (at_keyword ms (codes "oneOf") ManySchemas (λ r. r.as_list) IsAll (at_schemas (codes "oneOf")) b refl (g (codes "oneOf")) h.1.1.1.1.1.1.1.1.1.1.1.1.1.1.1.1.1.1.1.1.1.1.1.1.1.1.0)
        (at_keyword ms (codes "not") OneSchema (λ r. r.as_schema) Is (at_schema (codes "not")) b refl (g (codes "not")) h.1.1.1.1.1.1.1.1.1.1.1.1.1.1.1.1.1.1.1.1.1.1.1.1.1.0))
        (lists_has look
        (at_keyword ms (codes "items") SchemaOrSchemas places_of IsPlaces (at_items (codes "items")) b refl (g (codes "items")) h.1.1.1.1.1.1.1.1.1.1.1.1.1.1.1.0)
        (at_keyword ms (codes "additionalItems") OneSchema (λ r. r.as_schema) Is (at_schema (codes "additionalItems")) b refl (g (codes "additionalItems")) h.1.1.0)
        (at_keyword ms (codes "contains") OneSchema (λ r. r.as_schema) Is (at_schema (codes "contains")) b refl (g (codes "contains")) h.1.1.1.1.1.1.1.0))
        (named_has look
        (at_keyword ms (codes "properties") NamedSchemas (λ r. r.as_named) IsProperties (at_named (codes "properties")) b refl (g (codes "properties")) h.1.1.1.1.1.1.1.1.1.1.1.1.1.1.1.1.1.1.1.1.1.1.1.1.1.1.1.1.1.0)
        (at_keyword ms (codes "patternProperties") NamedSchemas (λ r. r.as_named) IsProperties (at_named (codes "patternProperties")) b refl (g (codes "patternProperties")) h.1.1.1.1.1.1.1.1.1.1.1.1.1.1.1.1.1.1.1.1.1.1.1.1.1.1.1.1.0)
        (at_keyword ms (codes "additionalProperties") OneSchema (λ r. r.as_schema) Is (at_schema (codes "additionalProperties")) b refl (g (codes "additionalProperties")) h.1.1.1.0)
        (at_keyword ms (codes "propertyNames") OneSchema (λ r. r.as_schema) Is (at_schema (codes "propertyNames")) b refl (g (codes "propertyNames")) h.1.1.1.1.1.1.1.1.1.1.1.1.1.1.1.1.1.1.1.1.1.1.1.1.1.1.1.1.1.1.0))

    object_has : (b : Bool) (k : List ℕ) → IsQuiet (schema_nodes b k (value.object ms)) → IfThere Is (schema_of look)
    object_has b k q =
        from_rows b k (and_left (is_empty (told b k (value.object ms))) (quiet told (flat_map (nodes_of b (held_members ms)) keywords)) q)
        (rows (nodes_of b (held_members ms)) keywords (and_right (is_empty (told b k (value.object ms))) (quiet told (flat_map (nodes_of b (held_members ms)) keywords)) q))

  -- ---- each value

  abbrev ListHas : Items → Type 0
  ListHas vs = (k : List ℕ) (i : ℕ) → IsQuiet (list_nodes k i (held_items vs)) → IfThere IsAll (schemas_of (item_readings vs))

  abbrev NamedHas : Members → Type 0
  NamedHas ms = (k : List ℕ) → IsQuiet (object_nodes k (held_members ms)) → IfThere IsProperties (properties_of (member_readings ms))

  one_more : (v : Value) (vs : Items) → Follows v → ListHas vs → ListHas (item v vs)
  one_more v vs g h k i q =
      let e = sym (quiet-append told (under (place i) ((held v).nodes k)) (list_nodes k (suc i) (held_items vs))) ∙ q in
      let a = and_left (quiet told (under (place i) ((held v).nodes k))) (quiet told (list_nodes k (suc i) (held_items vs))) e in
      taken2 Is IsAll IsAll (Some (λ (s : Schema) (ss : Schemas). schema s ss)) (reading v).as_schema (schemas_of (item_readings vs)) (λ s x ss y. (x, y))
      (g.as_schema k (sym (quiet-under told (place i) ((held v).nodes k)) ∙ a))
      (h k (suc i) (and_right (quiet told (under (place i) ((held v).nodes k))) (quiet told (list_nodes k (suc i) (held_items vs))) e))

  one_named : (n : List ℕ) (v : Value) (ms : Members) → Follows v → NamedHas ms → NamedHas (member n v ms)
  one_named n v ms g h k q =
      let e = sym (quiet-append told (under n ((held v).nodes k)) (object_nodes k (held_members ms))) ∙ q in
      let a = and_left (quiet told (under n ((held v).nodes k))) (quiet told (object_nodes k (held_members ms))) e in
      taken2 Is IsProperties IsProperties (Some (λ (s : Schema) (ps : Properties). property n s ps)) (reading v).as_schema (properties_of (member_readings ms)) (λ s x ps y. (x, y))
      (g.as_schema k (sym (quiet-under told n ((held v).nodes k)) ∙ a))
      (h k (and_right (quiet told (under n ((held v).nodes k))) (quiet told (object_nodes k (held_members ms))) e))

  follows_object : (ms : Members) → ((n : List ℕ) → FollowsMaybe (member_at n ms)) → NamedHas ms → Follows (value.object ms)
  follows_object ms g h = record { as_schema = λ k q. object_has ms g false k q; as_list = λ k q. tt; as_named = h }

  mutual
    follows : (v : Value) → Follows v
    follows null = record { as_schema = λ k q. tt; as_list = λ k q. tt; as_named = λ k q. tt }
    follows (value.boolean b) = record { as_schema = λ k q. tt; as_list = λ k q. tt; as_named = λ k q. tt }
    follows (number z) = record { as_schema = λ k q. tt; as_list = λ k q. tt; as_named = λ k q. tt }
    follows fraction = record { as_schema = λ k q. tt; as_list = λ k q. tt; as_named = λ k q. tt }
    follows (text s) = record { as_schema = λ k q. tt; as_list = λ k q. tt; as_named = λ k q. tt }
    follows (list xs) = record { as_schema = λ k q. tt; as_list = λ k q. follows_items xs k 0 q; as_named = λ k q. tt }
    follows (value.object ms) = follows_object ms (follows_at ms) (follows_members ms)

    follows_items : (vs : Items) → ListHas vs
    follows_items no_items = λ k i q. tt
    follows_items (item v vs) = one_more v vs (follows v) (follows_items vs)

    follows_members : (ms : Members) → NamedHas ms
    follows_members no_members = λ k q. tt
    follows_members (member n v ms) = one_named n v ms (follows v) (follows_members ms)

    follows_at : (ms : Members) (n : List ℕ) → FollowsMaybe (member_at n ms)
    follows_at no_members n = tt
    follows_at (member k v ms) n = chosen FollowsMaybe (bytes_eq n k) (Some v) (member_at n ms) (follows v) (follows_at ms n)

  -- ---- documents

  inserted : (e : Definition) (ds : List Definition) → Is e.body → OfDefinitions ds → IfThere OfDefinitions (with_definition e ds)
  inserted e [] h g = (h, tt)
  inserted e (d ∷ ds) h g = by_order (slice_cmp nat_cmp e.name d.name) (with_definition e ds) (inserted e ds h g.1)
    where
      by_order : (c : Ordering) (o : Option (List Definition)) → IfThere OfDefinitions o → IfThere OfDefinitions (match_ordering c (Some (e ∷ d ∷ ds)) None (option_map (λ es. d ∷ es) o))
      by_order Less o i = (h, g)
      by_order Equal o i = tt
      by_order Greater o i = mapped OfDefinitions OfDefinitions (λ es. d ∷ es) o i (λ es j. (g.0, j))

  inserted_all : (b : Bool) (ps : Properties) (o : Option (List Definition)) → IsProperties ps → IfThere OfDefinitions o → IfThere OfDefinitions (with_definitions b ps o)
  inserted_all b no_properties o h g = g
  inserted_all b (property k s ps) o h g =
      followed OfDefinitions OfDefinitions (with_definition (record { name = k; under_defs = b; body = s })) (with_definitions b ps o) (inserted_all b ps o h.1 g)
      (λ ds i. inserted (record { name = k; under_defs = b; body = s }) ds h.0 i)

  joined_has : (x y : Option Properties) → IfThere IsProperties x → IfThere IsProperties y → IfThere OfDefinitions (joined x y)
  joined_has x y h g =
      inserted_all true (unwrap_or y no_properties) (with_definitions false (unwrap_or x no_properties) (Some [])) (names_has y g)
      (inserted_all false (unwrap_or x no_properties) (Some []) (names_has x h) tt)

  definitions_has : (f : Lookup) → IfThere (IfThere IsProperties) (keyword (codes "definitions") (λ r. r.as_named) f) → IfThere (IfThere IsProperties) (keyword (codes "$defs") (λ r. r.as_named) f)
      → IfThere OfDefinitions (definitions_of f)
  unfolding definitions_of
  definitions_has f h g =
      flattened OfDefinitions (Some joined ⊛ keyword (codes "definitions") (λ r. r.as_named) f ⊛ keyword (codes "$defs") (λ r. r.as_named) f)
      (taken2 (IfThere IsProperties) (IfThere IsProperties) (IfThere OfDefinitions) (Some joined) (keyword (codes "definitions") (λ r. r.as_named) f) (keyword (codes "$defs") (λ r. r.as_named) f)
      (λ x i y j. joined_has x y i j) h g)

  both_has : (setting : Setting) (x : Option Schema) (y : Option (List Definition)) → IfThere Is x → IfThere OfDefinitions y → IfThere OfDocument (Some (make_document setting) ⊛ x ⊛ y)
  both_has setting x y h g = taken2 Is OfDefinitions OfDocument (Some (make_document setting)) x y (λ s i ds j. (i, j)) h g

  root_has : (ms : Members) → IsQuiet (nodes.schemas_of (value.object ms)) → IfThere OfDefinitions (definitions_of (lookup_of (member_readings ms)))
  root_has ms q =
      let h = rows (nodes_of true (held_members ms)) keywords (and_right (is_empty (told true [] (value.object ms))) (quiet told (flat_map (nodes_of true (held_members ms)) keywords)) q) in
      definitions_has (lookup_of (member_readings ms))
      (at_keyword ms (codes "definitions") Definitions (λ r. r.as_named) IsProperties (at_definitions (codes "definitions")) true refl (follows_at ms (codes "definitions")) h.1.1.1.1.1.1.1.1.1.0)
      (at_keyword ms (codes "$defs") Defs (λ r. r.as_named) IsProperties (at_defs (codes "$defs")) true refl (follows_at ms (codes "$defs")) h.0)

  -- where nothing is told of the schemas in a value, the document that it is read as has them
  pub document_has : (setting : Setting) (v : Value) → IsQuiet (nodes.schemas_of v) → IfThere OfDocument (document_of setting v)
  unfolding document_of
  document_has setting null q = tt
  document_has setting (value.boolean b) q = (tt, tt)
  document_has setting (number z) q = tt
  document_has setting fraction q = tt
  document_has setting (text s) q = tt
  document_has setting (list xs) q = tt
  document_has setting (value.object ms) q = both_has setting (schema_of (lookup_of (member_readings ms))) (definitions_of (lookup_of (member_readings ms))) (object_has ms (follows_at ms) true [] q) (root_has ms q)
