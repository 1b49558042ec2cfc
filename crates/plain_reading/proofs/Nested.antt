-- No more schemas stand in one another in a document than lists and objects do in its value, and one more.
use Rattle.std.proofs.Common.{◌≡◌, ℕ, suc, ◌≤◌, List, [], ◌∷◌, Bool, true, false, Option, Some, None, Ordering, Less, Equal, Greater, refl, subst, codes, bytes_eq, arith}
use Rattle.std.specs.Prelude.{max, if◌then◌else◌, unwrap_or, option_map}
use Rattle.std.specs.Ordering.{nat_cmp, match_ordering}
use Rattle.std.specs.Cmp.Lexicographic.{slice_cmp}
use Rattle.json_value.specs.Value as value
use Rattle.json_value.specs.Value.{Value, Items, Members, null, number, fraction, text, list, no_items, item, no_members, member}
use Rattle.schema_defs.specs.declared.Setting.{Setting}
use Rattle.schema_defs.specs.Schema as tree
use Rattle.schema_defs.specs.Schema.{Plain, Schema, object, Same, no_same, Lists, no_lists, Named, no_named, Schemas, schema, Places, each_item, by_place, Properties, no_properties, property, Definition, Document}
use Rattle.schema_defs.specs.Read.{◌⊛◌, Reading, Lookup, optional, keyword, by_value, any_stands, flag_of, size_of, names_of, unless_empty, places_of, maybe_schema, maybe_list, same_words, condition_words, list_words, member_words, make_same, make_lists, make_named, plain_of, same_of, lists_of, named_of, schema_of, reading, item_readings, member_readings, reading_at, lookup_of, schemas_of, properties_of, with_definition, with_definitions, joined, definitions_of, make_document, document_of}
use Rattle.schema_laws.proofs.Options.{IfThere, mapped, followed, flattened, turned, with_answer, taken2, taken3, taken4, passed3}
use Rattle.schema_laws.proofs.Leads.{as_schema, as_list, as_some_list, as_named, anything}
use Rattle.convert_defs.proofs.Bare.{none-some, some-same}
use Rattle.plain_laws.specs.Height.{height, same_height, lists_height, named_height, maybe_height, list_height, schemas_height, places_height, properties_height, definitions_height, document_height}
use Rattle.plain_reading.specs.Nesting.{nesting, items_nesting, members_nesting}
use Rattle.plain_reading.specs.Laws.{HeightByNesting}

-- ---- what a value may be read as, where lists and objects stand n deep in it

record Low (n : ℕ) (r : Reading) : Type 0 where
  schema : IfThere (λ s. height s ≤ suc n) r.as_schema
  list : IfThere (λ ss. schemas_height ss ≤ n) r.as_list
  named : IfThere (λ ps. properties_height ps ≤ n) r.as_named

weaker : (m n : ℕ) (r : Reading) → m ≤ n → Low m r → Low n r
weaker m n r le l = record {
  schema = turned (λ s. height s ≤ suc m) (λ s. height s ≤ suc n) r.as_schema l.schema (λ s h. omega (arith, h, le));
  list = turned (λ ss. schemas_height ss ≤ m) (λ ss. schemas_height ss ≤ n) r.as_list l.list (λ ss h. omega (arith, h, le));
  named = turned (λ ps. properties_height ps ≤ m) (λ ps. properties_height ps ≤ n) r.as_named l.named (λ ps h. omega (arith, h, le));
}

-- a keyword that may stand
at-keyword : {A : Type 0} (P : Option A → Type 0) (k : List ℕ) (f : Reading → Option A) (look : Lookup) → P None → ((r : Reading) → look k ≡ Some r → IfThere (λ x. P (Some x)) (f r)) → IfThere P (keyword k f look)
at-keyword {A} P k f look none h = by (look k) refl
  where
    by : (o : Option Reading) → look k ≡ o → IfThere P (optional f o)
    by None e = none
    by (Some r) e = mapped (λ x. P (Some x)) P Some (f r) (h r e) (λ x p. p)

by-part : {A : Type 0} (P : A → Type 0) (b : Bool) (x : Option A) (absent : A) → IfThere P x → P absent → IfThere P (if b then x else Some absent)
by-part P true x absent h g = h
by-part P false x absent h g = g

module _ (m : ℕ) (look : Lookup) (low : (k : List ℕ) (r : Reading) → look k ≡ Some r → Low m r) where
  low-list : (k : List ℕ) → IfThere (λ a. list_height (maybe_list a) ≤ suc m) (keyword k as_list look)
  low-list k =
      at-keyword (λ a. list_height (maybe_list a) ≤ suc m) k as_list look (omega (arith))
      (λ r e. turned (λ ss. schemas_height ss ≤ m) (λ ss. schemas_height ss ≤ suc m) r.as_list (low k r e).list (λ ss h. omega (arith, h)))

  low-schema : (k : List ℕ) → IfThere (λ a. maybe_height (maybe_schema a) ≤ suc m) (keyword k as_schema look)
  low-schema k = at-keyword (λ a. maybe_height (maybe_schema a) ≤ suc m) k as_schema look (omega (arith)) (λ r e. (low k r e).schema)

  low-named : (k : List ℕ) → IfThere (λ a. properties_height (unwrap_or a no_properties) ≤ suc m) (keyword k as_named look)
  low-named k =
      at-keyword (λ a. properties_height (unwrap_or a no_properties) ≤ suc m) k as_named look (omega (arith))
      (λ r e. turned (λ ps. properties_height ps ≤ m) (λ ps. properties_height ps ≤ suc m) r.as_named (low k r e).named (λ ps h. omega (arith, h)))

  low-either : (o : Option Schema) (u : Option Schemas) → IfThere (λ s. height s ≤ suc m) o → IfThere (λ ss. schemas_height ss ≤ m) u → IfThere (λ p. places_height p ≤ suc m) (elim o [ Some s ↦ Some (each_item s) | None ↦ option_map by_place u ])
  low-either (Some s) u h g = h
  low-either None None h g = tt
  low-either None (Some ss) h g = omega (arith, g)

  low-places : (k : List ℕ) → IfThere (λ a. places_height (unwrap_or a tree.no_items) ≤ suc m) (keyword k places_of look)
  low-places k =
      at-keyword (λ a. places_height (unwrap_or a tree.no_items) ≤ suc m) k places_of look (omega (arith))
      (λ r e. let l = low k r e in low-either r.as_schema r.as_list l.schema l.list)

  low-same : IfThere (λ ss. same_height ss ≤ suc m) (same_of look)
  unfolding same_of
  low-same =
      by-part (λ ss. same_height ss ≤ suc m) (any_stands same_words look)
      (Some (make_same (any_stands condition_words look)) ⊛ keyword (codes "allOf") as_some_list look ⊛ keyword (codes "anyOf") as_list look ⊛ keyword (codes "oneOf") as_list look ⊛ keyword (codes "not") as_schema look)
      no_same
      (taken4 (λ (a : Option Schemas). Unit {0}) (λ (a : Option Schemas). list_height (maybe_list a) ≤ suc m) (λ (a : Option Schemas). list_height (maybe_list a) ≤ suc m) (λ (a : Option Schema). Unit {0}) (λ (ss : Same). same_height ss ≤ suc m)
      (Some (make_same (any_stands condition_words look)))
      (keyword (codes "allOf") as_some_list look) (keyword (codes "anyOf") as_list look) (keyword (codes "oneOf") as_list look) (keyword (codes "not") as_schema look)
      (λ all u any h one g none w. omega (arith, h, g))
      (anything (keyword (codes "allOf") as_some_list look)) (low-list (codes "anyOf")) (low-list (codes "oneOf")) (anything (keyword (codes "not") as_schema look)))
      (omega (arith))

  low-lists : IfThere (λ ls. lists_height ls ≤ suc m) (lists_of look)
  unfolding lists_of
  low-lists =
      by-part (λ ls. lists_height ls ≤ suc m) (any_stands list_words look)
      (Some make_lists ⊛ keyword (codes "items") places_of look ⊛ keyword (codes "additionalItems") as_schema look ⊛ keyword (codes "contains") as_schema look
      ⊛ keyword (codes "maxItems") (by_value size_of) look ⊛ keyword (codes "minItems") (by_value size_of) look ⊛ keyword (codes "uniqueItems") (by_value flag_of) look)
      no_lists
      (passed3 (λ (ls : Lists). lists_height ls ≤ suc m) (Some make_lists ⊛ keyword (codes "items") places_of look ⊛ keyword (codes "additionalItems") as_schema look ⊛ keyword (codes "contains") as_schema look)
      (keyword (codes "maxItems") (by_value size_of) look) (keyword (codes "minItems") (by_value size_of) look) (keyword (codes "uniqueItems") (by_value flag_of) look)
      (taken3 (λ (a : Option Places). places_height (unwrap_or a tree.no_items) ≤ suc m) (λ (a : Option Schema). Unit {0}) (λ (a : Option Schema). Unit {0})
      (λ (k : Option ℕ → Option ℕ → Option Bool → Lists). (b : Option ℕ) (c : Option ℕ) (u : Option Bool) → lists_height (k b c u) ≤ suc m) (Some make_lists)
      (keyword (codes "items") places_of look) (keyword (codes "additionalItems") as_schema look) (keyword (codes "contains") as_schema look)
      (λ places h rest i contains j b c u. h)
      (low-places (codes "items")) (anything (keyword (codes "additionalItems") as_schema look)) (anything (keyword (codes "contains") as_schema look))))
      (omega (arith))

  low-members : IfThere (λ ns. named_height ns ≤ suc m) (named_of look)
  unfolding named_of
  low-members =
      by-part (λ ns. named_height ns ≤ suc m) (any_stands member_words look)
      (Some make_named ⊛ keyword (codes "properties") as_named look ⊛ keyword (codes "patternProperties") as_named look ⊛ keyword (codes "additionalProperties") as_schema look ⊛ keyword (codes "propertyNames") as_schema look
      ⊛ keyword (codes "maxProperties") (by_value size_of) look ⊛ keyword (codes "minProperties") (by_value size_of) look ⊛ keyword (codes "required") (by_value names_of) look)
      no_named
      (passed3 (λ (ns : Named). named_height ns ≤ suc m)
      (Some make_named ⊛ keyword (codes "properties") as_named look ⊛ keyword (codes "patternProperties") as_named look ⊛ keyword (codes "additionalProperties") as_schema look ⊛ keyword (codes "propertyNames") as_schema look)
      (keyword (codes "maxProperties") (by_value size_of) look) (keyword (codes "minProperties") (by_value size_of) look) (keyword (codes "required") (by_value names_of) look)
      (taken4 (λ (a : Option Properties). properties_height (unwrap_or a no_properties) ≤ suc m) (λ (a : Option Properties). Unit {0}) (λ (a : Option Schema). maybe_height (maybe_schema a) ≤ suc m) (λ (a : Option Schema). Unit {0})
      (λ (k : Option ℕ → Option ℕ → Option (List (List ℕ)) → Named). (b : Option ℕ) (c : Option ℕ) (u : Option (List (List ℕ))) → named_height (k b c u) ≤ suc m) (Some make_named)
      (keyword (codes "properties") as_named look) (keyword (codes "patternProperties") as_named look) (keyword (codes "additionalProperties") as_schema look) (keyword (codes "propertyNames") as_schema look)
      (λ props h patterns i rest j names l b c u. omega (arith, h, j))
      (low-named (codes "properties")) (anything (keyword (codes "patternProperties") as_named look)) (low-schema (codes "additionalProperties")) (anything (keyword (codes "propertyNames") as_schema look))))
      (omega (arith))

  low-whole : IfThere (λ s. height s ≤ suc (suc m)) (schema_of look)
  unfolding schema_of
  low-whole =
      taken4 (λ (p : Plain). Unit {0}) (λ (ss : Same). same_height ss ≤ suc m) (λ (ls : Lists). lists_height ls ≤ suc m) (λ (ns : Named). named_height ns ≤ suc m) (λ (s : Schema). height s ≤ suc (suc m))
      (Some (λ (p : Plain) (ss : Same) (ls : Lists) (ns : Named). object p ss ls ns)) (plain_of look) (same_of look) (lists_of look) (named_of look)
      (λ p u ss h ls g ns k. omega (arith, h, g, k)) (anything (plain_of look)) low-same low-lists low-members

  -- ---- definitions

  with-one : (e : Definition) (ds : List Definition) → height e.body ≤ suc m → definitions_height ds ≤ suc m → IfThere (λ es. definitions_height es ≤ suc m) (with_definition e ds)
  with-one e [] h g = omega (arith, h)
  with-one e (d ∷ ds) h g = by (slice_cmp nat_cmp e.name d.name) (with-one e ds h (omega (arith, g)))
    where
      by : (o : Ordering) → IfThere (λ es. definitions_height es ≤ suc m) (with_definition e ds)
          → IfThere (λ es. definitions_height es ≤ suc m) (match_ordering o (Some (e ∷ d ∷ ds)) None (option_map (λ es. d ∷ es) (with_definition e ds)))
      by Less k = omega (arith, h, g)
      by Equal k = tt
      by Greater k = mapped (λ es. definitions_height es ≤ suc m) (λ es. definitions_height es ≤ suc m) (λ es. d ∷ es) (with_definition e ds) k (λ es l. omega (arith, g, l))

  with-all : (b : Bool) (ps : Properties) (ds : Option (List Definition)) → properties_height ps ≤ suc m → IfThere (λ es. definitions_height es ≤ suc m) ds → IfThere (λ es. definitions_height es ≤ suc m) (with_definitions b ps ds)
  with-all b no_properties ds h g = g
  with-all b (property k s ps) ds h g =
      followed (λ es. definitions_height es ≤ suc m) (λ es. definitions_height es ≤ suc m) (with_definition (record { name = k; under_defs = b; body = s })) (with_definitions b ps ds)
      (with-all b ps ds (omega (arith, h)) g) (λ es l. with-one (record { name = k; under_defs = b; body = s }) es (omega (arith, h)) l)

  low-definitions : IfThere (λ ds. definitions_height ds ≤ suc m) (definitions_of look)
  unfolding definitions_of
  low-definitions =
      flattened (λ (ds : List Definition). definitions_height ds ≤ suc m) (Some joined ⊛ keyword (codes "definitions") as_named look ⊛ keyword (codes "$defs") as_named look)
      (taken2 (λ (a : Option Properties). properties_height (unwrap_or a no_properties) ≤ suc m) (λ (a : Option Properties). properties_height (unwrap_or a no_properties) ≤ suc m)
      (λ (o : Option (List Definition)). IfThere (λ (ds : List Definition). definitions_height ds ≤ suc m) o) (Some joined) (keyword (codes "definitions") as_named look) (keyword (codes "$defs") as_named look)
      (λ ds h es g. with-all true (unwrap_or es no_properties) (with_definitions false (unwrap_or ds no_properties) (Some [])) g (with-all false (unwrap_or ds no_properties) (Some []) h (omega (arith))))
      (low-named (codes "definitions")) (low-named (codes "$defs")))

-- ---- values

mutual
  low : (v : Value) → Low (nesting v) (reading v)
  low null = record { schema = tt; list = tt; named = tt }
  low (value.boolean b) = record { schema = omega (arith); list = tt; named = tt }
  low (number z) = record { schema = tt; list = tt; named = tt }
  low fraction = record { schema = tt; list = tt; named = tt }
  low (text s) = record { schema = tt; list = tt; named = tt }
  low (list xs) = record { schema = tt; list = low-items xs; named = tt }
  low (value.object ms) = record { schema = low-whole (members_nesting ms) (lookup_of (member_readings ms)) (all-low ms); list = tt; named = low-names ms }

  low-items : (xs : Items) → IfThere (λ ss. schemas_height ss ≤ suc (items_nesting xs)) (schemas_of (item_readings xs))
  low-items no_items = omega (arith)
  low-items (item v vs) =
      taken2 (λ (s : Schema). height s ≤ suc (nesting v)) (λ (ss : Schemas). schemas_height ss ≤ suc (items_nesting vs)) (λ (ss : Schemas). schemas_height ss ≤ suc (max (nesting v) (items_nesting vs)))
      (Some (λ (s : Schema) (ss : Schemas). schema s ss)) (reading v).as_schema (schemas_of (item_readings vs)) (λ s h ss g. omega (arith, h, g)) (low v).schema (low-items vs)

  low-names : (ms : Members) → IfThere (λ ps. properties_height ps ≤ suc (members_nesting ms)) (properties_of (member_readings ms))
  low-names no_members = omega (arith)
  low-names (member k v ms) =
      taken2 (λ (s : Schema). height s ≤ suc (nesting v)) (λ (ps : Properties). properties_height ps ≤ suc (members_nesting ms)) (λ (ps : Properties). properties_height ps ≤ suc (max (nesting v) (members_nesting ms)))
      (Some (λ (s : Schema) (ps : Properties). property k s ps)) (reading v).as_schema (properties_of (member_readings ms)) (λ s h ps g. omega (arith, h, g)) (low v).schema (low-names ms)

  all-low : (ms : Members) (k : List ℕ) (r : Reading) → lookup_of (member_readings ms) k ≡ Some r → Low (members_nesting ms) r
  all-low no_members k r e = none-some r e
  all-low (member l v ms) k r e = by (bytes_eq k l) e (low v) (all-low ms k r)
    where
      by : (b : Bool) → (if b then Some (reading v) else reading_at k (member_readings ms)) ≡ Some r → Low (nesting v) (reading v) → (reading_at k (member_readings ms) ≡ Some r → Low (members_nesting ms) r) → Low (max (nesting v) (members_nesting ms)) r
      by true e h g = weaker (nesting v) (max (nesting v) (members_nesting ms)) r (omega (arith)) (subst (Low (nesting v)) (some-same (reading v) r e) h)
      by false e h g = weaker (members_nesting ms) (max (nesting v) (members_nesting ms)) r (omega (arith)) (g e)

low-document : (setting : Setting) (v : Value) → IfThere (λ d. document_height d ≤ suc (nesting v)) (document_of setting v)
unfolding document_of
low-document setting null = tt
low-document setting (value.boolean b) = omega (arith)
low-document setting (number z) = tt
low-document setting fraction = tt
low-document setting (text s) = tt
low-document setting (list xs) = tt
low-document setting (value.object ms) =
    let m = members_nesting ms in
    let look = lookup_of (member_readings ms) in
    taken2 (λ (s : Schema). height s ≤ suc (suc m)) (λ (ds : List Definition). definitions_height ds ≤ suc m) (λ (d : Document). document_height d ≤ suc (suc m)) (Some (make_document setting)) (schema_of look) (definitions_of look)
    (λ s h ds g. omega (arith, h, g)) (low-whole m look (all-low ms)) (low-definitions m look (all-low ms))

pub height_by_nesting : HeightByNesting
height_by_nesting setting v d e = subst (IfThere (λ d. document_height d ≤ suc (nesting v))) e (low-document setting v)
