-- Each schema of a value that is read stands at its steps in the document, as it is read.
use Rattle.std.proofs.Common.{◌≡◌, ℕ, suc, ◌≤◌, List, [], ◌∷◌, ◌++◌, map, Option, Some, None, option_map, Ordering, Less, Equal, Greater, Bool, true, false, ◌||◌, bytes_eq, true≢false, refl, sym, ap, subst, ◌∙◌, inl, inr, arith}
use Rattle.std.specs.Prelude.{Contains, option_and_then, unwrap_or, codes, if◌then◌else◌}
use Rattle.std.specs.List.{flat_map}
use Rattle.std.specs.Ordering.{nat_cmp, is_eq, match_ordering, ordering_reverse}
use Rattle.std.specs.Cmp.Lexicographic.{slice_cmp}
use Rattle.std.proofs.lemmas.Cmp.{nat_list_cmp_total}
use Rattle.std.proofs.lemmas.Map.Text.{is_eq-slice_cmp}
use Rattle.std.proofs.lemmas.Slice.Eq.{bytes_eq-Decides}
use Rattle.json_value.specs.Value as value
use Rattle.json_value.specs.Value.{Value, Items, Members, null, number, fraction, text, list, item, no_items, member, no_members, member_at, has_name}
use Rattle.schema_defs.specs.Location.{Step, place}
use Rattle.schema_defs.specs.Schema.{Schema, boolean, Schemas, no_more, schema, Places, each_item, by_place, Properties, no_properties, property, no_schema, the_schema, Definition, Document}
use Rattle.schema_defs.specs.Layer.{property_at}
use Rattle.schema_defs.specs.Admits.{defined}
use Rattle.schema_defs.specs.Children.{Node as Spot, at_document, at_definitions, at_schema, at_list, at_names, maybe_node, places_node, definition_node, schema_in, schema_node, node_at, along, node_schema}
use Rattle.schema_defs.specs.declared.Setting.{Setting}
use Rattle.schema_defs.specs.Read.{◌⊛◌, Reading, Lookup, lookup_of, reading, item_readings, member_readings, keyword, unless_empty, places_of, schema_of, schemas_of, properties_of, with_definition, with_definitions, joined, definitions_of, make_document, document_of}
use Rattle.schema_defs.specs.Laws.{NamesRise, IsBelowNext}
use Rattle.schema_defs.proofs.Stand.{none_in, first_or_rest, first_in, rest_in, some_same, none_is_not}
use Rattle.schema_defs.proofs.Unknown.{keywords_are_members}
use Rattle.schema_defs.proofs.Rising.{definitions_rise}
use Rattle.schema_faults.specs.declared.keyword.Holds.{Holds}
use Rattle.schema_faults.specs.declared.keyword.Holds.TheVariants.{Text, Anything, TypeNames, Values, Number, Multiple, Size, Flag, Texts, Schema as OneSchema, SomeSchemas, Schemas as ManySchemas, SchemaOrSchemas, NamedSchemas, Defs, Definitions}
use Rattle.schema_faults.specs.Keywords.{Row, keywords, is_known_at, is_schema}
use Rattle.schema_faults.specs.Schemas as nodes
use Rattle.schema_faults.specs.Schemas.{Node, Held, under, held, held_items, held_members, held_at, one_schema, nodes_in, nodes_at, nodes_of, inside, list_nodes, object_nodes, schema_nodes}
use Rattle.schema_faults.proofs.Walk.{held_at-member}
use Rattle.distinct_names.specs.Names.{NamesDiffer, NamesOfItemsDiffer, MembersDiffer}
use Rattle.schema_laws.specs.Laws.{IsReadThere, SchemasAreRead}
use Rattle.schema_laws.proofs.Options.{IfThere, chosen, mapped, followed, flattened, taken2, turned, with_answer}
use Rattle.schema_laws.proofs.Stand.{other_place, other_name, or_true}
use Rattle.schema_laws.proofs.Leads.{Present, present, Leads, KeyLeads, key_leads, as_schema, as_list, as_some_list, as_named, to_schema, to_list, to_names}

-- ---- schemas that stand below a spot of the document

abbrev IsReadAt : Spot → Node → Type 0
IsReadAt m n = (s : Schema) × (option_and_then node_schema (along n.steps m) ≡ Some s) × ((reading n.value).as_schema ≡ Some s)

abbrev AllRead : Spot → List Node → Type 0
AllRead m [] = Unit {0}
AllRead m (n ∷ ns) = IsReadAt m n × AllRead m ns

both : (m : Spot) (ns os : List Node) → AllRead m ns → AllRead m os → AllRead m (ns ++ os)
both m [] os h g = g
both m (n ∷ ns) os h g = (h.0, both m ns os h.1 g)

one_step : (k : Step) (m w : Spot) → node_at k m ≡ Some w → (ns : List Node) → AllRead w ns → AllRead m (under k ns)
one_step k m w e [] h = tt
one_step k m w e (n ∷ ns) h = ((h.0.0, ap (λ o. option_and_then node_schema (option_and_then (along n.steps) o)) e ∙ h.0.1, h.0.2), one_step k m w e ns h.1)

-- ---- what a value is read as

-- the names lead from the spot to the schemas of these names
abbrev NamesLead : Spot → Properties → Type 0
NamesLead m ps = (n : List ℕ) (s : Schema) → property_at n ps ≡ the_schema s → node_at n m ≡ Some (at_schema s)

record Located (v : Value) : Type 0 where
  whole : (k : List ℕ) → IfThere (λ s. AllRead (at_schema s) ((held v).nodes k)) (reading v).as_schema
  in_list : (k : List ℕ) → IfThere (λ ss. AllRead (at_list ss) ((held v).in_list k)) (reading v).as_list
  in_object : (k : List ℕ) → IfThere (λ ps. (m : Spot) → NamesLead m ps → AllRead m ((held v).in_object k)) (reading v).as_named

abbrev LocatedMaybe : Option Value → Type 0
LocatedMaybe None = Unit {0}
LocatedMaybe (Some v) = Located v

-- ---- a keyword of an object

abbrev ReadsAt : {A : Type 0} → Spot → List ℕ → Holds → (Reading → Option A) → (A → Option Spot) → Type 0
ReadsAt {A} m k h f to = (w : Value) → Located w → (x : A) → f (reading w) ≡ Some x → node_at k m ≡ to x → AllRead m (under k (nodes_in (k, h) (held w)))

one : (k : List ℕ) (w : Value) → Located w → (s : Schema) → (reading w).as_schema ≡ Some s → AllRead (at_schema s) (one_schema k (held w))
one k w g s e = chosen (AllRead (at_schema s)) (is_schema (held w).whole) ((held w).nodes k) [] (subst (IfThere (λ s. AllRead (at_schema s) ((held w).nodes k))) e (g.whole k)) tt

reads_schema : (m : Spot) (k : List ℕ) → ReadsAt m k OneSchema as_schema to_schema
reads_schema m k w g s e d = one_step k m (at_schema s) d (one_schema k (held w)) (one k w g s e)

listed : (k : List ℕ) (w : Value) → Located w → (ss : Schemas) → (reading w).as_list ≡ Some ss → AllRead (at_list ss) ((held w).in_list k)
listed k w g ss e = subst (IfThere (λ ss. AllRead (at_list ss) ((held w).in_list k))) e (g.in_list k)

reads_list : (m : Spot) (k : List ℕ) → ReadsAt m k ManySchemas as_list to_list
reads_list m k w g ss e d = one_step k m (at_list ss) d ((held w).in_list k) (listed k w g ss e)

pub filled : (o : Option Schemas) (ss : Schemas) → option_and_then unless_empty o ≡ Some ss → o ≡ Some ss
filled None ss e = e
filled (Some no_more) ss e = absurd (none_is_not ss e)
filled (Some (schema t ts)) ss e = e

reads_some_list : (m : Spot) (k : List ℕ) → ReadsAt m k SomeSchemas as_some_list to_list
reads_some_list m k w g ss e d = one_step k m (at_list ss) d ((held w).in_list k) (listed k w g ss (filled (reading w).as_list ss e))

reads_names : (m : Spot) (k : List ℕ) → ReadsAt m k NamedSchemas as_named to_names
reads_names m k w g ps e d =
    one_step k m (at_names ps) d ((held w).in_object k) (subst (IfThere (λ ps. (m : Spot) → NamesLead m ps → AllRead m ((held w).in_object k))) e (g.in_object k) (at_names ps) (λ n s h. ap maybe_node h))

as_one : (o : Option Schema) (x : Places) → elim o [ Some s ↦ Some (each_item s) | None ↦ option_map by_place None ] ≡ Some x → (s : Schema) × (o ≡ Some s) × (x ≡ each_item s)
as_one None x e = absurd (none_is_not x e)
as_one (Some s) x e = (s, refl, sym (some_same (each_item s) x e))

as_many : (o : Option Schemas) (x : Places) → option_map by_place o ≡ Some x → (ss : Schemas) × (o ≡ Some ss) × (x ≡ by_place ss)
as_many None x e = absurd (none_is_not x e)
as_many (Some ss) x e = (ss, refl, sym (some_same (by_place ss) x e))

reads_items : (m : Spot) (k : List ℕ) → ReadsAt m k SchemaOrSchemas places_of places_node
reads_items m k null g x e d = absurd (none_is_not x e)
reads_items m k (value.boolean b) g x e d =
    let r = as_one (Some (boolean b)) x e in
    one_step k m (at_schema r.0) (d ∙ ap places_node r.2) ((held (value.boolean b)).nodes k ++ []) (both (at_schema r.0) ((held (value.boolean b)).nodes k) [] (one k (value.boolean b) g r.0 r.1) tt)
reads_items m k (number z) g x e d = absurd (none_is_not x e)
reads_items m k fraction g x e d = absurd (none_is_not x e)
reads_items m k (text s) g x e d = absurd (none_is_not x e)
reads_items m k (list xs) g x e d =
    let r = as_many (reading (list xs)).as_list x e in
    one_step k m (at_list r.0) (d ∙ ap places_node r.2) ((held (list xs)).in_list k) (listed k (list xs) g r.0 r.1)
reads_items m k (value.object ms) g x e d =
    let r = as_one (reading (value.object ms)).as_schema x e in
    one_step k m (at_schema r.0) (d ∙ ap places_node r.2) ((held (value.object ms)).nodes k ++ []) (both (at_schema r.0) ((held (value.object ms)).nodes k) [] (one k (value.object ms) g r.0 r.1) tt)

module _ (m : Spot) (b : Bool) (ms : Members) where
  abbrev RowRead : Row → Type 0
  RowRead r = AllRead m (nodes_of b (held_members ms) r)

  module _ {A : Type 0} (k : List ℕ) (h : Holds) (f : Reading → Option A) (to : A → Option Spot) (read : ReadsAt m k h f to) where
    at_member : (o : Option Value) → LocatedMaybe o → Leads (option_map reading o) f to (node_at k m) → AllRead m (nodes_at (k, h) (option_map held o))
    at_member None g l = tt
    at_member (Some w) g l = let t = l (reading w) refl in read w g t.0 t.1 t.2

    row : LocatedMaybe (member_at k ms) → Leads (lookup_of (member_readings ms) k) f to (node_at k m) → RowRead (k, h)
    row g l =
        chosen (AllRead m) (is_known_at b h) (nodes_at (k, h) (held_at k (held_members ms))) []
        (subst (λ x. AllRead m (nodes_at (k, h) x)) (sym (held_at-member k ms)) (at_member (member_at k ms) g (λ r e. l r (keywords_are_members k ms ∙ e))))
        tt

  no_nodes : (r : Row) → ((x : Held) → nodes_in r x ≡ []) → RowRead r
  no_nodes r e = chosen (AllRead m) (is_known_at b r.1) (nodes_at r (held_at r.0 (held_members ms))) [] (at_none (held_at r.0 (held_members ms))) tt
    where
      at_none : (o : Option Held) → AllRead m (nodes_at r o)
      at_none None = tt
      at_none (Some x) = subst (λ ns. AllRead m (under r.0 ns)) (sym (e x)) tt

  abbrev RowsRead : List Row → Type 0
  RowsRead [] = Unit {0}
  RowsRead (r ∷ rs) = RowRead r × RowsRead rs

  of_rows : (rs : List Row) → RowsRead rs → AllRead m (flat_map (nodes_of b (held_members ms)) rs)
  of_rows [] h = tt
  of_rows (r ∷ rs) h = both m (nodes_of b (held_members ms) r) (flat_map (nodes_of b (held_members ms)) rs) h.0 (of_rows rs h.1)

  object_read : ((n : List ℕ) → LocatedMaybe (member_at n ms)) → KeyLeads (lookup_of (member_readings ms)) (λ k. node_at k m) → RowRead (codes "$defs", Defs) → RowRead (codes "definitions", Definitions) → AllRead m (inside b (held_members ms))
  object_read g l d e = of_rows keywords (
    d,
    (
      no_nodes (codes "$ref", Text) (λ x. refl),
      (
        row (codes "additionalItems") OneSchema as_schema to_schema (reads_schema m (codes "additionalItems")) (g (codes "additionalItems")) l.k_additionalItems,
        (
          row (codes "additionalProperties") OneSchema as_schema to_schema (reads_schema m (codes "additionalProperties")) (g (codes "additionalProperties")) l.k_additionalProperties,
          (
            row (codes "allOf") SomeSchemas as_some_list to_list (reads_some_list m (codes "allOf")) (g (codes "allOf")) l.k_allOf,
            (
              row (codes "anyOf") ManySchemas as_list to_list (reads_list m (codes "anyOf")) (g (codes "anyOf")) l.k_anyOf,
              (
                no_nodes (codes "const", Anything) (λ x. refl),
                (
                  row (codes "contains") OneSchema as_schema to_schema (reads_schema m (codes "contains")) (g (codes "contains")) l.k_contains,
                  (
                    no_nodes (codes "default", Anything) (λ x. refl),
                    (
                      e,
                      (
                        no_nodes (codes "description", Text) (λ x. refl),
                        (
                          no_nodes (codes "enum", Values) (λ x. refl),
                          (
                            no_nodes (codes "exclusiveMaximum", Number) (λ x. refl),
                            (
                              no_nodes (codes "exclusiveMinimum", Number) (λ x. refl),
                              (
                                no_nodes (codes "format", Text) (λ x. refl),
                                (
                                  row (codes "items") SchemaOrSchemas places_of places_node (reads_items m (codes "items")) (g (codes "items")) l.k_items,
                                  (
                                    no_nodes (codes "maxItems", Size) (λ x. refl),
                                    (
                                      no_nodes (codes "maxLength", Size) (λ x. refl),
                                      (
                                        no_nodes (codes "maxProperties", Size) (λ x. refl),
                                        (
                                          no_nodes (codes "maximum", Number) (λ x. refl),
                                          (
                                            no_nodes (codes "minItems", Size) (λ x. refl),
                                            (
                                              no_nodes (codes "minLength", Size) (λ x. refl),
                                              (
                                                no_nodes (codes "minProperties", Size) (λ x. refl),
                                                (
                                                  no_nodes (codes "minimum", Number) (λ x. refl),
                                                  (
                                                    no_nodes (codes "multipleOf", Multiple) (λ x. refl),
                                                    (
                                                      row (codes "not") OneSchema as_schema to_schema (reads_schema m (codes "not")) (g (codes "not")) l.k_not,
                                                      (
                                                        row (codes "oneOf") ManySchemas as_list to_list (reads_list m (codes "oneOf")) (g (codes "oneOf")) l.k_oneOf,
                                                        (
                                                          no_nodes (codes "pattern", Text) (λ x. refl),
                                                          (
                                                            row (codes "patternProperties") NamedSchemas as_named to_names (reads_names m (codes "patternProperties")) (g (codes "patternProperties")) l.k_patternProperties,
                                                            (
                                                              row (codes "properties") NamedSchemas as_named to_names (reads_names m (codes "properties")) (g (codes "properties")) l.k_properties,
                                                              (
                                                                row (codes "propertyNames") OneSchema as_schema to_schema (reads_schema m (codes "propertyNames")) (g (codes "propertyNames")) l.k_propertyNames,
                                                                (
                                                                  no_nodes (codes "required", Texts) (λ x. refl),
                                                                  (
                                                                    no_nodes (codes "title", Text) (λ x. refl),
                                                                    (
                                                                      no_nodes (codes "type", TypeNames) (λ x. refl),
                                                                      (
                                                                        no_nodes (codes "uniqueItems", Flag) (λ x. refl),
                                                                        tt,
                                                                      ),
                                                                    ),
                                                                  ),
                                                                ),
                                                              ),
                                                            ),
                                                          ),
                                                        ),
                                                      ),
                                                    ),
                                                  ),
                                                ),
                                              ),
                                            ),
                                          ),
                                        ),
                                      ),
                                    ),
                                  ),
                                ),
                              ),
                            ),
                          ),
                        ),
                      ),
                    ),
                  ),
                ),
              ),
            ),
          ),
        ),
      ),
    ),
  )

-- ---- each value

-- the places from i on lead from the spot to these schemas
abbrev PlacesLead : Spot → ℕ → Schemas → Type 0
PlacesLead m i ss = (j : ℕ) (s : Schema) → i ≤ j → schema_in (place j) i ss ≡ the_schema s → node_at (place j) m ≡ Some (at_schema s)

abbrev ItemsLocated : Items → Type 0
ItemsLocated vs = (k : List ℕ) (i : ℕ) → IfThere (λ ss. (m : Spot) → PlacesLead m i ss → AllRead m (list_nodes k i (held_items vs))) (schemas_of (item_readings vs))

one_item : (v : Value) (vs : Items) → Located v → ItemsLocated vs → ItemsLocated (item v vs)
one_item v vs g h k i =
    taken2 (λ s. AllRead (at_schema s) ((held v).nodes k)) (λ ss. (m : Spot) → PlacesLead m (suc i) ss → AllRead m (list_nodes k (suc i) (held_items vs)))
    (λ ss. (m : Spot) → PlacesLead m i ss → AllRead m (list_nodes k i (held_items (item v vs)))) (Some (λ (s : Schema) (ss : Schemas). schema s ss)) (reading v).as_schema (schemas_of (item_readings vs))
    (λ s a ss r m l.
    both m (under (place i) ((held v).nodes k)) (list_nodes k (suc i) (held_items vs))
    (one_step (place i) m (at_schema s) (l i s (omega arith) (ap (λ b. if b then the_schema s else schema_in (place i) (suc i) ss) ((bytes_eq-Decides (place i) (place i)).1 refl))) ((held v).nodes k) a)
    (r m (λ j t lt e. l j t (omega (arith, lt)) (ap (λ b. if b then the_schema s else schema_in (place j) (suc i) ss) (other_place i j (omega (arith, lt)) (bytes_eq (place j) (place i)) refl) ∙ e))))
    (g.whole k) (h k (suc i))

-- the names of the members lead from the spot to the schemas of these names
abbrev MembersLead : Spot → Members → Properties → Type 0
MembersLead m ms ps = (n : List ℕ) (s : Schema) → has_name n ms ≡ true → property_at n ps ≡ the_schema s → node_at n m ≡ Some (at_schema s)

abbrev MembersLocated : Members → Type 0
MembersLocated ms = (k : List ℕ) → IfThere (λ ps. (m : Spot) → MembersLead m ms ps → AllRead m (object_nodes k (held_members ms))) (properties_of (member_readings ms))

one_member : (n : List ℕ) (v : Value) (ms : Members) → has_name n ms ≡ false → Located v → MembersLocated ms → MembersLocated (member n v ms)
one_member n v ms d g h k =
    taken2 (λ s. AllRead (at_schema s) ((held v).nodes k)) (λ ps. (m : Spot) → MembersLead m ms ps → AllRead m (object_nodes k (held_members ms)))
    (λ ps. (m : Spot) → MembersLead m (member n v ms) ps → AllRead m (object_nodes k (held_members (member n v ms)))) (Some (λ (s : Schema) (ps : Properties). property n s ps)) (reading v).as_schema (properties_of (member_readings ms))
    (λ s a ps r m l.
    let e : bytes_eq n n ≡ true = (bytes_eq-Decides n n).1 refl in
    both m (under n ((held v).nodes k)) (object_nodes k (held_members ms))
    (one_step n m (at_schema s) (l n s (ap (λ b. b || has_name n ms) e) (λ i. if e i then the_schema s else property_at n ps)) ((held v).nodes k) a)
    (r m (λ j t f c. l j t (or_true (bytes_eq j n) (has_name j ms) f) (ap (λ b. if b then the_schema s else property_at j ps) (other_name j n ms d f (bytes_eq j n) refl) ∙ c))))
    (g.whole k) (h k)

located_object : (ms : Members) → ((n : List ℕ) → LocatedMaybe (member_at n ms)) → MembersLocated ms → Located (value.object ms)
located_object ms g h = record {
  whole = λ k. with_answer (λ s. AllRead (at_schema s) ((held (value.object ms)).nodes k)) (schema_of (lookup_of (member_readings ms))) (λ s e. (
    (s, refl, e),
    object_read (at_schema s) false ms g (subst (IfThere (λ s. KeyLeads (lookup_of (member_readings ms)) (λ k. schema_node k s))) e (key_leads (lookup_of (member_readings ms)))) tt tt,
  ));
  in_list = λ k. tt;
  in_object = λ k. turned (λ ps. (m : Spot) → MembersLead m ms ps → AllRead m (object_nodes k (held_members ms))) (λ ps. (m : Spot) → NamesLead m ps → AllRead m (object_nodes k (held_members ms))) (properties_of (member_readings ms)) (h k)
      (λ ps r m l. r m (λ n s c e. l n s e));
}

mutual
  located : (v : Value) → NamesDiffer v → Located v
  located null d = record { whole = λ k. tt; in_list = λ k. tt; in_object = λ k. tt }
  located (value.boolean b) d = record { whole = λ k. ((boolean b, refl, refl), tt); in_list = λ k. tt; in_object = λ k. tt }
  located (number z) d = record { whole = λ k. tt; in_list = λ k. tt; in_object = λ k. tt }
  located fraction d = record { whole = λ k. tt; in_list = λ k. tt; in_object = λ k. tt }
  located (text s) d = record { whole = λ k. tt; in_list = λ k. tt; in_object = λ k. tt }
  located (list xs) d = record {
    whole = λ k. tt;
    in_list = λ k. turned (λ ss. (m : Spot) → PlacesLead m 0 ss → AllRead m (list_nodes k 0 (held_items xs))) (λ ss. AllRead (at_list ss) (list_nodes k 0 (held_items xs))) (schemas_of (item_readings xs)) (located_items xs d k 0)
        (λ ss r. r (at_list ss) (λ j s lt e. ap maybe_node e));
    in_object = λ k. tt;
  }
  located (value.object ms) d = located_object ms (located_at ms d) (located_members ms d)

  located_items : (vs : Items) → NamesOfItemsDiffer vs → ItemsLocated vs
  located_items no_items d = λ k i m l. tt
  located_items (item v vs) d = one_item v vs (located v d.0) (located_items vs d.1)

  located_members : (ms : Members) → MembersDiffer ms → MembersLocated ms
  located_members no_members d = λ k m l. tt
  located_members (member n v ms) d = one_member n v ms d.0 (located v d.1) (located_members ms d.2)

  located_at : (ms : Members) → MembersDiffer ms → (n : List ℕ) → LocatedMaybe (member_at n ms)
  located_at no_members d n = tt
  located_at (member k v ms) d n = chosen LocatedMaybe (bytes_eq n k) (Some v) (member_at n ms) (located v d.1) (located_at ms d.2 n)

-- ---- definitions

abbrev pub definition : Bool → List ℕ → Schema → Definition
definition b n s = record { name = n; under_defs = b; body = s }

abbrev Keeps : List Definition → List Definition → Type 0
Keeps ds es = (x : Definition) → Contains ds x → Contains es x

abbrev HasAll : Bool → Properties → List Definition → Type 0
HasAll b ps es = (n : List ℕ) (s : Schema) → property_at n ps ≡ the_schema s → Contains es (definition b n s)

inserted : (e : Definition) (ds : List Definition) → IfThere (λ es. Contains es e × Keeps ds es) (with_definition e ds)
inserted e [] = (first_in e [], λ x c. absurd (none_in x c))
inserted e (d ∷ ds) = by_order (slice_cmp nat_cmp e.name d.name) (with_definition e ds) (inserted e ds)
  where
    kept : (es : List Definition) → Keeps ds es → Keeps (d ∷ ds) (d ∷ es)
    kept es h x c = elim (first_or_rest d ds x c) [ inl q ↦ subst (Contains (d ∷ es)) q (first_in d es) | inr g ↦ rest_in d es x (h x g) ]

    by_order : (c : Ordering) (o : Option (List Definition)) → IfThere (λ es. Contains es e × Keeps ds es) o → IfThere (λ es. Contains es e × Keeps (d ∷ ds) es) (match_ordering c (Some (e ∷ d ∷ ds)) None (option_map (λ es. d ∷ es) o))
    by_order Less o h = (first_in e (d ∷ ds), λ x c. rest_in e (d ∷ ds) x c)
    by_order Equal o h = tt
    by_order Greater o h = mapped (λ es. Contains es e × Keeps ds es) (λ es. Contains es e × Keeps (d ∷ ds) es) (λ es. d ∷ es) o h (λ es i. (rest_in d es e i.0, kept es i.1))

pub no_such : (s : Schema) → no_schema ≡ the_schema s → ⊥
no_such s e = absurd (true≢false (ap (λ m. elim m [ no_schema ↦ true | the_schema u ↦ false ]) e))

pub same_schema : (s t : Schema) → the_schema s ≡ the_schema t → s ≡ t
same_schema s t e = ap (λ m. elim m [ no_schema ↦ s | the_schema u ↦ u ]) e

one_named : (b : Bool) (k : List ℕ) (s : Schema) (ps : Properties) (fs : List Definition) → Contains fs (definition b k s) → HasAll b ps fs → HasAll b (property k s ps) fs
one_named b k s ps fs c h n t = by_test (bytes_eq n k) refl
  where
    by_test : (q : Bool) → bytes_eq n k ≡ q → (if q then the_schema s else property_at n ps) ≡ the_schema t → Contains fs (definition b n t)
    by_test true e f = subst (Contains fs) (λ i. definition b (sym ((bytes_eq-Decides n k).0 e) i) (same_schema s t f i)) c
    by_test false e f = h n t f

with_all : (b : Bool) (ps : Properties) (ds : List Definition) → IfThere (λ es. HasAll b ps es × Keeps ds es) (with_definitions b ps (Some ds))
with_all b no_properties ds = (λ n s e. absurd (no_such s e), λ x c. c)
with_all b (property k s ps) ds =
    followed (λ es. HasAll b ps es × Keeps ds es) (λ fs. HasAll b (property k s ps) fs × Keeps ds fs) (with_definition (definition b k s)) (with_definitions b ps (Some ds)) (with_all b ps ds)
    (λ es i. turned (λ fs. Contains fs (definition b k s) × Keeps es fs) (λ fs. HasAll b (property k s ps) fs × Keeps ds fs) (with_definition (definition b k s) es) (inserted (definition b k s) es)
    (λ fs j. (one_named b k s ps fs j.0 (λ n t e. j.1 (definition b n t) (i.0 n t e)), λ x c. j.1 x (i.1 x c))))

pub none_joined : (b : Bool) (ps : Properties) → with_definitions b ps None ≡ None
none_joined b no_properties = refl
none_joined b (property k s ps) = ap (option_and_then (with_definition (definition b k s))) (none_joined b ps)

has_both : (qs ps : Properties) (o : Option (List Definition)) → IfThere (HasAll false ps) o → IfThere (λ es. HasAll true qs es × HasAll false ps es) (with_definitions true qs o)
has_both qs ps None h = subst (IfThere (λ es. HasAll true qs es × HasAll false ps es)) (sym (none_joined true qs)) tt
has_both qs ps (Some ds) h =
    turned (λ es. HasAll true qs es × Keeps ds es) (λ es. HasAll true qs es × HasAll false ps es) (with_definitions true qs (Some ds)) (with_all true qs ds) (λ es i. (i.0, λ n s e. i.1 (definition false n s) (h n s e)))

joined_has : (x y : Option Properties) → IfThere (λ es. HasAll true (unwrap_or y no_properties) es × HasAll false (unwrap_or x no_properties) es) (joined x y)
joined_has x y =
    has_both (unwrap_or y no_properties) (unwrap_or x no_properties) (with_definitions false (unwrap_or x no_properties) (Some []))
    (turned (λ es. HasAll false (unwrap_or x no_properties) es × Keeps [] es) (HasAll false (unwrap_or x no_properties)) (with_definitions false (unwrap_or x no_properties) (Some [])) (with_all false (unwrap_or x no_properties) []) (λ es i. i.0))

-- what stands under a keyword is read by name, and each is a definition
abbrev pub Stands : Bool → Option Reading → List Definition → Type 0
Stands b o ds = (r : Reading) → o ≡ Some r → (ps : Properties) × (r.as_named ≡ Some ps) × HasAll b ps ds

stands : (b : Bool) (o : Option Reading) (a : Option Properties) (ds : List Definition) → Present o as_named a → HasAll b (unwrap_or a no_properties) ds → Stands b o ds
stands b o a ds p h r e = let t = p r e in (t.0, t.1, subst (λ a. HasAll b (unwrap_or a no_properties) ds) t.2 h)

pub definitions_stand : (look : Lookup) → IfThere (λ ds. Stands true (look (codes "$defs")) ds × Stands false (look (codes "definitions")) ds) (definitions_of look)
unfolding definitions_of
definitions_stand look =
    flattened (λ ds. Stands true (look (codes "$defs")) ds × Stands false (look (codes "definitions")) ds) (Some joined ⊛ keyword (codes "definitions") as_named look ⊛ keyword (codes "$defs") as_named look)
    (taken2 (Present (look (codes "definitions")) as_named) (Present (look (codes "$defs")) as_named) (IfThere (λ ds. Stands true (look (codes "$defs")) ds × Stands false (look (codes "definitions")) ds)) (Some joined)
    (keyword (codes "definitions") as_named look) (keyword (codes "$defs") as_named look)
    (λ x p y q.
    turned (λ es. HasAll true (unwrap_or y no_properties) es × HasAll false (unwrap_or x no_properties) es) (λ ds. Stands true (look (codes "$defs")) ds × Stands false (look (codes "definitions")) ds) (joined x y) (joined_has x y)
    (λ es i. (stands true (look (codes "$defs")) y es q i.0, stands false (look (codes "definitions")) x es p i.1)))
    (present (codes "definitions") as_named look) (present (codes "$defs") as_named look))

abbrev pub names : List Definition → List (List ℕ)
names ds = map (λ e. e.name) ds

above : (n : List ℕ) (ds : List Definition) → IsBelowNext n (names ds) → NamesRise (names ds) → (x : Definition) → Contains ds x → slice_cmp nat_cmp n x.name ≡ Less
above n [] b h x c = absurd (none_in x c)
above n (d ∷ ds) b h x c =
    elim (first_or_rest d ds x c) [
      | inl q ↦ subst (λ x. slice_cmp nat_cmp n x.name ≡ Less) q b
      | inr g ↦ nat_list_cmp_total.trans n d.name x.name b (above d.name ds h.0 h.1 x g)
    ]

-- where names rise, each definition is found by its name
pub found : (ds : List Definition) → NamesRise (names ds) → (x : Definition) → Contains ds x → defined x.name ds ≡ Some x
found [] h x c = absurd (none_in x c)
found (d ∷ ds) h x c =
    elim (first_or_rest d ds x c) [
      | inl q ↦ subst (λ x. (if bytes_eq x.name d.name then Some d else defined x.name ds) ≡ Some x) q (ap (λ b. if b then Some d else defined d.name ds) ((bytes_eq-Decides d.name d.name).1 refl))
      | inr g ↦
          let later : slice_cmp nat_cmp x.name d.name ≡ Greater = nat_list_cmp_total.antisymm x.name d.name ∙ ap ordering_reverse (above d.name ds h.0 h.1 x g) in
          ap (λ b. if b then Some d else defined x.name ds) (sym (is_eq-slice_cmp x.name d.name) ∙ ap is_eq later) ∙ found ds h.1 x g
    ]

same_kind : (b : Bool) (n : List ℕ) (s : Schema) → definition_node b (Some (definition b n s)) ≡ Some (at_schema s)
same_kind true n s = refl
same_kind false n s = refl

-- ---- documents

module _ (d : Document) (rise : NamesRise (names d.definitions)) where
  leads_to_definitions : (b : Bool) (ps : Properties) → HasAll b ps d.definitions → NamesLead (at_definitions b d) ps
  leads_to_definitions b ps h n s e = ap (definition_node b) (found d.definitions rise (definition b n s) (h n s e)) ∙ same_kind b n s

  at_word : (b : Bool) (k : List ℕ) (h : Holds) → ((x : Held) → nodes_in (k, h) x ≡ x.in_object k) → node_at k (at_document d) ≡ Some (at_definitions b d)
      → (o : Option Value) → LocatedMaybe o → Stands b (option_map reading o) d.definitions → AllRead (at_document d) (nodes_at (k, h) (option_map held o))
  at_word b k h same e None g s = tt
  at_word b k h same e (Some w) g s =
      let t = s (reading w) refl in
      one_step k (at_document d) (at_definitions b d) e (nodes_in (k, h) (held w))
      (subst (AllRead (at_definitions b d)) (sym (same (held w)))
      (subst (IfThere (λ ps. (m : Spot) → NamesLead m ps → AllRead m ((held w).in_object k))) t.1 (g.in_object k) (at_definitions b d) (leads_to_definitions b t.0 t.2)))

  word_row : (ms : Members) (b : Bool) (k : List ℕ) (h : Holds) → ((x : Held) → nodes_in (k, h) x ≡ x.in_object k) → node_at k (at_document d) ≡ Some (at_definitions b d)
      → LocatedMaybe (member_at k ms) → Stands b (lookup_of (member_readings ms) k) d.definitions → RowRead (at_document d) true ms (k, h)
  word_row ms b k h same e g s =
      chosen (AllRead (at_document d)) (is_known_at true h) (nodes_at (k, h) (held_at k (held_members ms))) []
      (subst (λ x. AllRead (at_document d) (nodes_at (k, h) x)) (sym (held_at-member k ms)) (at_word b k h same e (member_at k ms) g (λ r f. s r (keywords_are_members k ms ∙ f))))
      tt

  from_root : (look : Lookup) → KeyLeads look (λ k. schema_node k d.root) → KeyLeads look (λ k. node_at k (at_document d))
  from_root look l = record {
    k_allOf = l.k_allOf;
    k_anyOf = l.k_anyOf;
    k_oneOf = l.k_oneOf;
    k_not = l.k_not;
    k_items = l.k_items;
    k_additionalItems = l.k_additionalItems;
    k_contains = l.k_contains;
    k_properties = l.k_properties;
    k_patternProperties = l.k_patternProperties;
    k_additionalProperties = l.k_additionalProperties;
    k_propertyNames = l.k_propertyNames;
  }

  root_read : (ms : Members) → MembersDiffer ms → schema_of (lookup_of (member_readings ms)) ≡ Some d.root
      → Stands true (lookup_of (member_readings ms) (codes "$defs")) d.definitions × Stands false (lookup_of (member_readings ms) (codes "definitions")) d.definitions
      → AllRead (at_document d) (nodes.schemas_of (value.object ms))
  root_read ms apart e s = (
    (d.root, refl, e),
    object_read (at_document d) true ms (located_at ms apart)
        (from_root (lookup_of (member_readings ms)) (subst (IfThere (λ s. KeyLeads (lookup_of (member_readings ms)) (λ k. schema_node k s))) e (key_leads (lookup_of (member_readings ms)))))
        (word_row ms true (codes "$defs") Defs (λ x. refl) refl (located_at ms apart (codes "$defs")) s.0) (word_row ms false (codes "definitions") Definitions (λ x. refl) refl (located_at ms apart (codes "definitions")) s.1),
  )

abbrev ReadAsDocument : Value → Document → Type 0
ReadAsDocument v d = NamesRise (names d.definitions) → AllRead (at_document d) (nodes.schemas_of v)

all_read : (setting : Setting) (v : Value) → NamesDiffer v → IfThere (ReadAsDocument v) (document_of setting v)
unfolding document_of
all_read setting null d = tt
all_read setting (value.boolean b) d = λ h. ((boolean b, refl, refl), tt)
all_read setting (number z) d = tt
all_read setting fraction d = tt
all_read setting (text s) d = tt
all_read setting (list xs) d = tt
all_read setting (value.object ms) d =
    taken2 (λ s. schema_of (lookup_of (member_readings ms)) ≡ Some s)
    (λ ds. Stands true (lookup_of (member_readings ms) (codes "$defs")) ds × Stands false (lookup_of (member_readings ms) (codes "definitions")) ds)
    (ReadAsDocument (value.object ms)) (Some (make_document setting)) (schema_of (lookup_of (member_readings ms))) (definitions_of (lookup_of (member_readings ms)))
    (λ s e ds i rise. root_read (make_document setting s ds) rise ms d e i)
    (with_answer (λ s. schema_of (lookup_of (member_readings ms)) ≡ Some s) (schema_of (lookup_of (member_readings ms))) (λ s e. e)) (definitions_stand (lookup_of (member_readings ms)))

each_read : (d : Document) (ns : List Node) → AllRead (at_document d) ns → (n : Node) → Contains ns n → IsReadThere d n
each_read d [] h n c = absurd (none_in n c)
each_read d (m ∷ ms) h n c = elim (first_or_rest m ms n c) [ inl q ↦ subst (IsReadThere d) q h.0 | inr g ↦ each_read d ms h.1 n g ]

pub schemas_are_read : SchemasAreRead
schemas_are_read setting v d e apart n c = each_read d (nodes.schemas_of v) (subst (IfThere (ReadAsDocument v)) e (all_read setting v apart) (definitions_rise setting v d e)) n c
