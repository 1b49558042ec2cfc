-- The locations of all schemas of a document, as many as it has schemas; each location at which one stands is among them.
use Rattle.std.proofs.Common.{◌≡◌, ℕ, suc, ◌+◌, List, [], ◌∷◌, ◌++◌, Bool, true, false, Option, Some, None, ◌⊎◌, inl, inr, refl, sym, ap, subst, ◌∙◌, arith, length, bytes_eq, codes, true≢false, append_assoc}
use Rattle.std.specs.Prelude.{Contains, option_and_then, if◌then◌else◌}
use Rattle.std.proofs.lemmas.List.{append-nil}
use Rattle.std.proofs.lemmas.Slice.Eq.{bytes_eq-Decides}
use Rattle.json_value.specs.Value.{same_bool}
use Rattle.schema_defs.specs.Location.{Step, Location, place}
use Rattle.schema_defs.specs.Schema.{Schema, boolean, object, Same, no_same, same_value, Lists, no_lists, lists, Named, no_named, named, MaybeSchema, no_schema, the_schema, MaybeSchemas, no_list, the_list, Schemas, no_more, schema, Places, no_items, each_item, by_place, Properties, no_properties, property, Definition, Document}
use Rattle.schema_defs.specs.Layer.{property_at}
use Rattle.schema_defs.specs.Admits.{defined, definition_word, definition_location}
use Rattle.schema_defs.specs.Children.{Node, at_definitions, at_schema, at_names, maybe_node, list_node, places_node, same_node, lists_node, named_node, either_node, schema_node, schema_in, definition_node, along, node_schema, schema_at}
use Rattle.schema_defs.proofs.Stand.{none_in, first_in, rest_in, first_or_rest}
use Rattle.schema_defs.specs.Counts.{schema_nodes, same_nodes, lists_nodes, named_nodes, maybe_nodes, maybe_list_nodes, schemas_nodes, places_nodes, properties_nodes, definitions_nodes, nodes}

-- ---- membership

abbrev pub Has : {X : Type 0} → List X → X → Type 0
Has [] x = ⊥
Has (y ∷ ys) x = (y ≡ x) ⊎ Has ys x

pub has-left : {X : Type 0} (xs ys : List X) (x : X) → Has xs x → Has (xs ++ ys) x
has-left [] ys x h = absurd h
has-left (y ∷ xs) ys x (inl e) = inl e
has-left (y ∷ xs) ys x (inr h) = inr (has-left xs ys x h)

pub has-right : {X : Type 0} (xs ys : List X) (x : X) → Has ys x → Has (xs ++ ys) x
has-right [] ys x h = h
has-right (y ∷ xs) ys x h = inr (has-right xs ys x h)

pub has-contains : {X : Type 0} (xs : List X) (x : X) → Has xs x → Contains xs x
has-contains [] x h = absurd h
has-contains (y ∷ ys) x (inl e) = subst (λ z. Contains (y ∷ ys) z) e (first_in y ys)
has-contains (y ∷ ys) x (inr h) = rest_in y ys x (has-contains ys x h)

pub contains-has : {X : Type 0} (xs : List X) (x : X) → Contains xs x → Has xs x
contains-has [] x h = absurd (none_in x h)
contains-has (y ∷ ys) x h = elim (first_or_rest y ys x h) [ inl e ↦ inl e | inr g ↦ inr (contains-has ys x g) ]

long-both : {X : Type 0} (xs ys : List X) → length (xs ++ ys) ≡ length xs + length ys
long-both [] ys = omega arith
long-both (x ∷ xs) ys = omega (arith, long-both xs ys)

-- ---- the locations

abbrev mutual
  pub places_of : Location → Schema → List Location
  places_of l (boolean b) = l ∷ []
  places_of l (object p ss ls ns) = l ∷ (same_places l ss ++ lists_places l ls ++ named_places l ns)

  same_places : Location → Same → List Location
  same_places l no_same = []
  same_places l (same_value all any one none c) =
      list_places (l ++ codes "allOf" ∷ []) all ++ list_places (l ++ codes "anyOf" ∷ []) any ++ list_places (l ++ codes "oneOf" ∷ []) one ++ maybe_places (l ++ codes "not" ∷ []) none

  lists_places : Location → Lists → List Location
  lists_places l no_lists = []
  lists_places l (lists places rest contains c) =
      items_places (l ++ codes "items" ∷ []) places ++ maybe_places (l ++ codes "additionalItems" ∷ []) rest ++ maybe_places (l ++ codes "contains" ∷ []) contains

  named_places : Location → Named → List Location
  named_places l no_named = []
  named_places l (named props patterns rest names c) =
      names_places (l ++ codes "properties" ∷ []) props ++ names_places (l ++ codes "patternProperties" ∷ []) patterns
      ++ maybe_places (l ++ codes "additionalProperties" ∷ []) rest ++ maybe_places (l ++ codes "propertyNames" ∷ []) names

  maybe_places : Location → MaybeSchema → List Location
  maybe_places l no_schema = []
  maybe_places l (the_schema s) = places_of l s

  list_places : Location → MaybeSchemas → List Location
  list_places l no_list = []
  list_places l (the_list ss) = all_places l 0 ss

  all_places : Location → ℕ → Schemas → List Location
  all_places l i no_more = []
  all_places l i (schema s ss) = places_of (l ++ place i ∷ []) s ++ all_places l (suc i) ss

  items_places : Location → Places → List Location
  items_places l no_items = []
  items_places l (each_item s) = places_of l s
  items_places l (by_place ss) = all_places l 0 ss

  names_places : Location → Properties → List Location
  names_places l no_properties = []
  names_places l (property n s ps) = places_of (l ++ n ∷ []) s ++ names_places l ps

abbrev definitions_places : List Definition → List Location
definitions_places [] = []
definitions_places (e ∷ es) = places_of (definition_location e) e.body ++ definitions_places es

abbrev pub document_places : Document → List Location
document_places d = places_of [] d.root ++ definitions_places d.definitions

-- ---- how many they are

mutual
  as_many : (l : Location) (s : Schema) → length (places_of l s) ≡ schema_nodes s
  as_many l (boolean b) = refl
  as_many l (object p ss ls ns) =
      omega (arith, long-both (same_places l ss ++ lists_places l ls) (named_places l ns), long-both (same_places l ss) (lists_places l ls), as_many-same l ss, as_many-lists l ls, as_many-named l ns)

  as_many-same : (l : Location) (ss : Same) → length (same_places l ss) ≡ same_nodes ss
  as_many-same l no_same = refl
  as_many-same l (same_value all any one none c) =
      let a : List Location = list_places (l ++ codes "allOf" ∷ []) all in
      let b : List Location = list_places (l ++ codes "anyOf" ∷ []) any in
      let o : List Location = list_places (l ++ codes "oneOf" ∷ []) one in
      let n : List Location = maybe_places (l ++ codes "not" ∷ []) none in
      omega (arith, long-both (a ++ b ++ o) n, long-both (a ++ b) o, long-both a b, as_many-list (l ++ codes "allOf" ∷ []) all, as_many-list (l ++ codes "anyOf" ∷ []) any, as_many-list (l ++ codes "oneOf" ∷ []) one, as_many-maybe (l ++ codes "not" ∷ []) none)

  as_many-lists : (l : Location) (ls : Lists) → length (lists_places l ls) ≡ lists_nodes ls
  as_many-lists l no_lists = refl
  as_many-lists l (lists places rest contains c) =
      let a : List Location = items_places (l ++ codes "items" ∷ []) places in
      let b : List Location = maybe_places (l ++ codes "additionalItems" ∷ []) rest in
      let o : List Location = maybe_places (l ++ codes "contains" ∷ []) contains in
      omega (arith, long-both (a ++ b) o, long-both a b, as_many-items (l ++ codes "items" ∷ []) places, as_many-maybe (l ++ codes "additionalItems" ∷ []) rest, as_many-maybe (l ++ codes "contains" ∷ []) contains)

  as_many-named : (l : Location) (ns : Named) → length (named_places l ns) ≡ named_nodes ns
  as_many-named l no_named = refl
  as_many-named l (named props patterns rest names c) =
      let a : List Location = names_places (l ++ codes "properties" ∷ []) props in
      let b : List Location = names_places (l ++ codes "patternProperties" ∷ []) patterns in
      let o : List Location = maybe_places (l ++ codes "additionalProperties" ∷ []) rest in
      let n : List Location = maybe_places (l ++ codes "propertyNames" ∷ []) names in
      omega (arith, long-both (a ++ b ++ o) n, long-both (a ++ b) o, long-both a b, as_many-names (l ++ codes "properties" ∷ []) props, as_many-names (l ++ codes "patternProperties" ∷ []) patterns, as_many-maybe (l ++ codes "additionalProperties" ∷ []) rest, as_many-maybe (l ++ codes "propertyNames" ∷ []) names)

  as_many-maybe : (l : Location) (m : MaybeSchema) → length (maybe_places l m) ≡ maybe_nodes m
  as_many-maybe l no_schema = refl
  as_many-maybe l (the_schema s) = as_many l s

  as_many-list : (l : Location) (m : MaybeSchemas) → length (list_places l m) ≡ maybe_list_nodes m
  as_many-list l no_list = refl
  as_many-list l (the_list ss) = as_many-all l 0 ss

  as_many-all : (l : Location) (i : ℕ) (ss : Schemas) → length (all_places l i ss) ≡ schemas_nodes ss
  as_many-all l i no_more = refl
  as_many-all l i (schema s ss) = omega (arith, long-both (places_of (l ++ place i ∷ []) s) (all_places l (suc i) ss), as_many (l ++ place i ∷ []) s, as_many-all l (suc i) ss)

  as_many-items : (l : Location) (p : Places) → length (items_places l p) ≡ places_nodes p
  as_many-items l no_items = refl
  as_many-items l (each_item s) = as_many l s
  as_many-items l (by_place ss) = as_many-all l 0 ss

  as_many-names : (l : Location) (ps : Properties) → length (names_places l ps) ≡ properties_nodes ps
  as_many-names l no_properties = refl
  as_many-names l (property n s ps) = omega (arith, long-both (places_of (l ++ n ∷ []) s) (names_places l ps), as_many (l ++ n ∷ []) s, as_many-names l ps)

as_many-definitions : (es : List Definition) → length (definitions_places es) ≡ definitions_nodes es
as_many-definitions [] = refl
as_many-definitions (e ∷ es) = omega (arith, long-both (places_of (definition_location e) e.body) (definitions_places es), as_many (definition_location e) e.body, as_many-definitions es)

pub as_many_as_schemas : (d : Document) → length (document_places d) ≡ nodes d
as_many_as_schemas d = omega (arith, long-both (places_of [] d.root) (definitions_places d.definitions), as_many [] d.root, as_many-definitions d.definitions)

-- ---- each is among them

-- the steps lead on from there to a schema
abbrev Leads : Location → Option Node → Schema → Type 0
Leads ks o t = option_and_then node_schema (option_and_then (along ks) o) ≡ Some t

nowhere : (t : Schema) → None ≡ Some t → ⊥
nowhere t e = cc

-- below one more step
moved : (xs : List Location) (l : Location) (k q : Step) (ks : Location) → k ≡ q → Has xs ((l ++ q ∷ []) ++ ks) → Has xs (l ++ k ∷ ks)
moved xs l k q ks e h = subst (λ m. Has xs m) (append_assoc l (q ∷ []) ks ∙ ap (λ x. l ++ x ∷ ks) (sym e)) h

chosen : (k q : Step) (ks : Location) (o u : Option Node) (t : Schema) (b : Bool) → bytes_eq k q ≡ b → Leads ks (if b then o else u) t → ((k ≡ q) × Leads ks o t) ⊎ Leads ks u t
chosen k q ks o u t true e h = inl ((bytes_eq-Decides k q).0 e, h)
chosen k q ks o u t false e h = inr h

mutual
  among : (l m : Location) (s t : Schema) → Leads m (Some (at_schema s)) t → Has (places_of l s) (l ++ m)
  among l [] (boolean b) t e = inl (sym (append-nil l))
  among l [] (object p ss ls ns) t e = inl (sym (append-nil l))
  among l (k ∷ ks) (boolean b) t e = absurd (nowhere t e)
  among l (k ∷ ks) (object p ss ls ns) t e = inr (by (λ h. among-same l k ks ss t h) (λ h. among-lists l k ks ls t h) (λ h. among-named l k ks ns t h) (same_node k ss) refl e)
    where
      by_rest : (Leads ks (lists_node k ls) t → Has (lists_places l ls) (l ++ k ∷ ks)) → (Leads ks (named_node k ns) t → Has (named_places l ns) (l ++ k ∷ ks)) → (o : Option Node) → lists_node k ls ≡ o → Leads ks (either_node o (named_node k ns)) t
          → Has (same_places l ss ++ lists_places l ls ++ named_places l ns) (l ++ k ∷ ks)
      by_rest in_lists in_named (Some n) f g =
          has-left (same_places l ss ++ lists_places l ls) (named_places l ns) (l ++ k ∷ ks)
          (has-right (same_places l ss) (lists_places l ls) (l ++ k ∷ ks) (in_lists (subst (λ o. Leads ks o t) (sym f) g)))
      by_rest in_lists in_named None f g = has-right (same_places l ss ++ lists_places l ls) (named_places l ns) (l ++ k ∷ ks) (in_named g)

      by : (Leads ks (same_node k ss) t → Has (same_places l ss) (l ++ k ∷ ks)) → (Leads ks (lists_node k ls) t → Has (lists_places l ls) (l ++ k ∷ ks)) → (Leads ks (named_node k ns) t → Has (named_places l ns) (l ++ k ∷ ks))
          → (o : Option Node) → same_node k ss ≡ o → Leads ks (either_node o (either_node (lists_node k ls) (named_node k ns))) t → Has (same_places l ss ++ lists_places l ls ++ named_places l ns) (l ++ k ∷ ks)
      by in_same in_lists in_named (Some n) f g =
          has-left (same_places l ss ++ lists_places l ls) (named_places l ns) (l ++ k ∷ ks) (has-left (same_places l ss) (lists_places l ls) (l ++ k ∷ ks) (in_same (subst (λ o. Leads ks o t) (sym f) g)))
      by in_same in_lists in_named None f g = by_rest in_lists in_named (lists_node k ls) refl g

  among-same : (l : Location) (k : Step) (ks : Location) (ss : Same) (t : Schema) → Leads ks (same_node k ss) t → Has (same_places l ss) (l ++ k ∷ ks)
  among-same l k ks no_same t e = absurd (nowhere t e)
  among-same l k ks (same_value all any one none c) t e =
      let a : List Location = list_places (l ++ codes "allOf" ∷ []) all in
      let b : List Location = list_places (l ++ codes "anyOf" ∷ []) any in
      let o : List Location = list_places (l ++ codes "oneOf" ∷ []) one in
      let n : List Location = maybe_places (l ++ codes "not" ∷ []) none in
      let m : Location = l ++ k ∷ ks in
      let last : Option Node = if bytes_eq k (codes "not") then maybe_node none else None in
      let third : Option Node = if bytes_eq k (codes "oneOf") then list_node one else last in
      let second : Option Node = if bytes_eq k (codes "anyOf") then list_node any else third in
      elim (chosen k (codes "allOf") ks (list_node all) second t (bytes_eq k (codes "allOf")) refl e) [
        | inl h ↦ has-left (a ++ b ++ o) n m (has-left (a ++ b) o m (has-left a b m (moved a l k (codes "allOf") ks h.0 (among-list (l ++ codes "allOf" ∷ []) ks all t h.1))))
        | inr e ↦ elim (chosen k (codes "anyOf") ks (list_node any) third t (bytes_eq k (codes "anyOf")) refl e) [
          | inl h ↦ has-left (a ++ b ++ o) n m (has-left (a ++ b) o m (has-right a b m (moved b l k (codes "anyOf") ks h.0 (among-list (l ++ codes "anyOf" ∷ []) ks any t h.1))))
          | inr e ↦ elim (chosen k (codes "oneOf") ks (list_node one) last t (bytes_eq k (codes "oneOf")) refl e) [
            | inl h ↦ has-left (a ++ b ++ o) n m (has-right (a ++ b) o m (moved o l k (codes "oneOf") ks h.0 (among-list (l ++ codes "oneOf" ∷ []) ks one t h.1)))
            | inr e ↦ elim (chosen k (codes "not") ks (maybe_node none) None t (bytes_eq k (codes "not")) refl e) [
              | inl h ↦ has-right (a ++ b ++ o) n m (moved n l k (codes "not") ks h.0 (among-maybe (l ++ codes "not" ∷ []) ks none t h.1))
              | inr e ↦ absurd (nowhere t e)
            ]
          ]
        ]
      ]

  among-lists : (l : Location) (k : Step) (ks : Location) (ls : Lists) (t : Schema) → Leads ks (lists_node k ls) t → Has (lists_places l ls) (l ++ k ∷ ks)
  among-lists l k ks no_lists t e = absurd (nowhere t e)
  among-lists l k ks (lists places rest contains c) t e =
      let a : List Location = items_places (l ++ codes "items" ∷ []) places in
      let b : List Location = maybe_places (l ++ codes "additionalItems" ∷ []) rest in
      let o : List Location = maybe_places (l ++ codes "contains" ∷ []) contains in
      let m : Location = l ++ k ∷ ks in
      let last : Option Node = if bytes_eq k (codes "contains") then maybe_node contains else None in
      let second : Option Node = if bytes_eq k (codes "additionalItems") then maybe_node rest else last in
      elim (chosen k (codes "items") ks (places_node places) second t (bytes_eq k (codes "items")) refl e) [
        | inl h ↦ has-left (a ++ b) o m (has-left a b m (moved a l k (codes "items") ks h.0 (among-items (l ++ codes "items" ∷ []) ks places t h.1)))
        | inr e ↦ elim (chosen k (codes "additionalItems") ks (maybe_node rest) last t (bytes_eq k (codes "additionalItems")) refl e) [
          | inl h ↦ has-left (a ++ b) o m (has-right a b m (moved b l k (codes "additionalItems") ks h.0 (among-maybe (l ++ codes "additionalItems" ∷ []) ks rest t h.1)))
          | inr e ↦ elim (chosen k (codes "contains") ks (maybe_node contains) None t (bytes_eq k (codes "contains")) refl e) [
            | inl h ↦ has-right (a ++ b) o m (moved o l k (codes "contains") ks h.0 (among-maybe (l ++ codes "contains" ∷ []) ks contains t h.1))
            | inr e ↦ absurd (nowhere t e)
          ]
        ]
      ]

  among-named : (l : Location) (k : Step) (ks : Location) (ns : Named) (t : Schema) → Leads ks (named_node k ns) t → Has (named_places l ns) (l ++ k ∷ ks)
  among-named l k ks no_named t e = absurd (nowhere t e)
  among-named l k ks (named props patterns rest names c) t e =
      let a : List Location = names_places (l ++ codes "properties" ∷ []) props in
      let b : List Location = names_places (l ++ codes "patternProperties" ∷ []) patterns in
      let o : List Location = maybe_places (l ++ codes "additionalProperties" ∷ []) rest in
      let n : List Location = maybe_places (l ++ codes "propertyNames" ∷ []) names in
      let m : Location = l ++ k ∷ ks in
      let last : Option Node = if bytes_eq k (codes "propertyNames") then maybe_node names else None in
      let third : Option Node = if bytes_eq k (codes "additionalProperties") then maybe_node rest else last in
      let second : Option Node = if bytes_eq k (codes "patternProperties") then Some (at_names patterns) else third in
      elim (chosen k (codes "properties") ks (Some (at_names props)) second t (bytes_eq k (codes "properties")) refl e) [
        | inl h ↦ has-left (a ++ b ++ o) n m (has-left (a ++ b) o m (has-left a b m (moved a l k (codes "properties") ks h.0 (among-names (l ++ codes "properties" ∷ []) ks props t h.1))))
        | inr e ↦ elim (chosen k (codes "patternProperties") ks (Some (at_names patterns)) third t (bytes_eq k (codes "patternProperties")) refl e) [
          | inl h ↦ has-left (a ++ b ++ o) n m (has-left (a ++ b) o m (has-right a b m (moved b l k (codes "patternProperties") ks h.0 (among-names (l ++ codes "patternProperties" ∷ []) ks patterns t h.1))))
          | inr e ↦ elim (chosen k (codes "additionalProperties") ks (maybe_node rest) last t (bytes_eq k (codes "additionalProperties")) refl e) [
            | inl h ↦ has-left (a ++ b ++ o) n m (has-right (a ++ b) o m (moved o l k (codes "additionalProperties") ks h.0 (among-maybe (l ++ codes "additionalProperties" ∷ []) ks rest t h.1)))
            | inr e ↦ elim (chosen k (codes "propertyNames") ks (maybe_node names) None t (bytes_eq k (codes "propertyNames")) refl e) [
              | inl h ↦ has-right (a ++ b ++ o) n m (moved n l k (codes "propertyNames") ks h.0 (among-maybe (l ++ codes "propertyNames" ∷ []) ks names t h.1))
              | inr e ↦ absurd (nowhere t e)
            ]
          ]
        ]
      ]

  among-maybe : (l ks : Location) (m : MaybeSchema) (t : Schema) → Leads ks (maybe_node m) t → Has (maybe_places l m) (l ++ ks)
  among-maybe l ks no_schema t e = absurd (nowhere t e)
  among-maybe l ks (the_schema s) t e = among l ks s t e

  among-list : (l ks : Location) (m : MaybeSchemas) (t : Schema) → Leads ks (list_node m) t → Has (list_places l m) (l ++ ks)
  among-list l ks no_list t e = absurd (nowhere t e)
  among-list l [] (the_list ss) t e = absurd (nowhere t e)
  among-list l (j ∷ js) (the_list ss) t e = among-all l 0 j js ss t e

  among-all : (l : Location) (i : ℕ) (j : Step) (js : Location) (ss : Schemas) (t : Schema) → Leads js (maybe_node (schema_in j i ss)) t → Has (all_places l i ss) (l ++ j ∷ js)
  among-all l i j js no_more t e = absurd (nowhere t e)
  among-all l i j js (schema s ss) t e = by (bytes_eq j (place i)) refl (λ h. among (l ++ place i ∷ []) js s t h) (λ h. among-all l (suc i) j js ss t h) e
    where
      by : (b : Bool) → bytes_eq j (place i) ≡ b → (Leads js (Some (at_schema s)) t → Has (places_of (l ++ place i ∷ []) s) ((l ++ place i ∷ []) ++ js))
          → (Leads js (maybe_node (schema_in j (suc i) ss)) t → Has (all_places l (suc i) ss) (l ++ j ∷ js)) → Leads js (maybe_node (if b then the_schema s else schema_in j (suc i) ss)) t
          → Has (places_of (l ++ place i ∷ []) s ++ all_places l (suc i) ss) (l ++ j ∷ js)
      by true f here later h = has-left (places_of (l ++ place i ∷ []) s) (all_places l (suc i) ss) (l ++ j ∷ js) (moved (places_of (l ++ place i ∷ []) s) l j (place i) js ((bytes_eq-Decides j (place i)).0 f) (here h))
      by false f here later h = has-right (places_of (l ++ place i ∷ []) s) (all_places l (suc i) ss) (l ++ j ∷ js) (later h)

  among-items : (l ks : Location) (p : Places) (t : Schema) → Leads ks (places_node p) t → Has (items_places l p) (l ++ ks)
  among-items l ks no_items t e = absurd (nowhere t e)
  among-items l ks (each_item s) t e = among l ks s t e
  among-items l [] (by_place ss) t e = absurd (nowhere t e)
  among-items l (j ∷ js) (by_place ss) t e = among-all l 0 j js ss t e

  among-names : (l ks : Location) (ps : Properties) (t : Schema) → Leads ks (Some (at_names ps)) t → Has (names_places l ps) (l ++ ks)
  among-names l [] no_properties t e = absurd (nowhere t e)
  among-names l [] (property n s ps) t e = absurd (nowhere t e)
  among-names l (j ∷ js) no_properties t e = absurd (nowhere t e)
  among-names l (j ∷ js) (property n s ps) t e = by (bytes_eq j n) refl (λ h. among (l ++ n ∷ []) js s t h) (λ h. among-names l (j ∷ js) ps t h) e
    where
      by : (b : Bool) → bytes_eq j n ≡ b → (Leads js (Some (at_schema s)) t → Has (places_of (l ++ n ∷ []) s) ((l ++ n ∷ []) ++ js))
          → (Leads js (maybe_node (property_at j ps)) t → Has (names_places l ps) (l ++ j ∷ js)) → Leads js (maybe_node (if b then the_schema s else property_at j ps)) t
          → Has (places_of (l ++ n ∷ []) s ++ names_places l ps) (l ++ j ∷ js)
      by true f here later h = has-left (places_of (l ++ n ∷ []) s) (names_places l ps) (l ++ j ∷ js) (moved (places_of (l ++ n ∷ []) s) l j n js ((bytes_eq-Decides j n).0 f) (here h))
      by false f here later h = has-right (places_of (l ++ n ∷ []) s) (names_places l ps) (l ++ j ∷ js) (later h)

-- ---- definitions

same_bool_sound : (a b : Bool) → same_bool a b ≡ true → a ≡ b
same_bool_sound true true e = refl
same_bool_sound false false e = refl
same_bool_sound true false e = absurd (true≢false (sym e))
same_bool_sound false true e = absurd (true≢false (sym e))

among-definitions : (b : Bool) (n : Step) (ns : Location) (es : List Definition) (t : Schema) → Leads ns (definition_node b (defined n es)) t → Has (definitions_places es) (definition_word b ∷ n ∷ ns)
among-definitions b n ns [] t h = absurd (nowhere t h)
among-definitions b n ns (e ∷ es) t h = by (bytes_eq n e.name) refl (λ k. among-definitions b n ns es t k) h
  where
    here : n ≡ e.name → (c : Bool) → same_bool e.under_defs b ≡ c → Leads ns (if c then Some (at_schema e.body) else None) t → Has (places_of (definition_location e) e.body) (definition_word b ∷ n ∷ ns)
    here f false g k = absurd (nowhere t k)
    here f true g k =
        subst (λ m. Has (places_of (definition_location e) e.body) m) (λ i. definition_word (same_bool_sound e.under_defs b g i) ∷ sym f i ∷ ns) (among (definition_location e) ns e.body t k)

    by : (c : Bool) → bytes_eq n e.name ≡ c → (Leads ns (definition_node b (defined n es)) t → Has (definitions_places es) (definition_word b ∷ n ∷ ns)) → Leads ns (definition_node b (if c then Some e else defined n es)) t
        → Has (definitions_places (e ∷ es)) (definition_word b ∷ n ∷ ns)
    by true f later k = has-left (places_of (definition_location e) e.body) (definitions_places es) (definition_word b ∷ n ∷ ns) (here ((bytes_eq-Decides n e.name).0 f) (same_bool e.under_defs b) refl k)
    by false f later k = has-right (places_of (definition_location e) e.body) (definitions_places es) (definition_word b ∷ n ∷ ns) (later k)

module _ (d : Document) where
  below-definitions : (b : Bool) (k : Step) (ks : Location) (t : Schema) → k ≡ definition_word b → Leads ks (Some (at_definitions b d)) t → Has (document_places d) (k ∷ ks)
  below-definitions b k [] t f h = absurd (nowhere t h)
  below-definitions b k (n ∷ ns) t f h =
      subst (λ x. Has (document_places d) (x ∷ n ∷ ns)) (sym f) (has-right (places_of [] d.root) (definitions_places d.definitions) (definition_word b ∷ n ∷ ns) (among-definitions b n ns d.definitions t h))

  -- each location at which a schema stands
  pub stands_among : (l : Location) (t : Schema) → schema_at d l ≡ Some t → Has (document_places d) l
  stands_among [] t h = has-left (places_of [] d.root) (definitions_places d.definitions) [] (among [] [] d.root d.root refl)
  stands_among (k ∷ ks) t h =
      let rest : Option Node = schema_node k d.root in
      let second : Option Node = if bytes_eq k (definition_word true) then Some (at_definitions true d) else rest in
      elim (chosen k (definition_word false) ks (Some (at_definitions false d)) second t (bytes_eq k (definition_word false)) refl h) [
        | inl g ↦ below-definitions false k ks t g.0 g.1
        | inr g ↦ elim (chosen k (definition_word true) ks (Some (at_definitions true d)) rest t (bytes_eq k (definition_word true)) refl g) [
          | inl g ↦ below-definitions true k ks t g.0 g.1
          | inr g ↦ has-left (places_of [] d.root) (definitions_places d.definitions) (k ∷ ks) (among [] (k ∷ ks) d.root t g)
        ]
      ]
