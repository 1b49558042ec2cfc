-- Documents each reference of which passes a test: then so does the reference of whatever stands at a location.
use Rattle.std.proofs.Common.{◌≡◌, ℕ, suc, List, [], ◌∷◌, Option, Some, None, Bool, true, false, bytes_eq, subst}
use Rattle.std.specs.Prelude.{codes, if◌then◌else◌}
use Rattle.json_value.specs.Value.{same_bool}
use Rattle.schema_defs.specs.Location.{Step, Location, place}
use Rattle.schema_defs.specs.Schema.{Plain, Schema, boolean, object, Same, no_same, same_value, Lists, no_lists, lists, Named, no_named, named, MaybeSchema, no_schema, the_schema, MaybeSchemas, no_list, the_list, Schemas, no_more, schema, Places, no_items, each_item, by_place, Properties, no_properties, property, Definition, Document}
use Rattle.schema_defs.specs.Layer.{property_at}
use Rattle.schema_defs.specs.Admits.{defined, definition_word}
use Rattle.schema_defs.specs.Children.{Node, at_document, at_definitions, at_schema, at_list, at_names, maybe_node, list_node, places_node, same_node, lists_node, named_node, either_node, schema_node, schema_in, definition_node, node_at, along, node_schema, schema_at, reference_of}
use Rattle.each_schema.specs.Each.{EachSchema, EachInSame, EachInLists, EachInNamed, EachInMaybe, EachInList, EachInAll, EachInPlaces, EachInProperties, EachInDefinitions, EachInDocument, of_any_size}
use Rattle.schema_laws.proofs.Options.{IfThere, chosen, followed}

module _ (p : List ℕ → Bool) where
  abbrev pub Passes : Option (List ℕ) → Type 0
  Passes o = IfThere (λ q. p q ≡ true) o

  -- the reference of each schema passes
  abbrev pub HasPassing : Plain → Named → Type 0
  HasPassing r ns = Passes r.reference

  abbrev pub Fine : Schema → Type 0
  Fine = EachSchema HasPassing of_any_size

  abbrev pub FineSame : Same → Type 0
  FineSame = EachInSame HasPassing of_any_size

  abbrev pub FineLists : Lists → Type 0
  FineLists = EachInLists HasPassing of_any_size

  abbrev pub FineNamed : Named → Type 0
  FineNamed = EachInNamed HasPassing of_any_size

  abbrev pub FineMaybe : MaybeSchema → Type 0
  FineMaybe = EachInMaybe HasPassing of_any_size

  abbrev pub FineList : MaybeSchemas → Type 0
  FineList = EachInList HasPassing of_any_size

  abbrev pub FineAll : Schemas → Type 0
  FineAll = EachInAll HasPassing of_any_size

  abbrev pub FinePlaces : Places → Type 0
  FinePlaces = EachInPlaces HasPassing of_any_size

  abbrev pub FineNames : Properties → Type 0
  FineNames = EachInProperties HasPassing of_any_size

  abbrev pub FineDefinitions : List Definition → Type 0
  FineDefinitions = EachInDefinitions HasPassing of_any_size

  abbrev pub FineDocument : Document → Type 0
  FineDocument = EachInDocument HasPassing of_any_size

  -- ---- where steps lead

  abbrev FineNode : Node → Type 0
  FineNode (at_document d) = FineDocument d
  FineNode (at_definitions b d) = FineDocument d
  FineNode (at_schema s) = Fine s
  FineNode (at_list ss) = FineAll ss
  FineNode (at_names ps) = FineNames ps

  abbrev FineStep : Option Node → Type 0
  FineStep o = IfThere FineNode o

  one_of : (b : Bool) (x y : Option Node) → FineStep x → FineStep y → FineStep (if b then x else y)
  one_of b x y h g = chosen FineStep b x y h g

  at_maybe : (m : MaybeSchema) → FineMaybe m → FineStep (maybe_node m)
  at_maybe no_schema h = tt
  at_maybe (the_schema s) h = h

  at_some_list : (m : MaybeSchemas) → FineList m → FineStep (list_node m)
  at_some_list no_list h = tt
  at_some_list (the_list ss) h = h

  at_places : (ps : Places) → FinePlaces ps → FineStep (places_node ps)
  at_places no_items h = tt
  at_places (each_item s) h = h
  at_places (by_place ss) h = h

  at_same : (k : Step) (ss : Same) → FineSame ss → FineStep (same_node k ss)
  at_same k no_same h = tt
  at_same k (same_value all any one none conditional) h =
      one_of (bytes_eq k (codes "allOf")) (list_node all) _ (at_some_list all h.0)
      (one_of (bytes_eq k (codes "anyOf")) (list_node any) _ (at_some_list any h.1)
      (one_of (bytes_eq k (codes "oneOf")) (list_node one) _ (at_some_list one h.2)
      (one_of (bytes_eq k (codes "not")) (maybe_node none) None (at_maybe none h.3) tt)))

  at_lists : (k : Step) (ls : Lists) → FineLists ls → FineStep (lists_node k ls)
  at_lists k no_lists h = tt
  at_lists k (lists places rest contains rules) h =
      one_of (bytes_eq k (codes "items")) (places_node places) _ (at_places places h.0)
      (one_of (bytes_eq k (codes "additionalItems")) (maybe_node rest) _ (at_maybe rest h.1)
      (one_of (bytes_eq k (codes "contains")) (maybe_node contains) None (at_maybe contains h.2) tt))

  at_named : (k : Step) (ns : Named) → FineNamed ns → FineStep (named_node k ns)
  at_named k no_named h = tt
  at_named k (named props patterns rest names rules) h =
      one_of (bytes_eq k (codes "properties")) (Some (at_names props)) _ h.0
      (one_of (bytes_eq k (codes "patternProperties")) (Some (at_names patterns)) _ h.1
      (one_of (bytes_eq k (codes "additionalProperties")) (maybe_node rest) _ (at_maybe rest h.2)
      (one_of (bytes_eq k (codes "propertyNames")) (maybe_node names) None (at_maybe names h.3) tt)))

  either : (x y : Option Node) → FineStep x → FineStep y → FineStep (either_node x y)
  either None y h g = g
  either (Some n) y h g = h

  below_schema : (k : Step) (s : Schema) → Fine s → FineStep (schema_node k s)
  below_schema k (boolean b) h = tt
  below_schema k (object r ss ls ns) h =
      either (same_node k ss) (either_node (lists_node k ls) (named_node k ns)) (at_same k ss h.1) (either (lists_node k ls) (named_node k ns) (at_lists k ls h.2) (at_named k ns h.3))

  below_list : (k : Step) (i : ℕ) (ss : Schemas) → FineAll ss → FineMaybe (schema_in k i ss)
  below_list k i no_more h = tt
  below_list k i (schema s ss) h = chosen FineMaybe (bytes_eq k (place i)) (the_schema s) (schema_in k (suc i) ss) h.0 (below_list k (suc i) ss h.1)

  below_names : (k : Step) (ps : Properties) → FineNames ps → FineMaybe (property_at k ps)
  below_names k no_properties h = tt
  below_names k (property n s ps) h = chosen FineMaybe (bytes_eq k n) (the_schema s) (property_at k ps) h.0 (below_names k ps h.1)

  find_definition : (k : Step) (ds : List Definition) → FineDefinitions ds → IfThere (λ e. Fine e.body) (defined k ds)
  find_definition k [] h = tt
  find_definition k (d ∷ ds) h = chosen (IfThere (λ (e : Definition). Fine e.body)) (bytes_eq k d.name) (Some d) (defined k ds) h.0 (find_definition k ds h.1)

  below_definitions : (b : Bool) (o : Option Definition) → IfThere (λ e. Fine e.body) o → FineStep (definition_node b o)
  below_definitions b None h = tt
  below_definitions b (Some e) h = one_of (same_bool e.under_defs b) (Some (at_schema e.body)) None h tt

  one_step : (k : Step) (n : Node) → FineNode n → FineStep (node_at k n)
  one_step k (at_document d) h =
      one_of (bytes_eq k (definition_word false)) (Some (at_definitions false d)) _ h
      (one_of (bytes_eq k (definition_word true)) (Some (at_definitions true d)) (schema_node k d.root) h (below_schema k d.root h.0))
  one_step k (at_definitions b d) h = below_definitions b (defined k d.definitions) (find_definition k d.definitions h.1)
  one_step k (at_schema s) h = below_schema k s h
  one_step k (at_list ss) h = at_maybe (schema_in k 0 ss) (below_list k 0 ss h)
  one_step k (at_names ps) h = at_maybe (property_at k ps) (below_names k ps h)

  steps : (l : Location) (n : Node) → FineNode n → FineStep (along l n)
  steps [] n h = h
  steps (k ∷ ks) n h = followed FineNode FineNode (along ks) (node_at k n) (one_step k n h) (steps ks)

  the_schema_there : (n : Node) → FineNode n → IfThere Fine (node_schema n)
  the_schema_there (at_document d) h = h.0
  the_schema_there (at_definitions b d) h = tt
  the_schema_there (at_schema s) h = h
  the_schema_there (at_list ss) h = tt
  the_schema_there (at_names ps) h = tt

  own : (s : Schema) → Fine s → Passes (reference_of s)
  own (boolean b) h = tt
  own (object r ss ls ns) h = h.0

  -- each reference of a fine document passes
  pub each_passes : (d : Document) → FineDocument d → (l : Location) (s : Schema) (q : List ℕ) → schema_at d l ≡ Some s → reference_of s ≡ Some q → p q ≡ true
  each_passes d h l s q e f =
      let stands : IfThere Fine (schema_at d l) = followed FineNode Fine node_schema (along l (at_document d)) (steps l (at_document d) h) the_schema_there in
      subst Passes f (own s (subst (IfThere Fine) e stands))
