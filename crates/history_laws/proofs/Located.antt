-- What holds of the root and of each definition, and of all schemas inside one of which it holds, holds of the schema at each location.
use Rattle.std.proofs.Common.{◌≡◌, ℕ, suc, List, [], ◌∷◌, Bool, true, false, Option, Some, None, bytes_eq, codes, subst}
use Rattle.std.specs.Prelude.{option_and_then, if◌then◌else◌}
use Rattle.std.specs.List.{AllByRecursion}
use Rattle.json_value.specs.Value.{same_bool}
use Rattle.schema_defs.specs.Location.{Step, Location, place}
use Rattle.schema_defs.specs.Schema.{Plain, Schema, boolean, object, Same, no_same, same_value, Lists, no_lists, lists, Named, no_named, named, MaybeSchema, no_schema, the_schema, MaybeSchemas, no_list, the_list, Schemas, no_more, schema, Places, no_items, each_item, by_place, Properties, no_properties, property, ListRules, Definition, Document}
use Rattle.schema_defs.specs.Layer.{property_at}
use Rattle.schema_defs.specs.Admits.{defined, definition_word}
use Rattle.schema_defs.specs.Children.{Node, at_document, at_definitions, at_schema, at_list, at_names, maybe_node, list_node, places_node, same_node, lists_node, named_node, either_node, schema_node, schema_in, definition_node, document_node, node_at, along, node_schema, schema_at}
use Rattle.schema_defs.proofs.Spare.{Given}
use Rattle.each_schema.specs.Each.{EachSchema, EachInSame, EachInLists, EachInNamed, EachInMaybe, EachInList, EachInAll, EachInPlaces, EachInProperties, of_any_size}
use Rattle.convert_defs.specs.Proper.{AreKeywordsProper, IsProper, AllAreProper}
use Rattle.convert_defs.proofs.Bare.{none-some, some-same}
use Rattle.merge_laws.specs.Laws as merge

given-if : {A : Type 0} (Q : A → Type 0) (b : Bool) (x y : Option A) → Given Q x → Given Q y → Given Q (if b then x else y)
given-if Q true x y h g = h
given-if Q false x y h g = g

given-either : (Q : Node → Type 0) (x y : Option Node) → Given Q x → Given Q y → Given Q (either_node x y)
given-either Q None y h g = g
given-either Q (Some m) y h g = h

module _ (At : Plain → Named → Type 0) (sized : ListRules → Type 0) where
  abbrev P : Schema → Type 0
  P = EachSchema At sized

  abbrev Bodies : List Definition → Type 0
  Bodies ds = AllByRecursion (λ e. P e.body) ds

  abbrev OfNode : Node → Type 0
  OfNode (at_document e) = P e.root × Bodies e.definitions
  OfNode (at_definitions b e) = Bodies e.definitions
  OfNode (at_schema s) = P s
  OfNode (at_list ss) = EachInAll At sized ss
  OfNode (at_names ps) = EachInProperties At sized ps

  abbrev IfNode : Option Node → Type 0
  IfNode o = Given OfNode o

  in-maybe : (m : MaybeSchema) → EachInMaybe At sized m → IfNode (maybe_node m)
  in-maybe no_schema h = tt
  in-maybe (the_schema s) h = h

  in-list : (m : MaybeSchemas) → EachInList At sized m → IfNode (list_node m)
  in-list no_list h = tt
  in-list (the_list ss) h = h

  in-places : (m : Places) → EachInPlaces At sized m → IfNode (places_node m)
  in-places no_items h = tt
  in-places (each_item s) h = h
  in-places (by_place ss) h = h

  in-same : (k : Step) (ss : Same) → EachInSame At sized ss → IfNode (same_node k ss)
  in-same k no_same h = tt
  in-same k (same_value all any one none c) h =
      let last : Option Node = if bytes_eq k (codes "not") then maybe_node none else None in
      let third : Option Node = if bytes_eq k (codes "oneOf") then list_node one else last in
      let second : Option Node = if bytes_eq k (codes "anyOf") then list_node any else third in
      given-if OfNode (bytes_eq k (codes "allOf")) (list_node all) second (in-list all h.0)
      (given-if OfNode (bytes_eq k (codes "anyOf")) (list_node any) third (in-list any h.1)
      (given-if OfNode (bytes_eq k (codes "oneOf")) (list_node one) last (in-list one h.2) (given-if OfNode (bytes_eq k (codes "not")) (maybe_node none) None (in-maybe none h.3) tt)))

  in-lists : (k : Step) (ls : Lists) → EachInLists At sized ls → IfNode (lists_node k ls)
  in-lists k no_lists h = tt
  in-lists k (lists places rest contains rules) h =
      let last : Option Node = if bytes_eq k (codes "contains") then maybe_node contains else None in
      let second : Option Node = if bytes_eq k (codes "additionalItems") then maybe_node rest else last in
      given-if OfNode (bytes_eq k (codes "items")) (places_node places) second (in-places places h.0)
      (given-if OfNode (bytes_eq k (codes "additionalItems")) (maybe_node rest) last (in-maybe rest h.1) (given-if OfNode (bytes_eq k (codes "contains")) (maybe_node contains) None (in-maybe contains h.2) tt))

  in-named : (k : Step) (ns : Named) → EachInNamed At sized ns → IfNode (named_node k ns)
  in-named k no_named h = tt
  in-named k (named props patterns rest names rules) h =
      let last : Option Node = if bytes_eq k (codes "propertyNames") then maybe_node names else None in
      let third : Option Node = if bytes_eq k (codes "additionalProperties") then maybe_node rest else last in
      let second : Option Node = if bytes_eq k (codes "patternProperties") then Some (at_names patterns) else third in
      given-if OfNode (bytes_eq k (codes "properties")) (Some (at_names props)) second h.0
      (given-if OfNode (bytes_eq k (codes "patternProperties")) (Some (at_names patterns)) third h.1
      (given-if OfNode (bytes_eq k (codes "additionalProperties")) (maybe_node rest) last (in-maybe rest h.2) (given-if OfNode (bytes_eq k (codes "propertyNames")) (maybe_node names) None (in-maybe names h.3) tt)))

  in-schema : (k : Step) (s : Schema) → P s → IfNode (schema_node k s)
  in-schema k (boolean b) h = tt
  in-schema k (object p ss ls ns) h =
      given-either OfNode (same_node k ss) (either_node (lists_node k ls) (named_node k ns)) (in-same k ss h.1) (given-either OfNode (lists_node k ls) (named_node k ns) (in-lists k ls h.2) (in-named k ns h.3))

  in-all : (k : Step) (i : ℕ) (ss : Schemas) → EachInAll At sized ss → IfNode (maybe_node (schema_in k i ss))
  in-all k i no_more h = tt
  in-all k i (schema s ss) h = by (bytes_eq k (place i)) h.0 (in-all k (suc i) ss h.1)
    where
      by : (b : Bool) → P s → IfNode (maybe_node (schema_in k (suc i) ss)) → IfNode (maybe_node (if b then the_schema s else schema_in k (suc i) ss))
      by true x y = x
      by false x y = y

  in-properties : (k : Step) (ps : Properties) → EachInProperties At sized ps → IfNode (maybe_node (property_at k ps))
  in-properties k no_properties h = tt
  in-properties k (property n s ps) h = by (bytes_eq k n) h.0 (in-properties k ps h.1)
    where
      by : (b : Bool) → P s → IfNode (maybe_node (property_at k ps)) → IfNode (maybe_node (if b then the_schema s else property_at k ps))
      by true x y = x
      by false x y = y

  in-defined : (k : Step) (ds : List Definition) → Bodies ds → Given (λ e. P e.body) (defined k ds)
  in-defined k [] h = tt
  in-defined k (e ∷ ds) h = given-if (λ e. P e.body) (bytes_eq k e.name) (Some e) (defined k ds) h.0 (in-defined k ds h.1)

  in-definition : (b : Bool) (o : Option Definition) → Given (λ e. P e.body) o → IfNode (definition_node b o)
  in-definition b None h = tt
  in-definition b (Some e) h = given-if OfNode (same_bool e.under_defs b) (Some (at_schema e.body)) None h tt

  in-document : (k : Step) (e : Document) → P e.root → Bodies e.definitions → IfNode (document_node k e)
  in-document k e h g =
      given-if OfNode (bytes_eq k (definition_word false)) (Some (at_definitions false e)) (if bytes_eq k (definition_word true) then Some (at_definitions true e) else schema_node k e.root) g
      (given-if OfNode (bytes_eq k (definition_word true)) (Some (at_definitions true e)) (schema_node k e.root) g (in-schema k e.root h))

  one-step : (k : Step) (m : Node) → OfNode m → IfNode (node_at k m)
  one-step k (at_document e) h = in-document k e h.0 h.1
  one-step k (at_definitions b e) h = in-definition b (defined k e.definitions) (in-defined k e.definitions h)
  one-step k (at_schema s) h = in-schema k s h
  one-step k (at_list ss) h = in-all k 0 ss h
  one-step k (at_names ps) h = in-properties k ps h

  all-steps : (l : Location) (m : Node) → OfNode m → IfNode (along l m)
  all-steps [] m h = h
  all-steps (k ∷ ks) m h = by (node_at k m) (one-step k m h) (all-steps ks)
    where
      by : (o : Option Node) → IfNode o → ((m : Node) → OfNode m → IfNode (along ks m)) → IfNode (option_and_then (along ks) o)
      by None x f = tt
      by (Some m) x f = f m x

  at-node : (m : Node) (s : Schema) → OfNode m → node_schema m ≡ Some s → P s
  at-node (at_document e) s h q = subst P (some-same e.root s q) h.0
  at-node (at_schema t) s h q = subst P (some-same t s q) h
  at-node (at_definitions b e) s h q = none-some s q
  at-node (at_list ss) s h q = none-some s q
  at-node (at_names ps) s h q = none-some s q

  pub each-at : (d : Document) → P d.root → AllByRecursion (λ e. P e.body) d.definitions → (l : Location) (s : Schema) → schema_at d l ≡ Some s → P s
  each-at d h g l s e = by (along l (at_document d)) (all-steps l (at_document d) (h, g)) e
    where
      by : (o : Option Node) → IfNode o → option_and_then node_schema o ≡ Some s → P s
      by None x e = none-some s e
      by (Some m) x e = at-node m s x e

-- ---- schemas that are in order, and that are fit for merging

pub proper-at : (sized : ListRules → Type 0) (d : Document) → AllAreProper sized d → (l : Location) (s : Schema) → schema_at d l ≡ Some s → IsProper sized d s
proper-at sized d all l s e = each-at (AreKeywordsProper d) sized d all.root all.definitions l s e

bodies-mergeable : (ds : List Definition) → merge.ProperDefinitions ds → AllByRecursion (λ e. merge.IsProper e.body) ds
bodies-mergeable [] h = tt
bodies-mergeable (e ∷ ds) h = (h.0, bodies-mergeable ds h.1)

pub mergeable-at : (d : Document) → merge.ProperDocument d → (l : Location) (s : Schema) → schema_at d l ≡ Some s → merge.IsProper s
mergeable-at d h l s e = each-at merge.AreKeywordsProper of_any_size d h.0 (bodies-mergeable d.definitions h.1) l s e
