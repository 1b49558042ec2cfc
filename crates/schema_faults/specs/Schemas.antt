-- The schemas of a document, in one order, and where they stand: a schema comes before the schemas inside it, these by the bytes of their keyword, in a list by place, and in an object by name.
use Rattle.std.specs.Prelude.{ℕ, suc, List, [], ◌∷◌, ◌++◌, map, Bool, true, false, Option, Some, None, bytes_eq, if◌then◌else◌}
use Rattle.std.specs.List.{flat_map}
use Rattle.json_value.specs.Value as value
use Rattle.json_value.specs.Value.{Value, Items, Members, null, number, fraction, text, list, item, no_items, member, no_members}
use Rattle.schema_defs.specs.Location.{Step, Location, place}
use Rattle.schema_faults.specs.declared.keyword.Holds.TheVariants.{Schema, SomeSchemas, Schemas, SchemaOrSchemas, NamedSchemas, Defs, Definitions}
use Rattle.schema_faults.specs.Keywords.{Row, keywords, is_known_at, is_schema}

-- what stands where a schema is wanted: the steps that lead there, the keyword that holds it, and whether it is the document itself, which no keyword holds
pub record Node : Type 0 where
  pub at_root : Bool
  pub steps : Location
  pub keyword : List ℕ
  pub value : Value

abbrev pub here : Bool → List ℕ → Value → Node
here at_root k v = record { at_root = at_root; steps = []; keyword = k; value = v }

-- one step further from where the walk begins
abbrev pub below : Step → Node → Node
below s n = record n { steps = s ∷ n.steps }

abbrev pub under : Step → List Node → List Node
under s ns = map (below s) ns

-- a value, and the schemas in it for a keyword that holds it: itself and those inside it, where it is one schema; those of a list; and those of an object by name
pub record Held : Type 0 where
  pub whole : Value
  pub nodes : List ℕ → List Node
  pub in_list : List ℕ → List Node
  pub in_object : List ℕ → List Node

abbrev pub HeldMembers : Type 0
HeldMembers = List (List ℕ × Held)

abbrev pub held_at : List ℕ → HeldMembers → Option Held
held_at n [] = None
held_at n (h ∷ hs) = if bytes_eq n h.0 then Some h.1 else held_at n hs

-- a keyword that wants a schema and holds another kind holds none
abbrev pub one_schema : List ℕ → Held → List Node
one_schema k h = if is_schema h.whole then h.nodes k else []

abbrev pub nodes_in : Row → Held → List Node
nodes_in (k, Schema) h = one_schema k h
nodes_in (k, SomeSchemas) h = h.in_list k
nodes_in (k, Schemas) h = h.in_list k
nodes_in (k, SchemaOrSchemas) h = one_schema k h ++ h.in_list k
nodes_in (k, NamedSchemas) h = h.in_object k
nodes_in (k, Defs) h = h.in_object k
nodes_in (k, Definitions) h = h.in_object k
nodes_in (k, _) h = []

abbrev pub nodes_at : Row → Option Held → List Node
nodes_at r None = []
nodes_at r (Some h) = under r.0 (nodes_in r h)

abbrev pub nodes_of : Bool → HeldMembers → Row → List Node
nodes_of at_root hs r = if is_known_at at_root r.1 then nodes_at r (held_at r.0 hs) else []

-- the schemas inside an object
abbrev pub inside : Bool → HeldMembers → List Node
inside at_root hs = flat_map (nodes_of at_root hs) keywords

-- the schemas of a list, the first of them at place i
abbrev pub list_nodes : List ℕ → ℕ → List Held → List Node
list_nodes k i [] = []
list_nodes k i (h ∷ hs) = under (place i) (h.nodes k) ++ list_nodes k (suc i) hs

abbrev pub object_nodes : List ℕ → HeldMembers → List Node
object_nodes k [] = []
object_nodes k (h ∷ hs) = under h.0 (h.1.nodes k) ++ object_nodes k hs

abbrev pub plain_held : Value → Held
plain_held v = record { whole = v; nodes = λ k. here false k v ∷ []; in_list = λ k. []; in_object = λ k. [] }

abbrev pub list_held : Value → List Held → Held
list_held v hs = record { whole = v; nodes = λ k. here false k v ∷ []; in_list = λ k. list_nodes k 0 hs; in_object = λ k. [] }

abbrev pub object_held : Value → HeldMembers → Held
object_held v hs = record { whole = v; nodes = λ k. here false k v ∷ inside false hs; in_list = λ k. []; in_object = λ k. object_nodes k hs }

abbrev mutual
  pub held : Value → Held
  held (list xs) = list_held (list xs) (held_items xs)
  held (value.object ms) = object_held (value.object ms) (held_members ms)
  held v = plain_held v

  pub held_items : Items → List Held
  held_items no_items = []
  held_items (item v vs) = held v ∷ held_items vs

  pub held_members : Members → HeldMembers
  held_members no_members = []
  held_members (member k v ms) = (k, held v) ∷ held_members ms

abbrev pub inside_value : Bool → Value → List Node
inside_value at_root (value.object ms) = inside at_root (held_members ms)
inside_value at_root _ = []

-- a schema, and the schemas inside it
abbrev pub schema_nodes : Bool → List ℕ → Value → List Node
schema_nodes at_root k v = here at_root k v ∷ inside_value at_root v

-- the schemas of a document
abbrev pub schemas_of : Value → List Node
schemas_of v = schema_nodes true [] v
