-- The schemas inside a schema with the steps that lead to them, and the schema at a location.
use Rattle.std.specs.Prelude.{ℕ, suc, List, [], ◌∷◌, ◌++◌, Bool, true, false, Option, Some, None, option_and_then, bytes_eq, codes, if◌then◌else◌}
use Rattle.json_value.specs.Value.{same_bool}
use Rattle.schema_defs.specs.Location.{Step, Location, place}
use Rattle.schema_defs.specs.Schema.{Schema, boolean, object, Same, no_same, same_value, Lists, no_lists, lists, Named, no_named, named, MaybeSchema, no_schema, the_schema, MaybeSchemas, no_list, the_list, Schemas, no_more, schema, Places, no_items, each_item, by_place, Properties, no_properties, property, Definition, Document}
use Rattle.schema_defs.specs.Layer.{property_at}
use Rattle.schema_defs.specs.Admits.{defined, definition_word}

-- ---- direct subschemas

-- the steps from its owner, and the schema
abbrev pub Child : Type 0
Child = Location × Schema

abbrev pub children_of_maybe : Step → MaybeSchema → List Child
children_of_maybe k no_schema = []
children_of_maybe k (the_schema s) = (k ∷ [], s) ∷ []

-- the schemas of a list, the first of them at place i
abbrev pub children_from : Step → ℕ → Schemas → List Child
children_from k i no_more = []
children_from k i (schema s ss) = (k ∷ place i ∷ [], s) ∷ children_from k (suc i) ss

abbrev pub children_of_list : Step → MaybeSchemas → List Child
children_of_list k no_list = []
children_of_list k (the_list ss) = children_from k 0 ss

abbrev pub children_of_names : Step → Properties → List Child
children_of_names k no_properties = []
children_of_names k (property n s ps) = (k ∷ n ∷ [], s) ∷ children_of_names k ps

abbrev pub children_of_same : Same → List Child
children_of_same no_same = []
children_of_same (same_value all any one none conditional) =
    children_of_list (codes "allOf") all ++ children_of_list (codes "anyOf") any ++ children_of_list (codes "oneOf") one ++ children_of_maybe (codes "not") none

abbrev pub children_of_places : Places → List Child
children_of_places no_items = []
children_of_places (each_item s) = (codes "items" ∷ [], s) ∷ []
children_of_places (by_place ss) = children_from (codes "items") 0 ss

abbrev pub children_of_lists : Lists → List Child
children_of_lists no_lists = []
children_of_lists (lists places rest contains rules) =
    children_of_places places ++ children_of_maybe (codes "additionalItems") rest ++ children_of_maybe (codes "contains") contains

abbrev pub children_of_named : Named → List Child
children_of_named no_named = []
children_of_named (named props patterns rest names rules) =
    children_of_names (codes "properties") props ++ children_of_names (codes "patternProperties") patterns
    ++ children_of_maybe (codes "additionalProperties") rest ++ children_of_maybe (codes "propertyNames") names

-- those that judge the same value: the members of allOf, anyOf and oneOf, and not
abbrev pub same_children : Schema → List Child
same_children (boolean b) = []
same_children (object p ss ls ns) = children_of_same ss

-- a definition is no child of the root
abbrev pub children : Schema → List Child
children (boolean b) = []
children (object p ss ls ns) = children_of_same ss ++ children_of_lists ls ++ children_of_named ns

abbrev pub reference_of : Schema → Option (List ℕ)
reference_of (boolean b) = None
reference_of (object p ss ls ns) = p.reference

-- ---- the schema at a location

-- where a step may lead: to the document itself, to the definitions under one keyword, to a schema, a list of schemas, or schemas by name
pub data Node : Type 0 where
  at_document : Document → Node
  at_definitions : Bool → Document → Node
  at_schema : Schema → Node
  at_list : Schemas → Node
  at_names : Properties → Node

abbrev pub maybe_node : MaybeSchema → Option Node
maybe_node no_schema = None
maybe_node (the_schema s) = Some (at_schema s)

abbrev pub list_node : MaybeSchemas → Option Node
list_node no_list = None
list_node (the_list ss) = Some (at_list ss)

abbrev pub places_node : Places → Option Node
places_node no_items = None
places_node (each_item s) = Some (at_schema s)
places_node (by_place ss) = Some (at_list ss)

abbrev pub same_node : Step → Same → Option Node
same_node k no_same = None
same_node k (same_value all any one none conditional) =
    if bytes_eq k (codes "allOf") then list_node all
    else if bytes_eq k (codes "anyOf") then list_node any
    else if bytes_eq k (codes "oneOf") then list_node one
    else if bytes_eq k (codes "not") then maybe_node none
    else None

abbrev pub lists_node : Step → Lists → Option Node
lists_node k no_lists = None
lists_node k (lists places rest contains rules) =
    if bytes_eq k (codes "items") then places_node places
    else if bytes_eq k (codes "additionalItems") then maybe_node rest
    else if bytes_eq k (codes "contains") then maybe_node contains
    else None

abbrev pub named_node : Step → Named → Option Node
named_node k no_named = None
named_node k (named props patterns rest names rules) =
    if bytes_eq k (codes "properties") then Some (at_names props)
    else if bytes_eq k (codes "patternProperties") then Some (at_names patterns)
    else if bytes_eq k (codes "additionalProperties") then maybe_node rest
    else if bytes_eq k (codes "propertyNames") then maybe_node names
    else None

abbrev pub either_node : Option Node → Option Node → Option Node
either_node None n = n
either_node (Some m) n = Some m

abbrev pub schema_node : Step → Schema → Option Node
schema_node k (boolean b) = None
schema_node k (object p ss ls ns) = either_node (same_node k ss) (either_node (lists_node k ls) (named_node k ns))

-- the schema whose place, counted from i, the step writes
abbrev pub schema_in : Step → ℕ → Schemas → MaybeSchema
schema_in k i no_more = no_schema
schema_in k i (schema s ss) = if bytes_eq k (place i) then the_schema s else schema_in k (suc i) ss

-- the definition of a name, where it stands under that keyword
abbrev pub definition_node : Bool → Option Definition → Option Node
definition_node b None = None
definition_node b (Some e) = if same_bool e.under_defs b then Some (at_schema e.body) else None

abbrev pub document_node : Step → Document → Option Node
document_node k d =
    if bytes_eq k (definition_word false) then Some (at_definitions false d)
    else if bytes_eq k (definition_word true) then Some (at_definitions true d)
    else schema_node k d.root

abbrev pub node_at : Step → Node → Option Node
node_at k (at_document d) = document_node k d
node_at k (at_definitions b d) = definition_node b (defined k d.definitions)
node_at k (at_schema s) = schema_node k s
node_at k (at_list ss) = maybe_node (schema_in k 0 ss)
node_at k (at_names ps) = maybe_node (property_at k ps)

abbrev pub along : Location → Node → Option Node
along [] n = Some n
along (k ∷ ks) n = option_and_then (along ks) (node_at k n)

abbrev pub node_schema : Node → Option Schema
node_schema (at_document d) = Some d.root
node_schema (at_schema s) = Some s
node_schema _ = None

-- the schema that stands at a location
abbrev pub schema_at : Document → Location → Option Schema
schema_at d l = option_and_then node_schema (along l (at_document d))
