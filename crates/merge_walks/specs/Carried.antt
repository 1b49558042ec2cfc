-- Which walk a schema carries: its own, or its owner's continued by the steps that lead to it. A boolean carries none.
-- Within merges the walk of a schema that a merge made ends with its last location twice, as no walk of a guarded document does: so it is told from one
-- that a merge took over.
use Rattle.std.specs.Prelude.{ℕ, suc, List, [], ◌∷◌, ◌++◌, Bool, false, Option, Some, None, length, nat_lt, bytes_eq, unwrap_or, option_map, codes, if◌then◌else◌}
use Rattle.std.specs.Cmp.Lexicographic.{pointwise}
use Rattle.schema_defs.specs.Location.{Step, Location, place}
use Rattle.schema_defs.specs.Schema.{Plain, Schema, boolean, object, Same, no_same, same_value, Lists, no_lists, lists, Named, no_named, named, MaybeSchema, no_schema, the_schema, MaybeSchemas, no_list, the_list, Schemas, no_more, schema, Places, no_items, each_item, by_place, Properties, no_properties, property}

-- the locations that it comes by; its steps are one fewer
abbrev pub Walk : Type 0
Walk = List Location

-- that of the root, which stands for a schema without a walk
abbrev pub root_walk : Walk
root_walk = [] ∷ []

abbrev pub last_of : Walk → Location
last_of [] = []
last_of (l ∷ []) = l
last_of (l ∷ m ∷ ls) = last_of (m ∷ ls)

-- to a child, so many steps below the last location
abbrev pub to_child : Walk → Location → Walk
to_child w k = w ++ (last_of w ++ k) ∷ []

abbrev pub to_target : Walk → Option Location → Walk
to_target w None = w
to_target w (Some l) = w ++ l ∷ []

abbrev pub has_more_steps : ℕ → Walk → Bool
has_more_steps n w = nat_lt (suc n) (length w)

-- ---- the mark of what was made

abbrev pub made_on : Walk → Walk
made_on w = w ++ last_of w ∷ []

abbrev pub is_made : Walk → Bool
is_made [] = false
is_made (l ∷ []) = false
is_made (l ∷ m ∷ []) = pointwise bytes_eq l m
is_made (l ∷ m ∷ n ∷ ls) = is_made (m ∷ n ∷ ls)

abbrev pub all_but_last : Walk → Walk
all_but_last [] = []
all_but_last (l ∷ []) = []
all_but_last (l ∷ m ∷ ls) = l ∷ all_but_last (m ∷ ls)

abbrev pub unmarked : Walk → Walk
unmarked w = if is_made w then all_but_last w else w

-- ---- the walk of what is merged

-- its own, or the root's
abbrev pub own_walk : Plain → Walk
own_walk p = unwrap_or (option_map unmarked p.walk) root_walk

-- it has this walk
abbrev pub on_walk : Walk → Schema → Schema
on_walk w (boolean b) = boolean b
on_walk w (object p ss ls ns) = object (record p { walk = Some w }) ss ls ns

-- it keeps a walk of its own, and else has this one
abbrev pub carried : Walk → Schema → Schema
carried w (boolean b) = boolean b
carried w (object p ss ls ns) = object (record p { walk = Some (unwrap_or p.walk w) }) ss ls ns

-- ---- the schemas inside one whose walk is w

abbrev pub maybe_inside : Walk → Step → MaybeSchema → MaybeSchema
maybe_inside w k no_schema = no_schema
maybe_inside w k (the_schema s) = the_schema (carried (to_child w (k ∷ [])) s)

abbrev pub all_inside : Walk → Step → ℕ → Schemas → Schemas
all_inside w k i no_more = no_more
all_inside w k i (schema s ss) = schema (carried (to_child w (k ∷ place i ∷ [])) s) (all_inside w k (suc i) ss)

abbrev pub list_inside : Walk → Step → MaybeSchemas → MaybeSchemas
list_inside w k no_list = no_list
list_inside w k (the_list ss) = the_list (all_inside w k 0 ss)

abbrev pub names_inside : Walk → Step → Properties → Properties
names_inside w k no_properties = no_properties
names_inside w k (property n s ps) = property n (carried (to_child w (k ∷ n ∷ [])) s) (names_inside w k ps)

abbrev pub places_inside : Walk → Places → Places
places_inside w no_items = no_items
places_inside w (each_item s) = each_item (carried (to_child w (codes "items" ∷ [])) s)
places_inside w (by_place ss) = by_place (all_inside w (codes "items") 0 ss)

abbrev pub same_inside : Walk → Same → Same
same_inside w no_same = no_same
same_inside w (same_value all any one none c) =
    same_value (list_inside w (codes "allOf") all) (list_inside w (codes "anyOf") any) (list_inside w (codes "oneOf") one) (maybe_inside w (codes "not") none) c

abbrev pub lists_inside : Walk → Lists → Lists
lists_inside w no_lists = no_lists
lists_inside w (lists p x a c) = lists (places_inside w p) (maybe_inside w (codes "additionalItems") x) (maybe_inside w (codes "contains") a) c

abbrev pub named_inside : Walk → Named → Named
named_inside w no_named = no_named
named_inside w (named ps pp x xn c) =
    named (names_inside w (codes "properties") ps) (names_inside w (codes "patternProperties") pp) (maybe_inside w (codes "additionalProperties") x) (maybe_inside w (codes "propertyNames") xn) c

-- a schema on its walk, with each schema directly inside on its own
abbrev pub opened : Schema → Schema
opened (boolean b) = boolean b
opened (object p ss ls ns) = object (record p { walk = Some (unwrap_or p.walk root_walk) }) (same_inside (own_walk p) ss) (lists_inside (own_walk p) ls) (named_inside (own_walk p) ns)
