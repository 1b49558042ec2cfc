-- The rows of arrays and of objects.
use Rattle.std.specs.Prelude.{ℕ, zero, suc, ◌&&◌, ◌||◌, not, nat_eq, nat_lt, List, [], ◌∷◌, ◌++◌, filter, Bool, true, false, Option, Some, None, is_none, is_some, codes, if◌then◌else◌}
use Rattle.std.specs.List.{list_all}
use Rattle.json_value.specs.Value.{Value}
use Rattle.schema_defs.specs.declared.InstanceType.TheVariants.{Text}
use Rattle.schema_defs.specs.declared.Setting.{Setting}
use Rattle.schema_defs.specs.declared.Setting.TheVariants.{Strict, NullAbsent}
use Rattle.schema_defs.specs.Location.{Step, place}
use Rattle.schema_defs.specs.Schema.{Schema, boolean, object, Lists, no_lists, lists, Named, no_named, named, ListRules, MemberRules, MaybeSchema, no_schema, the_schema, Schemas, no_more, schema, Places, no_items, each_item, by_place, Properties, no_properties, property}
use Rattle.schema_defs.specs.Layer.{property_at, is_given}
use Rattle.model_defs.specs.Layer.{is_text}
use Rattle.schema_types.specs.Same.{same_schemas}
use Rattle.entry_defs.specs.Entry.{State, required, optional, stated}
use Rattle.convert_defs.specs.Row.{Part, child, made, FieldRow, OutsideRow, Row, vec_row, set_row, array_row, tuple_row, map_row, pattern_map_row, struct_row, refused_row, bad_array, names, Note, here, narrowed, widened, array_note, counts_note, names_note, Finding, noted, plainly, asking, filling}
use Rattle.convert_defs.specs.Standing.{no_keyword, of_type, alone}
use Rattle.enum_defs.specs.Words.{has_type, without_same, without_lists, without_named, is_name}
use Rattle.convert_defs.specs.IntegerRow.{note_if}

abbrev pub anything : Part
anything = made (boolean true)

abbrev pub nothing : Part
nothing = made (boolean false)

abbrev pub any_text : Part
any_text = made (alone (of_type Text no_keyword))

-- the schema of a keyword, or any
abbrev pub part_at : Step → MaybeSchema → Part
part_at k no_schema = anything
part_at k (the_schema s) = child (k ∷ []) s

-- ---- arrays

-- the number of places, where both sizes are that number and it is above 0
abbrev pub one_size : Option ℕ → Option ℕ → Option ℕ
one_size (Some (suc n)) (Some m) = if nat_eq (suc n) m then Some (suc n) else None
one_size _ _ = None

abbrev pub fixed_size : ListRules → MaybeSchema → Option ℕ
fixed_size c contains = if is_none c.unique_items && not (is_given contains) then one_size c.min_items c.max_items else None

abbrev pub each_part : Places → Part
each_part no_items = anything
each_part (each_item s) = child (codes "items" ∷ []) s
each_part (by_place ss) = anything

abbrev pub is_true : Option Bool → Bool
is_true None = false
is_true (Some b) = b

abbrev pub above_zero : Option ℕ → Bool
above_zero None = false
above_zero (Some zero) = false
above_zero (Some (suc n)) = true

abbrev pub list_notes : ListRules → List Note
list_notes c = note_if (is_true c.unique_items || above_zero c.min_items || is_some c.max_items) (here widened array_note)

abbrev pub open_list : ListRules → Part → Row
open_list c p = if is_true c.unique_items then set_row p else vec_row p

-- of n places, the first of them at place i, those that are listed
abbrev pub listed_parts : ℕ → ℕ → Schemas → List Part
listed_parts i zero ss = []
listed_parts i (suc n) no_more = []
listed_parts i (suc n) (schema s ss) = child (codes "items" ∷ place i ∷ []) s ∷ listed_parts (suc i) n ss

-- how many of n places are not listed
abbrev pub unlisted : ℕ → Schemas → ℕ
unlisted n no_more = n
unlisted zero (schema s ss) = 0
unlisted (suc n) (schema s ss) = unlisted n ss

abbrev pub fixed_row : ℕ → Places → MaybeSchema → Row
fixed_row n (by_place ss) rest = tuple_row (listed_parts 0 n ss) (unlisted n ss) (part_at (codes "additionalItems") rest)
fixed_row n places rest = array_row (each_part places) n

abbrev pub is_by_place : Places → Bool
is_by_place (by_place ss) = true
is_by_place _ = false

-- how many schemas are listed
abbrev pub listed_places : Schemas → ℕ
listed_places no_more = 0
listed_places (schema s ss) = suc (listed_places ss)

-- the places of a list that is shorter than its sizes
abbrev pub filled_places : ℕ → Places → ℕ
filled_places n (by_place ss) = if nat_lt (listed_places ss) n then n else 0
filled_places n places = 0

-- where there is one size, and where there is not
abbrev pub sized_finding : Places → MaybeSchema → MaybeSchema → ListRules → Option ℕ → Finding
sized_finding places rest contains rules (Some n) = filling (filled_places n places) (plainly (fixed_row n places rest))
sized_finding places rest contains rules None =
    if is_by_place places || is_given contains then plainly (refused_row bad_array) else noted (list_notes rules) (open_list rules (each_part places))

abbrev pub array_finding : Lists → Finding
array_finding no_lists = plainly (vec_row anything)
array_finding (lists places rest contains rules) = sized_finding places rest contains rules (fixed_size rules contains)

-- ---- objects

abbrev pub is_false : MaybeSchema → Bool
is_false (the_schema (boolean false)) = true
is_false _ = false

-- a schema under `additionalProperties` that is no boolean
abbrev pub keeps_rest : MaybeSchema → Bool
keeps_rest (the_schema (object p ss ls ns)) = true
keeps_rest _ = false

abbrev pub default_of : Schema → Option Value
default_of (boolean b) = None
default_of (object p ss ls ns) = p.default

abbrev pub state_of : Bool → Option Value → State
state_of true d = required
state_of false None = optional
state_of false (Some v) = stated v

abbrev pub may_be_null : Setting → Bool
may_be_null Strict = false
may_be_null NullAbsent = true

abbrev pub property_fields : Setting → List (List ℕ) → Properties → List FieldRow
property_fields setting req no_properties = []
property_fields setting req (property k s ps) =
    record { name = k; part = child (codes "properties" ∷ k ∷ []) s; state = state_of (is_name k req) (default_of s); nullable = may_be_null setting && not (is_name k req) } ∷ property_fields setting req ps

-- what a member of no property is converted to
abbrev pub other_part : MaybeSchema → Part
other_part rest = part_at (codes "additionalProperties") rest

-- the names that are required and no property's
abbrev pub outside_names : Properties → List (List ℕ) → List (List ℕ)
outside_names props ns = filter (λ n. not (is_given (property_at n props))) ns

-- nothing where no such name is required and no rest is kept
abbrev pub outside_row : List (List ℕ) → MaybeSchema → Option OutsideRow
outside_row [] rest = if keeps_rest rest then Some (record { names = []; part = other_part rest; keeps_rest = true }) else None
outside_row (n ∷ ns) rest = Some (record { names = n ∷ ns; part = other_part rest; keeps_rest = keeps_rest rest })

abbrev pub struct_of : Setting → Properties → MaybeSchema → MemberRules → Row
struct_of setting props rest rules = struct_row (is_false rest) (property_fields setting rules.required props) (outside_row (outside_names props rules.required) rest)

abbrev pub no_property : Properties → Bool
no_property no_properties = true
no_property (property k s ps) = false

abbrev pub is_empty : {A : Type 0} → List A → Bool
is_empty [] = true
is_empty (x ∷ xs) = false

abbrev pub name_part : MaybeSchema → Part
name_part (the_schema (object p ss ls ns)) = child (codes "propertyNames" ∷ []) (object p ss ls ns)
name_part (the_schema (boolean b)) = any_text
name_part no_schema = any_text

abbrev pub lists_texts : Option (List Value) → Bool
lists_texts None = true
lists_texts (Some vs) = list_all is_text vs

-- keywords of texts alone
abbrev pub names_texts : MaybeSchema → Bool
names_texts no_schema = true
names_texts (the_schema (boolean b)) = b
names_texts (the_schema (object p ss ls ns)) = (is_none p.types || has_type Text p.types) && lists_texts p.enum_values && is_none p.const_value && is_none p.numbers && is_none p.reference && without_same ss && without_lists ls && without_named ns

abbrev pub map_of : MaybeSchema → MaybeSchema → Row
map_of rest names_schema = if names_texts names_schema then map_row (name_part names_schema) (other_part rest) else refused_row names

abbrev pub counts_notes : MemberRules → List Note
counts_notes c = note_if (above_zero c.min_properties || is_some c.max_properties) (here widened counts_note)

abbrev pub names_notes : Properties → MaybeSchema → List Note
names_notes patterns names_schema =
    note_if (is_given names_schema || not (no_property patterns)) (here widened names_note) ++ note_if (not (no_property patterns)) (here narrowed names_note)

-- one or more patterns, all of one schema
abbrev pub each_alike : Schema → Properties → Bool
each_alike s no_properties = true
each_alike s (property k t ps) = same_schemas t s && each_alike s ps

abbrev pub are_alike : Properties → Bool
are_alike no_properties = false
are_alike (property k s ps) = each_alike s ps

-- nothing else is admitted, or it isn't said
abbrev pub is_shut : MaybeSchema → Bool
is_shut no_schema = true
is_shut (the_schema s) = is_false (the_schema s)

abbrev pub pattern_names : Properties → List (List ℕ)
pattern_names no_properties = []
pattern_names (property k s ps) = k ∷ pattern_names ps

abbrev pub pattern_row : Properties → Row
pattern_row no_properties = refused_row names
pattern_row (property k s ps) = pattern_map_row (k ∷ pattern_names ps) (child (codes "patternProperties" ∷ k ∷ []) s)

abbrev pub object_finding : Setting → Named → Finding
object_finding setting no_named = plainly (map_row any_text anything)
object_finding setting (named props patterns rest names_schema rules) =
    if no_property props && is_empty rules.required && no_property patterns && not (is_false rest)
    then noted (counts_notes rules) (map_of rest names_schema)
    else if no_property props && is_empty rules.required && not (is_given names_schema) && is_shut rest && are_alike patterns
    then asking (pattern_names patterns) (noted (counts_notes rules ++ note_if (not (is_given rest)) (here narrowed names_note)) (pattern_row patterns))
    else noted (counts_notes rules ++ names_notes patterns names_schema) (struct_of setting props rest rules)
