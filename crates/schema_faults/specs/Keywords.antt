-- The keywords that are known, what each of them holds (JSON Schema Draft 7 validation, 6, 7, 9 and 10; core, 8.3), and whether a value may stand there.
use Rattle.std.specs.Prelude.{ℕ, pos, ◌&&◌, ◌||◌, not, nat_le, List, [], ◌∷◌, map, Bool, true, false, Option, Some, None, bytes_eq, codes}
use Rattle.std.specs.List.{list_any}
use Rattle.json_value.specs.Value as value
use Rattle.json_value.specs.Value.{Value, Items, Members, number, fraction, text, list, no_items, item, values, entries, member_at, is_whole}
use Rattle.schema_faults.specs.declared.keyword.Holds.{Holds}
use Rattle.schema_faults.specs.declared.keyword.Holds.TheVariants.{Text, Anything, TypeNames, Values, Number, Multiple, Size, Flag, Texts, Schema, SomeSchemas, Schemas, SchemaOrSchemas, NamedSchemas, Defs, Definitions}

-- a keyword, and what it holds
abbrev pub Row : Type 0
Row = List ℕ × Holds

-- in the order of their bytes; what `if`, `then` and `else` hold is not read
abbrev pub keywords : List Row
keywords =
    (codes "$defs", Defs)
    ∷ (codes "$ref", Text)
    ∷ (codes "additionalItems", Schema)
    ∷ (codes "additionalProperties", Schema)
    ∷ (codes "allOf", SomeSchemas)
    ∷ (codes "anyOf", Schemas)
    ∷ (codes "const", Anything)
    ∷ (codes "contains", Schema)
    ∷ (codes "default", Anything)
    ∷ (codes "definitions", Definitions)
    ∷ (codes "description", Text)
    ∷ (codes "enum", Values)
    ∷ (codes "exclusiveMaximum", Number)
    ∷ (codes "exclusiveMinimum", Number)
    ∷ (codes "format", Text)
    ∷ (codes "items", SchemaOrSchemas)
    ∷ (codes "maxItems", Size)
    ∷ (codes "maxLength", Size)
    ∷ (codes "maxProperties", Size)
    ∷ (codes "maximum", Number)
    ∷ (codes "minItems", Size)
    ∷ (codes "minLength", Size)
    ∷ (codes "minProperties", Size)
    ∷ (codes "minimum", Number)
    ∷ (codes "multipleOf", Multiple)
    ∷ (codes "not", Schema)
    ∷ (codes "oneOf", Schemas)
    ∷ (codes "pattern", Text)
    ∷ (codes "patternProperties", NamedSchemas)
    ∷ (codes "properties", NamedSchemas)
    ∷ (codes "propertyNames", Schema)
    ∷ (codes "required", Texts)
    ∷ (codes "title", Text)
    ∷ (codes "type", TypeNames)
    ∷ (codes "uniqueItems", Flag)
    ∷ []

-- `$defs` and `definitions` are known at the root alone
abbrev pub is_known_at : Bool → Holds → Bool
is_known_at at_root Defs = at_root
is_known_at at_root Definitions = at_root
is_known_at at_root _ = true

-- ---- what a value is

abbrev pub is_text : Value → Bool
is_text (text s) = true
is_text _ = false

abbrev pub is_flag : Value → Bool
is_flag (value.boolean b) = true
is_flag _ = false

abbrev pub is_list : Value → Bool
is_list (list xs) = true
is_list _ = false

abbrev pub is_object : Value → Bool
is_object (value.object ms) = true
is_object _ = false

abbrev pub is_fraction : Value → Bool
is_fraction fraction = true
is_fraction _ = false

-- a list of one item or more
abbrev pub is_filled_list : Value → Bool
is_filled_list (list (item v vs)) = true
is_filled_list _ = false

-- a schema is a boolean or an object
abbrev pub is_schema : Value → Bool
is_schema v = is_flag v || is_object v

abbrev pub is_number : Value → Bool
is_number (number z) = true
is_number fraction = true
is_number _ = false

-- at least 1, where it is whole
abbrev pub is_multiple : Value → Bool
is_multiple (number (pos n)) = nat_le 1 n
is_multiple fraction = true
is_multiple _ = false

-- from 0 to 2^32 - 1, where it is whole
abbrev pub is_size : Value → Bool
is_size (number (pos n)) = nat_le n 4294967295
is_size fraction = true
is_size _ = false

abbrev pub all_texts : Items → Bool
all_texts no_items = true
all_texts (item v vs) = is_text v && all_texts vs

abbrev pub lists_texts : Value → Bool
lists_texts (list xs) = all_texts xs
lists_texts _ = false

-- ---- the names of types

abbrev pub type_words : List (List ℕ)
type_words = codes "null" ∷ codes "boolean" ∷ codes "object" ∷ codes "array" ∷ codes "number" ∷ codes "string" ∷ codes "integer" ∷ []

abbrev pub is_type_word : List ℕ → Bool
is_type_word n = list_any (bytes_eq n) type_words

abbrev pub is_type_name : Value → Bool
is_type_name (text s) = is_type_word s
is_type_name _ = false

abbrev pub all_type_names : Items → Bool
all_type_names no_items = true
all_type_names (item v vs) = is_type_name v && all_type_names vs

abbrev pub names_types : Value → Bool
names_types (text s) = is_type_word s
names_types (list xs) = all_type_names xs
names_types _ = false

-- ---- names under the definition keywords

abbrev pub names : Members → List (List ℕ)
names ms = map (λ e. e.0) (entries ms)

abbrev pub names_in : Option Value → List (List ℕ)
names_in None = []
names_in (Some (value.object ms)) = names ms
names_in (Some _) = []

-- no name stands twice, as in each object that a reader of JSON gives
abbrev pub are_distinct : List (List ℕ) → Bool
are_distinct [] = true
are_distinct (n ∷ ns) = not (list_any (bytes_eq n) ns) && are_distinct ns

abbrev pub has_distinct_names : Value → Bool
has_distinct_names v = is_object v && are_distinct (names_in (Some v))

-- whether the root, which has these members, has a definition of that name
abbrev pub is_under : List ℕ → Members → List ℕ → Bool
is_under keyword root n = list_any (bytes_eq n) (names_in (member_at keyword root))

-- whether a name stands under `$defs` too
abbrev pub shares_name : Members → Option Value → Bool
shares_name root v = list_any (is_under (codes "$defs") root) (names_in v)

-- ---- whether a value may stand at a keyword of an object with these members

abbrev pub fits : Members → Holds → Value → Bool
fits owner Text v = is_text v
fits owner Anything v = true
fits owner TypeNames v = names_types v
fits owner Values v = is_list v
fits owner Number v = is_number v
fits owner Multiple v = is_multiple v
fits owner Size v = is_size v
fits owner Flag v = is_flag v
fits owner Texts v = lists_texts v
fits owner Schema v = is_schema v
fits owner SomeSchemas v = is_filled_list v
fits owner Schemas v = is_list v
fits owner SchemaOrSchemas v = is_schema v || is_list v
fits owner NamedSchemas v = is_object v
fits owner Defs v = has_distinct_names v
fits owner Definitions v = has_distinct_names v && not (shares_name owner (Some v))
