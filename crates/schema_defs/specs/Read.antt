-- A JSON value read as a schema document (JSON Schema Draft 7, in the profile that is read). What is malformed has no reading; neither has a fraction where a number or a value is kept.
-- A member that is no keyword below is passed over; `definitions` and `$defs` are known at the root alone.
use Rattle.std.specs.Prelude.{◌≡◌, ℕ, ℤ, pos, ◌||◌, nat_le, List, [], ◌∷◌, ◌++◌, Bool, true, false, Option, Some, None, option_map, option_and_then, unwrap_or, is_some, bytes_eq, codes, if◌then◌else◌}
use Rattle.std.specs.Ordering.{nat_cmp, match_ordering}
use Rattle.std.specs.Cmp.Lexicographic.{slice_cmp}
use Rattle.std.specs.List.{list_any}
use Rattle.json_value.specs.Value as value
use Rattle.json_value.specs.Value.{Value, Items, Members, null, number, fraction, text, list, item, no_items as end_items, member, no_members, values, is_whole, all_whole}
use Rattle.schema_defs.specs.declared.Setting.{Setting}
use Rattle.schema_defs.specs.declared.Setting.TheVariants.{Strict}
use Rattle.schema_defs.specs.declared.InstanceType.{InstanceType}
use Rattle.schema_defs.specs.declared.InstanceType.TheVariants.{Null, Boolean, Object, Array, Number, Text, Integer}
use Rattle.schema_defs.specs.Schema.{Types, one_type, many_types, Numbers, Texts, Plain, Schema, boolean, object, Same, no_same, same_value, Lists, no_lists, lists, Named, no_named, named, MaybeSchema, no_schema, the_schema, MaybeSchemas, no_list, the_list, Schemas, no_more, schema, Places, no_items, each_item, by_place, Properties, no_properties, property, Definition, Document}

infixl 12 ◌⊛◌
-- a function at a value, where both are there
abbrev pub ◌⊛◌ : {A B : Type 0} → Option (A → B) → Option A → Option B
f ⊛ None = None
None ⊛ Some x = None
Some f ⊛ Some x = Some (f x)

-- ---- what one value may be read as

-- a value, and what it is as a schema, as a list of schemas and as schemas by name, where it is one
pub record Reading : Type 0 where
  pub whole : Value
  pub as_schema : Option Schema
  pub as_list : Option Schemas
  pub as_named : Option Properties

abbrev pub Readings : Type 0
Readings = List (List ℕ × Reading)

abbrev pub text_of : Value → Option (List ℕ)
text_of (text s) = Some s
text_of _ = None

abbrev pub integer_of : Value → Option ℤ
integer_of (number z) = Some z
integer_of _ = None

abbrev pub flag_of : Value → Option Bool
flag_of (value.boolean b) = Some b
flag_of _ = None

-- a size lies from 0 to 2^32 - 1
abbrev pub size_of : Value → Option ℕ
size_of (number (pos n)) = if nat_le n 4294967295 then Some n else None
size_of _ = None

-- a multiple is at least 1
abbrev pub multiple_of : Value → Option ℕ
multiple_of (number (pos n)) = if nat_le 1 n then Some n else None
multiple_of _ = None

-- a value that is kept has no fraction
abbrev pub kept : Value → Option Value
kept v = if is_whole v then Some v else None

abbrev pub kept_list : Value → Option (List Value)
kept_list (list xs) = if all_whole xs then Some (values xs) else None
kept_list _ = None

-- the texts of a list of texts
abbrev pub texts_in : Items → Option (List (List ℕ))
texts_in end_items = Some []
texts_in (item v vs) = Some (λ s ss. s ∷ ss) ⊛ text_of v ⊛ texts_in vs

-- a name into a rising list of names
abbrev pub with_name : List ℕ → List (List ℕ) → List (List ℕ)
with_name n [] = n ∷ []
with_name n (m ∷ ms) = match_ordering (slice_cmp nat_cmp n m) (n ∷ m ∷ ms) (m ∷ ms) (m ∷ with_name n ms)

abbrev pub name_set : List (List ℕ) → List (List ℕ)
name_set [] = []
name_set (n ∷ ns) = with_name n (name_set ns)

abbrev pub names_of : Value → Option (List (List ℕ))
names_of (list xs) = option_map name_set (texts_in xs)
names_of _ = None

abbrev pub pattern_of : Value → Option (List (List ℕ))
pattern_of v = option_map (λ p. p ∷ []) (text_of v)

abbrev pub type_named : List ℕ → Option InstanceType
type_named n =
    if bytes_eq n (codes "null") then Some Null
    else if bytes_eq n (codes "boolean") then Some Boolean
    else if bytes_eq n (codes "object") then Some Object
    else if bytes_eq n (codes "array") then Some Array
    else if bytes_eq n (codes "number") then Some Number
    else if bytes_eq n (codes "string") then Some Text
    else if bytes_eq n (codes "integer") then Some Integer
    else None

abbrev pub type_of : Value → Option InstanceType
type_of v = option_and_then type_named (text_of v)

abbrev pub types_in : Items → Option (List InstanceType)
types_in end_items = Some []
types_in (item v vs) = Some (λ k ks. k ∷ ks) ⊛ type_of v ⊛ types_in vs

abbrev pub types_of : Value → Option Types
types_of (list xs) = option_map many_types (types_in xs)
types_of v = option_map one_type (type_of v)

-- ---- keywords

abbrev pub reading_at : List ℕ → Readings → Option Reading
reading_at n [] = None
reading_at n (m ∷ ms) = if bytes_eq n m.0 then Some m.1 else reading_at n ms

-- what stands at each name
abbrev pub Lookup : Type 0
Lookup = List ℕ → Option Reading

abbrev pub lookup_of : Readings → Lookup
lookup_of ms n = reading_at n ms

abbrev pub optional : {A : Type 0} → (Reading → Option A) → Option Reading → Option (Option A)
optional f None = Some None
optional f (Some r) = option_map Some (f r)

-- a keyword that does not stand is read as nothing; one that stands has to be read
abbrev pub keyword : {A : Type 0} → List ℕ → (Reading → Option A) → Lookup → Option (Option A)
keyword n f ms = optional f (ms n)

abbrev pub by_value : {A : Type 0} → (Value → Option A) → Reading → Option A
by_value f r = f r.whole

abbrev pub any_stands : List (List ℕ) → Lookup → Bool
any_stands [] ms = false
any_stands (n ∷ ns) ms = is_some (ms n) || any_stands ns ms

-- a part is there where one of its keywords stands
abbrev pub part : {A : Type 0} → List (List ℕ) → A → (Lookup → Option A) → Lookup → Option A
part ns absent f ms = if any_stands ns ms then f ms else Some absent

-- `allOf` is never empty
abbrev pub unless_empty : Schemas → Option Schemas
unless_empty no_more = None
unless_empty (schema s ss) = Some (schema s ss)

abbrev pub places_of : Reading → Option Places
places_of r = elim r.as_schema [ Some s ↦ Some (each_item s) | None ↦ option_map by_place r.as_list ]

abbrev pub maybe_schema : Option Schema → MaybeSchema
maybe_schema None = no_schema
maybe_schema (Some s) = the_schema s

abbrev pub maybe_list : Option Schemas → MaybeSchemas
maybe_list None = no_list
maybe_list (Some ss) = the_list ss

-- ---- the parts of a schema

abbrev pub number_words : List (List ℕ)
number_words = codes "multipleOf" ∷ codes "maximum" ∷ codes "exclusiveMaximum" ∷ codes "minimum" ∷ codes "exclusiveMinimum" ∷ []

abbrev pub make_numbers : Option ℕ → Option ℤ → Option ℤ → Option ℤ → Option ℤ → Option Numbers
make_numbers m a b c d = Some (record { multiple_of = m; maximum = a; exclusive_maximum = b; minimum = c; exclusive_minimum = d })

unfoldable pub numbers_of : Lookup → Option (Option Numbers)
numbers_of = part number_words None (λ ms. Some make_numbers
    ⊛ keyword (codes "multipleOf") (by_value multiple_of) ms
    ⊛ keyword (codes "maximum") (by_value integer_of) ms
    ⊛ keyword (codes "exclusiveMaximum") (by_value integer_of) ms
    ⊛ keyword (codes "minimum") (by_value integer_of) ms
    ⊛ keyword (codes "exclusiveMinimum") (by_value integer_of) ms)

abbrev pub text_words : List (List ℕ)
text_words = codes "maxLength" ∷ codes "minLength" ∷ codes "pattern" ∷ []

abbrev pub make_texts : Option ℕ → Option ℕ → Option (List (List ℕ)) → Option Texts
make_texts a b ps = Some (record { max_length = a; min_length = b; patterns = unwrap_or ps [] })

unfoldable pub texts_of : Lookup → Option (Option Texts)
texts_of = part text_words None (λ ms. Some make_texts
    ⊛ keyword (codes "maxLength") (by_value size_of) ms
    ⊛ keyword (codes "minLength") (by_value size_of) ms
    ⊛ keyword (codes "pattern") (by_value pattern_of) ms)

abbrev pub make_plain : Option (List ℕ) → Option (List ℕ) → Option Value → Option Value → Option Types → Option (List ℕ) → Option (List Value) → Option Numbers → Option Texts → Option (List ℕ) → Plain
make_plain t d v c k f e n s q = record { title = t; description = d; default = v; const_value = c; types = k; format = f; enum_values = e; numbers = n; texts = s; reference = q; walk = None }

unfoldable pub plain_of : Lookup → Option Plain
plain_of ms = Some make_plain
    ⊛ keyword (codes "title") (by_value text_of) ms
    ⊛ keyword (codes "description") (by_value text_of) ms
    ⊛ keyword (codes "default") (by_value kept) ms
    ⊛ keyword (codes "const") (by_value kept) ms
    ⊛ keyword (codes "type") (by_value types_of) ms
    ⊛ keyword (codes "format") (by_value text_of) ms
    ⊛ keyword (codes "enum") (by_value kept_list) ms
    ⊛ numbers_of ms
    ⊛ texts_of ms
    ⊛ keyword (codes "$ref") (by_value text_of) ms

abbrev pub condition_words : List (List ℕ)
condition_words = codes "if" ∷ codes "then" ∷ codes "else" ∷ []

abbrev pub same_words : List (List ℕ)
same_words = codes "allOf" ∷ codes "anyOf" ∷ codes "oneOf" ∷ codes "not" ∷ condition_words

abbrev pub make_same : Bool → Option Schemas → Option Schemas → Option Schemas → Option Schema → Same
make_same conditional all any one none = same_value (maybe_list all) (maybe_list any) (maybe_list one) (maybe_schema none) conditional

-- what `if`, `then` and `else` hold is not read
unfoldable pub same_of : Lookup → Option Same
same_of = part same_words no_same (λ ms. Some (make_same (any_stands condition_words ms))
    ⊛ keyword (codes "allOf") (λ r. option_and_then unless_empty r.as_list) ms
    ⊛ keyword (codes "anyOf") (λ r. r.as_list) ms
    ⊛ keyword (codes "oneOf") (λ r. r.as_list) ms
    ⊛ keyword (codes "not") (λ r. r.as_schema) ms)

abbrev pub list_words : List (List ℕ)
list_words = codes "items" ∷ codes "additionalItems" ∷ codes "contains" ∷ codes "maxItems" ∷ codes "minItems" ∷ codes "uniqueItems" ∷ []

abbrev pub make_lists : Option Places → Option Schema → Option Schema → Option ℕ → Option ℕ → Option Bool → Lists
make_lists places rest contains most least unique = lists (unwrap_or places no_items) (maybe_schema rest) (maybe_schema contains) (record { max_items = most; min_items = least; unique_items = unique })

unfoldable pub lists_of : Lookup → Option Lists
lists_of = part list_words no_lists (λ ms. Some make_lists
    ⊛ keyword (codes "items") places_of ms
    ⊛ keyword (codes "additionalItems") (λ r. r.as_schema) ms
    ⊛ keyword (codes "contains") (λ r. r.as_schema) ms
    ⊛ keyword (codes "maxItems") (by_value size_of) ms
    ⊛ keyword (codes "minItems") (by_value size_of) ms
    ⊛ keyword (codes "uniqueItems") (by_value flag_of) ms)

abbrev pub member_words : List (List ℕ)
member_words = codes "properties" ∷ codes "patternProperties" ∷ codes "additionalProperties" ∷ codes "propertyNames" ∷ codes "maxProperties" ∷ codes "minProperties" ∷ codes "required" ∷ []

abbrev pub make_named : Option Properties → Option Properties → Option Schema → Option Schema → Option ℕ → Option ℕ → Option (List (List ℕ)) → Named
make_named props patterns rest names most least required =
    named (unwrap_or props no_properties) (unwrap_or patterns no_properties) (maybe_schema rest) (maybe_schema names)
    (record { max_properties = most; min_properties = least; required = unwrap_or required [] })

unfoldable pub named_of : Lookup → Option Named
named_of = part member_words no_named (λ ms. Some make_named
    ⊛ keyword (codes "properties") (λ r. r.as_named) ms
    ⊛ keyword (codes "patternProperties") (λ r. r.as_named) ms
    ⊛ keyword (codes "additionalProperties") (λ r. r.as_schema) ms
    ⊛ keyword (codes "propertyNames") (λ r. r.as_schema) ms
    ⊛ keyword (codes "maxProperties") (by_value size_of) ms
    ⊛ keyword (codes "minProperties") (by_value size_of) ms
    ⊛ keyword (codes "required") (by_value names_of) ms)

unfoldable pub schema_of : Lookup → Option Schema
schema_of ms = Some (λ p ss ls ns. object p ss ls ns) ⊛ plain_of ms ⊛ same_of ms ⊛ lists_of ms ⊛ named_of ms

-- ---- the readings of a value

abbrev pub schemas_of : List Reading → Option Schemas
schemas_of [] = Some no_more
schemas_of (r ∷ rs) = Some (λ s ss. schema s ss) ⊛ r.as_schema ⊛ schemas_of rs

abbrev pub properties_of : Readings → Option Properties
properties_of [] = Some no_properties
properties_of (m ∷ ms) = Some (λ s ps. property m.0 s ps) ⊛ m.1.as_schema ⊛ properties_of ms

abbrev pub no_reading : Value → Reading
no_reading v = record { whole = v; as_schema = None; as_list = None; as_named = None }

abbrev pub list_reading : Value → List Reading → Reading
list_reading v rs = record { whole = v; as_schema = None; as_list = schemas_of rs; as_named = None }

abbrev pub object_reading : Value → Readings → Reading
object_reading v ms = record { whole = v; as_schema = schema_of (lookup_of ms); as_list = None; as_named = properties_of ms }

abbrev mutual
  pub reading : Value → Reading
  reading (value.boolean b) = record { whole = value.boolean b; as_schema = Some (boolean b); as_list = None; as_named = None }
  reading (list xs) = list_reading (list xs) (item_readings xs)
  reading (value.object ms) = object_reading (value.object ms) (member_readings ms)
  reading v = no_reading v

  pub item_readings : Items → List Reading
  item_readings end_items = []
  item_readings (item v vs) = reading v ∷ item_readings vs

  pub member_readings : Members → Readings
  member_readings no_members = []
  member_readings (member k v ms) = (k, reading v) ∷ member_readings ms

-- the keywords that are read, the annotations among them
abbrev pub known_words : List (List ℕ)
known_words =
    codes "title" ∷ codes "description" ∷ codes "default" ∷ codes "const" ∷ codes "type" ∷ codes "format" ∷ codes "enum" ∷ codes "$ref" ∷ codes "definitions" ∷ codes "$defs"
    ∷ (number_words ++ text_words ++ same_words ++ list_words ++ member_words)

abbrev pub is_known : List ℕ → Bool
is_known n = list_any (bytes_eq n) known_words

-- ---- documents

-- a definition in the order of names, where its name is new
abbrev pub with_definition : Definition → List Definition → Option (List Definition)
with_definition e [] = Some (e ∷ [])
with_definition e (d ∷ ds) = match_ordering (slice_cmp nat_cmp e.name d.name) (Some (e ∷ d ∷ ds)) None (option_map (λ es. d ∷ es) (with_definition e ds))

abbrev pub with_definitions : Bool → Properties → Option (List Definition) → Option (List Definition)
with_definitions b no_properties ds = ds
with_definitions b (property k s ps) ds = option_and_then (with_definition (record { name = k; under_defs = b; body = s })) (with_definitions b ps ds)

-- a name stands under one of the two keywords alone
abbrev pub joined : Option Properties → Option Properties → Option (List Definition)
joined ds es = with_definitions true (unwrap_or es no_properties) (with_definitions false (unwrap_or ds no_properties) (Some []))

abbrev pub flat : {A : Type 0} → Option (Option A) → Option A
flat None = None
flat (Some o) = o

unfoldable pub definitions_of : Lookup → Option (List Definition)
definitions_of ms = flat (Some joined ⊛ keyword (codes "definitions") (λ r. r.as_named) ms ⊛ keyword (codes "$defs") (λ r. r.as_named) ms)

abbrev pub make_document : Setting → Schema → List Definition → Document
make_document setting s ds = record { setting = setting; root = s; definitions = ds }

-- the document under another setting
abbrev pub under : Setting → Document → Document
under setting d = record d { setting = setting }

-- the document that a value is, under a setting
unfoldable pub document_of : Setting → Value → Option Document
document_of setting (value.boolean b) = Some (make_document setting (boolean b) [])
document_of setting (value.object ms) = Some (make_document setting) ⊛ schema_of (lookup_of (member_readings ms)) ⊛ definitions_of (lookup_of (member_readings ms))
document_of setting _ = None

-- ---- what is malformed, fractions aside

-- the value with 1, which may stand wherever a number may, for each fraction
abbrev mutual
  pub filled : Value → Value
  filled fraction = number (pos 1)
  filled (list xs) = list (filled_items xs)
  filled (value.object ms) = value.object (filled_members ms)
  filled v = v

  pub filled_items : Items → Items
  filled_items end_items = end_items
  filled_items (item v vs) = item (filled v) (filled_items vs)

  pub filled_members : Members → Members
  filled_members no_members = no_members
  filled_members (member k v ms) = member k (filled v) (filled_members ms)

-- whatever the setting, which changes no reading
abbrev pub IsMalformed : Value → Type 0
IsMalformed v = document_of Strict (filled v) ≡ None
