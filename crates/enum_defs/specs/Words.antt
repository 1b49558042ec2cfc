-- Words on which keywords stand in a schema, and on names.
use Rattle.std.specs.Prelude.{ℕ, ◌&&◌, not, List, [], ◌∷◌, map, Bool, true, false, Option, Some, None, is_none, option_map, option_and_then, bytes_eq, if◌then◌else◌}
use Rattle.std.specs.List.{list_any}
use Rattle.json_value.specs.Value as value
use Rattle.json_value.specs.Value.{Value, null, text}
use Rattle.schema_defs.specs.declared.InstanceType.{InstanceType}
use Rattle.schema_defs.specs.declared.InstanceType.TheVariants.{Null, Boolean, Object, Array, Number, Text, Integer}
use Rattle.schema_defs.specs.Schema.{Types, one_type, many_types, Plain, Schema, boolean, object, Same, no_same, same_value, Lists, no_lists, lists, Named, no_named, named, MaybeSchema, no_schema, the_schema, Properties, no_properties, property}

abbrev pub Name : Type 0
Name = List ℕ

-- ---- keywords

abbrev pub same_type : InstanceType → InstanceType → Bool
same_type Null Null = true
same_type Boolean Boolean = true
same_type Object Object = true
same_type Array Array = true
same_type Number Number = true
same_type Text Text = true
same_type Integer Integer = true
same_type _ _ = false

-- `type` is that one name, and no list
abbrev pub has_type : InstanceType → Option Types → Bool
has_type k None = false
has_type k (Some (one_type l)) = same_type k l
has_type k (Some (many_types ls)) = false

abbrev pub without_same : Same → Bool
without_same no_same = true
without_same (same_value all any one none conditional) = false

abbrev pub without_lists : Lists → Bool
without_lists no_lists = true
without_lists (lists places rest contains rules) = false

abbrev pub without_named : Named → Bool
without_named no_named = true
without_named (named props patterns rest names rules) = false

-- no enum, const, $ref or subschemas
abbrev pub is_bare : Plain → Same → Bool
is_bare p ss = is_none p.enum_values && is_none p.const_value && is_none p.reference && without_same ss

-- no keyword of numbers, of texts or of either
abbrev pub is_unruled : Plain → Bool
is_unruled p = is_none p.format && is_none p.numbers && is_none p.texts

-- ---- values

abbrev pub is_null : Value → Bool
is_null null = true
is_null _ = false

abbrev pub as_text : Value → Option Name
as_text (text s) = Some s
as_text _ = None

-- ---- the parts of members

abbrev pub props_of : Named → Properties
props_of no_named = no_properties
props_of (named props patterns rest names rules) = props

abbrev pub required_of : Named → List Name
required_of no_named = []
required_of (named props patterns rest names rules) = rules.required

abbrev pub names_of : Properties → List Name
names_of no_properties = []
names_of (property k s ps) = k ∷ names_of ps

abbrev pub given_schema : MaybeSchema → Option Schema
given_schema no_schema = None
given_schema (the_schema s) = Some s

-- ---- names

abbrev pub is_name : Name → List Name → Bool
is_name n ns = list_any (bytes_eq n) ns

-- no two are equal
abbrev pub all_differ : List Name → Bool
all_differ [] = true
all_differ (n ∷ ns) = not (is_name n ns) && all_differ ns

-- ---- lists of what may be missing

-- what each gives, or nothing where one gives nothing
abbrev pub all_some : {A B : Type 0} → (A → Option B) → List A → Option (List B)
all_some f [] = Some []
all_some f (x ∷ xs) = option_and_then (λ y. option_map (λ ys. y ∷ ys) (all_some f xs)) (f x)

-- what the first of them gives that gives anything
abbrev pub first_some : {A B : Type 0} → (A → Option B) → List A → Option B
first_some f [] = None
first_some f (x ∷ xs) = some_or (first_some f xs) (f x)
  where
    some_or : {B : Type 0} → Option B → Option B → Option B
    some_or rest None = rest
    some_or rest (Some y) = Some y
