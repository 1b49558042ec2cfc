-- Shapes of the members of anyOf and oneOf that make an option or an enum: each as serde writes one of its representations of enums (https://serde.rs/enum-representations.html). Annotations say nothing.
use Rattle.std.specs.Prelude.{ℕ, ◌&&◌, ◌||◌, not, nat_le, List, [], ◌∷◌, ◌++◌, map, filter, find, flat_map, length, Bool, true, false, Option, Some, None, is_none, is_some, option_map, option_and_then, bytes_eq, if◌then◌else◌}
use Rattle.std.specs.List.{list_all}
use Rattle.json_value.specs.Value.{Value}
use Rattle.schema_defs.specs.declared.InstanceType.TheVariants.{Null, Text, Object}
use Rattle.schema_defs.specs.Schema.{Types, one_type, many_types, Plain, Schema, boolean, object, Same, Lists, Named, no_named, named, MaybeSchema, no_schema, the_schema, Properties, no_properties, property, MemberRules}
use Rattle.schema_defs.specs.Layer.{property_at}
use Rattle.enum_defs.specs.Words.{Name, same_type, has_type, without_same, without_lists, without_named, is_bare, is_unruled, is_null, as_text, props_of, required_of, names_of, given_schema, is_name, all_differ, all_some, first_some}

-- ---- null schemas, and options

-- by `type`, else by `const`, else by `enum`: all that is said there is null
abbrev pub null_by : Option Types → Option Value → Option (List Value) → Bool
null_by (Some (one_type k)) c e = same_type Null k
null_by (Some (many_types ks)) c e = list_all (same_type Null) ks
null_by None (Some v) e = is_null v
null_by None None (Some vs) = list_all is_null vs
null_by None None None = false

abbrev pub is_null_schema : Schema → Bool
is_null_schema (boolean b) = false
is_null_schema (object p ss ls ns) = null_by p.types p.const_value p.enum_values

abbrev pub the_only : {A : Type 0} → List A → Option A
the_only (x ∷ []) = Some x
the_only _ = None

-- of two or more, the only one whose schema is no null schema
abbrev pub option_among : {A : Type 0} → (A → Schema) → List A → Option A
option_among f xs = if nat_le 2 (length xs) then the_only (filter (λ x. not (is_null_schema (f x))) xs) else None

abbrev pub option_shape : List Schema → Option Schema
option_shape ss = option_among (λ s. s) ss

-- ---- constant texts

-- one text, by `const` or else by `enum`
abbrev pub text_by : Option Value → Option (List Value) → Option Name
text_by (Some v) None = as_text v
text_by None (Some (v ∷ [])) = as_text v
text_by _ _ = None

-- no type, or that of texts
abbrev pub may_be_text : Option Types → Bool
may_be_text o = is_none o || has_type Text o

-- but `const` and `enum`, at most the type of texts stands
abbrev pub holds_text_at_most : Schema → Bool
holds_text_at_most (boolean b) = false
holds_text_at_most (object p ss ls ns) = may_be_text p.types && is_unruled p && is_none p.reference && without_same ss && without_lists ls && without_named ns

abbrev pub held_text : Schema → Option Name
held_text (boolean b) = None
held_text (object p ss ls ns) = text_by p.const_value p.enum_values

-- the text of a schema that holds one text and says nothing else
abbrev pub constant_text : Schema → Option Name
constant_text s = if holds_text_at_most s then held_text s else None

-- ---- object shapes

-- the keywords of members, and whether members that are not named are refused
pub record ObjectShape : Type 0 where
  pub object : Named
  pub closed : Bool

-- `additionalProperties` as a boolean
abbrev pub closed_by : MaybeSchema → Option Bool
closed_by no_schema = Some false
closed_by (the_schema (boolean b)) = Some (not b)
closed_by (the_schema (object p ss ls ns)) = None

-- no count of members
abbrev pub is_uncounted : MemberRules → Bool
is_uncounted rules = is_none rules.max_properties && is_none rules.min_properties

-- whether members are refused that are not named, where `properties`, a `required` within it and a boolean `additionalProperties` stand at most
abbrev pub closedness : Named → Option Bool
closedness no_named = Some false
closedness (named props no_properties rest no_schema rules) =
    if is_uncounted rules && list_all (λ n. is_name n (names_of props)) rules.required then closed_by rest else None
closedness _ = None

-- but the keywords of members, the type of objects alone stands
abbrev pub is_object_alone : Schema → Bool
is_object_alone (boolean b) = false
is_object_alone (object p ss ls ns) = has_type Object p.types && is_bare p ss && is_unruled p && without_lists ls

abbrev pub members_of : Schema → Named
members_of (boolean b) = no_named
members_of (object p ss ls ns) = ns

abbrev pub shape_of : Named → Option ObjectShape
shape_of ns = option_map (λ c. record { object = ns; closed = c }) (closedness ns)

abbrev pub object_shape : Schema → Option ObjectShape
object_shape s = if is_object_alone s then shape_of (members_of s) else None

-- ---- cases

-- a variant: what it holds, if anything, and whether the object shape that it comes from is closed
pub record Case : Type 0 where
  pub name : Name
  pub content : Option Schema
  pub closed : Bool

-- a variant that is an object with the tag among its members
pub record InternalCase : Type 0 where
  pub name : Name
  pub object : Named
  pub closed : Bool

-- where all names differ
abbrev pub if_differ : {A : Type 0} → (A → Name) → List A → Option (List A)
if_differ name xs = if all_differ (map name xs) then Some xs else None

-- ---- external: texts alone, or objects of one property

-- the texts of `const` or of `enum`, where one of the two stands
abbrev pub listed_texts : Option Value → Option (List Value) → Option (List Name)
listed_texts (Some v) None = option_map (λ t. t ∷ []) (as_text v)
listed_texts None (Some vs) = all_some as_text vs
listed_texts _ _ = None

abbrev pub text_case : Name → Case
text_case t = record { name = t; content = None; closed = false }

-- keywords of numbers, of texts, of lists and of members may stand beside them
abbrev pub may_list_texts : Schema → Bool
may_list_texts (boolean b) = false
may_list_texts (object p ss ls ns) = may_be_text p.types && is_none p.format && is_none p.reference && without_same ss

abbrev pub texts_of : Schema → Option (List Name)
texts_of (boolean b) = None
texts_of (object p ss ls ns) = listed_texts p.const_value p.enum_values

abbrev pub text_cases : Schema → Option (List Case)
text_cases s = if may_list_texts s then option_map (map text_case) (texts_of s) else None

abbrev pub only_property : Bool → List Name → Properties → Option (List Case)
only_property c required (property k s no_properties) = if is_name k required then Some (record { name = k; content = Some s; closed = c } ∷ []) else None
only_property c required _ = None

-- one property, and required
abbrev pub property_case : ObjectShape → Option (List Case)
property_case o = only_property o.closed (required_of o.object) (props_of o.object)

abbrev pub or_else : {A : Type 0} → Option A → Option A → Option A
or_else None o = o
or_else (Some x) o = Some x

abbrev pub external_cases : Schema → Option (List Case)
external_cases s = or_else (text_cases s) (option_and_then property_case (object_shape s))

-- those of all, in order
abbrev pub all_cases : List Schema → Option (List Case)
all_cases [] = Some []
all_cases (s ∷ ss) = option_and_then (λ cs. option_map (λ others. cs ++ others) (all_cases ss)) (external_cases s)

abbrev pub external_shape : List Schema → Option (List Case)
external_shape ss = option_and_then (if_differ (λ c. c.name)) (all_cases ss)

-- ---- tags

abbrev pub constant_in : MaybeSchema → Option Name
constant_in no_schema = None
constant_in (the_schema s) = constant_text s

-- the constant text of a property
abbrev pub constant_at : Name → ObjectShape → Option Name
constant_at n o = constant_in (property_at n (props_of o.object))

abbrev pub is_required : Name → ObjectShape → Bool
is_required n o = is_name n (required_of o.object)

abbrev pub property_names : ObjectShape → List Name
property_names o = names_of (props_of o.object)

-- ---- internal: objects with a tag among their members

pub record InternalShape : Type 0 where
  pub tag : Name
  pub cases : List InternalCase

abbrev pub internal_case : Name → ObjectShape → Option InternalCase
internal_case n o = if is_required n o then option_map (λ t. record { name = t; object = o.object; closed = o.closed }) (constant_at n o) else None

-- where the property is a tag: required, and a constant text in all, with texts that differ
abbrev pub tagged_by : List ObjectShape → Name → Option InternalShape
tagged_by os n = option_map (λ cs. record { tag = n; cases = cs }) (option_and_then (if_differ (λ c. c.name)) (all_some (internal_case n) os))

-- the properties of the first, in order
abbrev pub first_names : List ObjectShape → List Name
first_names [] = []
first_names (o ∷ os) = property_names o

abbrev pub internal_by : List ObjectShape → Option InternalShape
internal_by os = first_some (tagged_by os) (first_names os)

abbrev pub internal_shape : List Schema → Option InternalShape
internal_shape ss = option_and_then internal_by (all_some object_shape ss)

-- ---- adjacent: objects of a tag, and of a content or none

pub record AdjacentShape : Type 0 where
  pub tag : Name
  pub content : Name
  pub cases : List Case

-- the two names that a list has, where it has no third
abbrev pub two_names : List Name → Option (Name × Name)
two_names [] = None
two_names (a ∷ ns) = option_and_then (λ b. if list_all (λ n. bytes_eq n a || bytes_eq n b) ns then Some (a, b) else None) (find (λ n. not (bytes_eq n a)) ns)

-- all properties are required
abbrev pub is_all_required : ObjectShape → Bool
is_all_required o = list_all (λ n. is_required n o) (property_names o)

-- the property is a constant text in all
abbrev pub is_constant : List ObjectShape → Name → Bool
is_constant os n = list_all (λ o. is_some (constant_at n o)) os

abbrev pub adjacent_case : Name → Name → ObjectShape → Option Case
adjacent_case tag content o = option_map (λ t. record { name = t; content = given_schema (property_at content (props_of o.object)); closed = o.closed }) (constant_at tag o)

-- the tag alone is a constant text in all, and the texts differ
abbrev pub adjacent_with : List ObjectShape → Name → Name → Option AdjacentShape
adjacent_with os tag content =
    if is_constant os content then None
    else option_map (λ cs. record { tag = tag; content = content; cases = cs }) (option_and_then (if_differ (λ c. c.name)) (all_some (adjacent_case tag content) os))

abbrev pub adjacent_by : List ObjectShape → Name × Name → Option AdjacentShape
adjacent_by os two = or_else (adjacent_with os two.0 two.1) (adjacent_with os two.1 two.0)

abbrev pub adjacent_of : List ObjectShape → Option AdjacentShape
adjacent_of os = if list_all is_all_required os then option_and_then (adjacent_by os) (two_names (flat_map property_names os)) else None

abbrev pub adjacent_shape : List Schema → Option AdjacentShape
adjacent_shape ss = option_and_then adjacent_of (all_some object_shape ss)
