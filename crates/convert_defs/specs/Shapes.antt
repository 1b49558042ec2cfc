-- What the members of anyOf and oneOf make where they have a shape of an enum: the shapes are those of enum_defs, and each member makes its own rows.
use Rattle.std.specs.Prelude.{ℕ, suc, ◌&&◌, not, List, [], ◌∷◌, ◌++◌, map, flat_map, Bool, true, false, Option, Some, None, is_none, option_map, bytes_eq, codes, if◌then◌else◌}
use Rattle.std.specs.List.{list_any, list_all}
use Rattle.json_value.specs.Value.{Value}
use Rattle.schema_defs.specs.declared.InstanceType.TheVariants.{Null}
use Rattle.schema_defs.specs.declared.Setting.{Setting}
use Rattle.schema_defs.specs.declared.Setting.TheVariants.{Strict}
use Rattle.schema_defs.specs.Location.{Step, Location, place}
use Rattle.schema_defs.specs.Schema.{Types, one_type, many_types, Schema, boolean, object, Schemas, no_more, schema, Properties, no_properties, property}
use Rattle.schema_defs.specs.Layer.{property_at}
use Rattle.enum_defs.specs.Words.{same_type, without_same, without_lists, without_named, is_null, props_of, required_of}
use Rattle.enum_defs.specs.Shapes.{is_null_schema, option_among, Case, external_cases, external_shape, InternalShape, internal_shape, AdjacentShape, adjacent_shape, constant_in, closedness, members_of}
use Rattle.convert_defs.specs.Row.{Part, child, of_branch, FieldRow, VariantBody, unit_body, part_body, fields_body, VariantRow}
use Rattle.convert_defs.specs.Owners.{property_fields}

-- a member of anyOf or oneOf with the steps to it
abbrev pub Member : Type 0
Member = Location × Schema

abbrev pub members_from : Step → ℕ → Schemas → List Member
members_from k i no_more = []
members_from k i (schema s ss) = (k ∷ place i ∷ [], s) ∷ members_from k (suc i) ss

abbrev pub schemas_of : List Member → List Schema
schemas_of ms = map (λ m. m.1) ms

-- ---- options

-- one of the three alone, and no empty list
abbrev pub one_null : Option Types → Option Value → Option (List Value) → Bool
one_null (Some (one_type k)) None None = same_type Null k
one_null (Some (many_types (k ∷ ks))) None None = list_all (same_type Null) (k ∷ ks)
one_null None (Some v) None = is_null v
one_null None None (Some (v ∷ vs)) = list_all is_null (v ∷ vs)
one_null _ _ _ = false

-- a null schema of one keyword
abbrev pub is_plain_null : Schema → Bool
is_plain_null (boolean b) = false
is_plain_null (object p ss ls ns) = one_null p.types p.const_value p.enum_values && (is_none p.format && is_none p.numbers && is_none p.texts && is_none p.reference) && (without_same ss && without_lists ls && without_named ns)

-- a member that is null, with more than one keyword or an empty list
abbrev pub is_odd_null : Member → Bool
is_odd_null m = is_null_schema m.1 && not (is_plain_null m.1)

-- the one member that is no null schema, of two or more
abbrev pub option_member : List Member → Option Member
option_member ms = option_among (λ m. m.1) ms

-- ---- external: a text is a unit, and the one property of an object is a part

-- nothing, or the property of that name
abbrev pub case_body : Location → List ℕ → Option Schema → VariantBody
case_body l k None = unit_body
case_body l k (Some s) = part_body (of_branch (l ++ codes "properties" ∷ k ∷ []) s)

abbrev pub case_row : Location → Case → VariantRow
case_row l c = record { name = c.name; body = case_body l c.name c.content }

abbrev pub case_rows : Location → Option (List Case) → List VariantRow
case_rows l None = []
case_rows l (Some cs) = map (case_row l) cs

abbrev pub external_rows : List Member → List VariantRow
external_rows ms = flat_map (λ m. case_rows m.0 (external_cases m.1)) ms

-- the variants, where the members have the external shape
abbrev pub external_members : List Member → Option (List VariantRow)
external_members ms = option_map (λ cs. external_rows ms) (external_shape (schemas_of ms))

-- ---- tags

abbrev pub words_or_none : Option (List ℕ) → List ℕ
words_or_none None = []
words_or_none (Some t) = t

abbrev pub properties_in : Schema → Properties
properties_in s = props_of (members_of s)

-- the text of the tag
abbrev pub tag_text : List ℕ → Schema → List ℕ
tag_text tag s = words_or_none (constant_in (property_at tag (properties_in s)))

abbrev pub less_property : List ℕ → Properties → Properties
less_property n no_properties = no_properties
less_property n (property k s ps) = if bytes_eq n k then less_property n ps else property k s (less_property n ps)

-- members that aren't named are refused
abbrev pub true_or_none : Option Bool → Bool
true_or_none None = false
true_or_none (Some b) = b

abbrev pub is_closed_member : Member → Bool
is_closed_member m = true_or_none (closedness (members_of m.1))

abbrev pub some_closed : List Member → Bool
some_closed ms = list_any is_closed_member ms

abbrev pub some_open : List Member → Bool
some_open ms = list_any (λ m. not (is_closed_member m)) ms

-- the tag and the name of the content, whether some branch is closed, whether some is open beside it, and whether all are open and some has the tag alone
pub record TaggedShape : Type 0 where
  pub tag : List ℕ
  pub content : List ℕ
  pub closed : Bool
  pub mixed : Bool
  pub alone : Bool
  pub variants : List VariantRow

-- ---- internal: what stands beside the tag are the fields

-- a part of a branch at that place
abbrev pub placed_part : Location → Part → Part
placed_part l (child k s) = of_branch (l ++ k) s
placed_part l p = p

abbrev pub placed_field : Location → FieldRow → FieldRow
placed_field l f = record f { part = placed_part l f.part }

abbrev pub fields_beside : Setting → List ℕ → Member → List FieldRow
fields_beside setting tag m = map (placed_field m.0) (property_fields setting (required_of (members_of m.1)) (less_property tag (properties_in m.1)))

abbrev pub body_of_fields : List FieldRow → VariantBody
body_of_fields [] = unit_body
body_of_fields (f ∷ fs) = fields_body (f ∷ fs)

abbrev pub internal_variant : Setting → List ℕ → Member → VariantRow
internal_variant setting tag m = record { name = tag_text tag m.1; body = body_of_fields (fields_beside setting tag m) }

abbrev pub internal_of : Setting → List Member → InternalShape → TaggedShape
internal_of setting ms s = record { tag = s.tag; content = []; closed = some_closed ms; mixed = some_closed ms && some_open ms; alone = false; variants = map (internal_variant setting s.tag) ms }

abbrev pub internal_members : Setting → List Member → Option TaggedShape
internal_members setting ms = option_map (internal_of setting ms) (internal_shape (schemas_of ms))

-- ---- adjacent: what stands beside the tag is the content

abbrev pub is_no_property : Properties → Bool
is_no_property no_properties = true
is_no_property (property k s ps) = false

abbrev pub has_tag_alone : List ℕ → Member → Bool
has_tag_alone tag m = is_no_property (less_property tag (properties_in m.1))

-- the one property beside the tag, or none
abbrev pub body_of_field : List FieldRow → VariantBody
body_of_field [] = unit_body
body_of_field (f ∷ fs) = part_body f.part

-- all properties are required, so the setting says nothing
abbrev pub adjacent_variant : List ℕ → Member → VariantRow
adjacent_variant tag m = record { name = tag_text tag m.1; body = body_of_field (fields_beside Strict tag m) }

abbrev pub adjacent_of : List Member → AdjacentShape → TaggedShape
adjacent_of ms s = record { tag = s.tag; content = s.content; closed = some_closed ms; mixed = some_closed ms && some_open ms; alone = not (some_closed ms) && list_any (has_tag_alone s.tag) ms; variants = map (adjacent_variant s.tag) ms }

abbrev pub adjacent_members : List Member → Option TaggedShape
adjacent_members ms = option_map (adjacent_of ms) (adjacent_shape (schemas_of ms))
