-- The shapes of members as the proofs take them apart: each with the place of its member.
use Rattle.std.specs.Prelude.{ℕ, ◌&&◌, ◌||◌, not, List, [], ◌∷◌, ◌++◌, map, flat_map, Bool, false, Option, Some, None, is_none, option_map, option_and_then, codes, if◌then◌else◌}
use Rattle.std.specs.List.{list_any, list_all}
use Rattle.json_value.specs.Value.{Value, text}
use Rattle.schema_defs.specs.declared.InstanceType.TheVariants.{Text, Object}
use Rattle.schema_defs.specs.declared.Setting.{Setting}
use Rattle.schema_defs.specs.declared.Setting.TheVariants.{Strict}
use Rattle.schema_defs.specs.Location.{Location}
use Rattle.schema_defs.specs.Schema.{Schema, boolean, object, Named, no_named, named, no_schema, Properties, no_properties, property}
use Rattle.schema_defs.specs.Layer.{property_at}
use Rattle.model_defs.specs.Layer.{is_text}
use Rattle.enum_defs.specs.Words.{has_type, without_same, without_lists, is_bare, names_of, is_name, all_differ, all_some}
use Rattle.enum_defs.specs.Shapes.{closed_by, constant_in}
use Rattle.convert_defs.specs.Row.{of_branch, FieldRow, unit_body, part_body, VariantRow}
use Rattle.convert_defs.specs.Scalars.{texts_in}
use Rattle.convert_defs.specs.Owners.{property_fields}
use Rattle.convert_defs.specs.Shapes.{Member, words_or_none, less_property, placed_field, body_of_fields, body_of_field, is_no_property, TaggedShape}

-- ---- object shapes

pub record ObjectShape : Type 0 where
  pub place : Location
  pub closed : Bool
  pub props : Properties
  pub required_names : List (List ℕ)

abbrev pub shape_of_named : Location → Named → Option ObjectShape
shape_of_named l no_named = Some (record { place = l; closed = false; props = no_properties; required_names = [] })
shape_of_named l (named props no_properties rest no_schema rules) =
    if is_none rules.max_properties && is_none rules.min_properties && list_all (λ n. is_name n (names_of props)) rules.required
    then option_map (λ c. record { place = l; closed = c; props = props; required_names = rules.required }) (closed_by rest)
    else None
shape_of_named l _ = None

abbrev pub object_shape : Member → Option ObjectShape
object_shape (l, boolean b) = None
object_shape (l, object p ss ls ns) =
    if has_type Object p.types && is_bare p ss && is_none p.format && is_none p.numbers && is_none p.texts && without_lists ls then shape_of_named l ns else None

-- ---- external

abbrev pub are_distinct : List (List ℕ) → Bool
are_distinct ns = all_differ ns

abbrev pub unit_rows : List (List ℕ) → List VariantRow
unit_rows ns = map (λ n. record { name = n; body = unit_body }) ns

abbrev pub listed_texts : Option Value → Option (List Value) → Option (List (List ℕ))
listed_texts (Some (text s)) None = Some (s ∷ [])
listed_texts None (Some vs) = if list_all is_text vs then Some (texts_in vs) else None
listed_texts _ _ = None

abbrev pub text_case : Schema → Option (List VariantRow)
text_case (boolean b) = None
text_case (object p ss ls ns) =
    if (is_none p.types || has_type Text p.types) && is_none p.format && is_none p.reference && without_same ss
    then option_map unit_rows (listed_texts p.const_value p.enum_values) else None

abbrev pub property_row : Location → List ℕ → Schema → VariantRow
property_row l k s = record { name = k; body = part_body (of_branch (l ++ codes "properties" ∷ k ∷ []) s) }

abbrev pub lone_property : Location → List (List ℕ) → Properties → Option (List VariantRow)
lone_property l req (property k s no_properties) = if is_name k req then Some (property_row l k s ∷ []) else None
lone_property l req _ = None

abbrev pub one_property : ObjectShape → Option (List VariantRow)
one_property o = lone_property o.place o.required_names o.props

abbrev pub case_or : Option (List VariantRow) → Option ObjectShape → Option (List VariantRow)
case_or (Some ws) o = Some ws
case_or None o = option_and_then one_property o

abbrev pub external_case : Member → Option (List VariantRow)
external_case m = case_or (text_case m.1) (object_shape m)

abbrev pub if_distinct : List VariantRow → Option (List VariantRow)
if_distinct ws = if are_distinct (map (λ w. w.name) ws) then Some ws else None

abbrev pub external_shape : List Member → Option (List VariantRow)
external_shape ms = option_and_then (λ wss. if_distinct (flat_map (λ ws. ws) wss)) (all_some external_case ms)

-- ---- tags

abbrev pub constant_at : List ℕ → ObjectShape → Option (List ℕ)
constant_at n o = constant_in (property_at n o.props)

-- the texts of a tag, one for each member
abbrev pub tag_texts : List ObjectShape → List ℕ → Option (List (List ℕ))
tag_texts os n = all_some (constant_at n) os

abbrev pub are_tags : List ℕ → List ObjectShape → Option (List (List ℕ)) → Bool
are_tags n os None = false
are_tags n os (Some ts) = are_distinct ts && list_all (λ o. is_name n o.required_names) os

abbrev pub is_tag : List ObjectShape → List ℕ → Bool
is_tag os n = are_tags n os (tag_texts os n)

abbrev pub branch_fields : Setting → List ℕ → ObjectShape → List FieldRow
branch_fields setting tag o = map (placed_field o.place) (property_fields setting o.required_names (less_property tag o.props))

abbrev pub some_closed : List ObjectShape → Bool
some_closed os = list_any (λ o. o.closed) os

abbrev pub internal_variant : Setting → List ℕ → ObjectShape → VariantRow
internal_variant setting tag o = record { name = words_or_none (constant_at tag o); body = body_of_fields (branch_fields setting tag o) }

abbrev pub internal_with : Setting → List ObjectShape → List ℕ → TaggedShape
internal_with setting os n = record { tag = n; content = []; closed = some_closed os; mixed = some_closed os && list_any (λ o. not o.closed) os; alone = false; variants = map (internal_variant setting n) os }

abbrev pub are_all_required : ObjectShape → Bool
are_all_required o = list_all (λ n. is_name n o.required_names) (names_of o.props)

-- all properties are required, so the setting says nothing
abbrev pub adjacent_variant : List ℕ → ObjectShape → VariantRow
adjacent_variant tag o = record { name = words_or_none (constant_at tag o); body = body_of_field (branch_fields Strict tag o) }

abbrev pub has_tag_alone : List ℕ → ObjectShape → Bool
has_tag_alone tag o = is_no_property (less_property tag o.props)

abbrev pub adjacent_with : List ObjectShape → List ℕ → List ℕ → TaggedShape
adjacent_with os tag content = record { tag = tag; content = content; closed = some_closed os; mixed = some_closed os && list_any (λ o. not o.closed) os; alone = not (some_closed os) && list_any (has_tag_alone tag) os; variants = map (adjacent_variant tag) os }
