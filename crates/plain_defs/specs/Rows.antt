-- The table of plain rows: which schemas conversion takes without a note, each by its own keywords and its direct subschemas.
use Rattle.std.specs.Prelude.{ℕ, zero, suc, ◌&&◌, ◌||◌, not, nat_le, ℤ, pos, List, [], ◌∷◌, map, flat_map, length, Bool, true, false, Option, Some, None, is_none, is_some, option_map, if◌then◌else◌}
use Rattle.std.specs.List.{list_any, list_all}
use Rattle.std.specs.Ordering.{int_eq}
use Rattle.schema_defs.specs.declared.InstanceType.{InstanceType}
use Rattle.schema_defs.specs.declared.InstanceType.TheVariants.{Null, Boolean, Object, Array, Text, Integer}
use Rattle.schema_defs.specs.Integers.{Range, range_of}
use Rattle.schema_defs.specs.Schema.{Numbers, Plain, Schema, boolean, object, Same, same_value, Lists, no_lists, lists, Named, no_named, named, no_schema, the_schema, no_list, the_list, Schemas, no_more, schema, schema_list, each_item, by_place, Properties, no_properties, property, ListRules, Document}
use Rattle.schema_defs.specs.Layer.{format_of, property_at, is_given}
use Rattle.schema_defs.specs.Counts.{has_properties}
use Rattle.schema_defs.specs.Admits.{target, is_root_reference}
use Rattle.enum_defs.specs.Words.{Name, without_same, without_lists, without_named, is_name, names_of, all_differ, all_some}
use Rattle.enum_defs.specs.Kinds.{kinds, null_free}
use Rattle.enum_defs.specs.Exclusive.{is_disjoint}
use Rattle.plain_defs.specs.Words.{says_nothing, is_only, without_schemas, are_lengths, enumeration, named_text, is_unsized, is_size, is_uncounted, is_unruled, is_flag, is_false, is_closed, properties_of, required_by, one_required, text_at, beside_null, lists_null_once, less_null, are_one, are_two, are_distinct, or_else}

-- What is said of direct subschemas: that one is a row, wherever it stands; that one is an option, which may stand as an optional property alone; and that one
-- is a struct.
pub record Inner : Type 0 where
  pub row : Schema → Bool
  pub nullable : Schema → Bool
  pub object : Schema → Bool

module _ (d : Document) (inner : Inner) where
  -- ---- anything: `true`, or no constraint
  abbrev pub plain_any : Schema → Bool
  plain_any (boolean b) = b
  plain_any (object p ss ls ns) = says_nothing p && without_schemas ss ls ns

  -- ---- booleans: type boolean
  abbrev pub plain_boolean : Schema → Bool
  plain_boolean (boolean b) = false
  plain_boolean (object p ss ls ns) = is_only Boolean p && without_schemas ss ls ns

  -- ---- integers: type integer, with or without an integer format; `minimum` 0 may stand at an unsigned format
  abbrev pub is_integer_format : Option (List ℕ) → Bool
  is_integer_format None = true
  is_integer_format (Some f) = is_some (range_of f)

  abbrev pub begins_at_zero : Option Range → Bool
  begins_at_zero None = false
  begins_at_zero (Some g) = int_eq g.least (pos 0)

  -- its range begins at 0
  abbrev pub is_unsigned : Option (List ℕ) → Bool
  is_unsigned None = false
  is_unsigned (Some f) = begins_at_zero (range_of f)

  abbrev pub is_zero : Option ℤ → Bool
  is_zero None = false
  is_zero (Some z) = int_eq z (pos 0)

  abbrev pub is_from_zero : Numbers → Bool
  is_from_zero n = is_zero n.minimum && (is_none n.multiple_of && (is_none n.maximum && (is_none n.exclusive_maximum && is_none n.exclusive_minimum)))

  abbrev pub bounds_fit : Option (List ℕ) → Option Numbers → Bool
  bounds_fit f None = true
  bounds_fit f (Some n) = is_unsigned f && is_from_zero n

  abbrev pub plain_integer : Schema → Bool
  plain_integer (boolean b) = false
  plain_integer (object p ss ls ns) = is_only Integer (record p { format = None; numbers = None }) && (is_integer_format p.format && (bounds_fit p.format p.numbers && without_schemas ss ls ns))

  -- ---- texts: type string alone, with lengths, with one of the six formats, or with `enum` of one or more distinct texts; or a named text
  abbrev pub is_text_format : Option (List ℕ) → Bool
  is_text_format None = false
  is_text_format (Some f) = is_some (format_of f)

  abbrev pub sized_text : Schema → Bool
  sized_text (boolean b) = false
  sized_text (object p ss ls ns) = is_only Text (record p { texts = None }) && (are_lengths p.texts && without_schemas ss ls ns)

  abbrev pub formatted_text : Schema → Bool
  formatted_text (boolean b) = false
  formatted_text (object p ss ls ns) = is_only Text (record p { format = None }) && (is_text_format p.format && without_schemas ss ls ns)

  abbrev pub plain_text : Schema → Bool
  plain_text s = sized_text s || (formatted_text s || (is_some (enumeration s) || is_some (named_text s)))

  -- ---- lists: type array, alone or with one `items` schema
  abbrev pub holds_items : Lists → Bool
  holds_items no_lists = true
  holds_items (lists (each_item s) no_schema no_schema rules) = is_unsized rules && inner.row s
  holds_items _ = false

  abbrev pub plain_list : Schema → Bool
  plain_list (boolean b) = false
  plain_list (object p ss ls ns) = is_only Array p && (without_same ss && (holds_items ls && without_named ns))

  -- ---- tuples: type array, `items` a list of n schemas, both sizes n, n at least 1
  abbrev pub is_sized : ℕ → ListRules → Bool
  is_sized n c = nat_le 1 n && (is_size n c.min_items && (is_size n c.max_items && is_none c.unique_items))

  abbrev pub holds_places : Lists → Bool
  holds_places (lists (by_place ss) no_schema no_schema rules) = is_sized (length (schema_list ss)) rules && list_all inner.row (schema_list ss)
  holds_places _ = false

  abbrev pub plain_tuple : Schema → Bool
  plain_tuple (boolean b) = false
  plain_tuple (object p ss ls ns) = is_only Array p && (without_same ss && (holds_places ls && without_named ns))

  -- ---- maps: type object, alone or with `additionalProperties` a row
  abbrev pub holds_members : Named → Bool
  holds_members no_named = true
  holds_members (named no_properties no_properties (the_schema s) no_schema rules) = is_unruled rules && inner.row s
  holds_members _ = false

  abbrev pub plain_map : Schema → Bool
  plain_map (boolean b) = false
  plain_map (object p ss ls ns) = is_only Object p && (without_same ss && (without_lists ls && holds_members ns))

  -- ---- structs: type object with one or more `properties`, `additionalProperties` absent or a boolean, `required` within `properties`; or type object with
  -- `additionalProperties` `false` alone. A property is a row, or an option where it is optional
  abbrev pub holds_property : List Name → Name → Schema → Bool
  holds_property required k s = inner.row s || (not (is_name k required) && inner.nullable s)

  abbrev pub holds_properties : List Name → Properties → Bool
  holds_properties required no_properties = true
  holds_properties required (property k s ps) = holds_property required k s && holds_properties required ps

  abbrev pub are_within : List Name → Properties → Bool
  are_within required props = list_all (λ n. is_given (property_at n props)) required

  abbrev pub holds_fields : Named → Bool
  holds_fields (named props no_properties rest no_schema rules) = has_properties props && (is_uncounted rules && (are_within rules.required props && holds_properties rules.required props))
  holds_fields _ = false

  abbrev pub has_flag : Named → Bool
  has_flag (named props patterns rest names rules) = is_flag rest
  has_flag _ = false

  abbrev pub is_shut_alone : Named → Bool
  is_shut_alone (named no_properties no_properties rest no_schema rules) = is_unruled rules && is_false rest
  is_shut_alone _ = false

  abbrev pub plain_struct : Schema → Bool
  plain_struct (boolean b) = false
  plain_struct (object p ss ls ns) = is_only Object p && (without_same ss && (without_lists ls && ((holds_fields ns && has_flag ns) || is_shut_alone ns)))

  -- ---- items: as a definition only: a struct with properties, but with a row that is no boolean as `additionalProperties`
  abbrev pub has_row : Named → Bool
  has_row (named props patterns (the_schema (object p ss ls ns)) names rules) = inner.row (object p ss ls ns)
  has_row _ = false

  abbrev pub plain_item : Schema → Bool
  plain_item (boolean b) = false
  plain_item (object p ss ls ns) = is_only Object p && (without_same ss && (without_lists ls && (holds_fields ns && has_row ns)))

  -- ---- references: `$ref` to a definition, alone
  abbrev pub leads_to_definition : Option Name → Bool
  leads_to_definition None = false
  leads_to_definition (Some q) = not (is_root_reference q) && is_some (target d q)

  abbrev pub plain_reference : Schema → Bool
  plain_reference (boolean b) = false
  plain_reference (object p ss ls ns) = says_nothing (record p { reference = None }) && (leads_to_definition p.reference && without_schemas ss ls ns)

  -- ---- options: only as an optional property: one of these but anything, with a type name and without `const`, whose type name becomes the type list of that name
  -- and null, where an `enum` lists null once and at least one text; or `anyOf` or `oneOf` of a null-free row and exactly `{"type":"null"}`
  abbrev pub plain_typed : Schema → Bool
  plain_typed s = plain_boolean s || (plain_integer s || (plain_text s || (plain_list s || (plain_tuple s || (plain_map s || plain_struct s)))))

  abbrev pub with_null : Plain → Same → Lists → Named → Option InstanceType → Bool
  with_null p ss ls ns None = false
  with_null p ss ls ns (Some k) = is_none p.const_value && (lists_null_once p.enum_values && plain_typed (object (less_null k p) ss ls ns))

  abbrev pub is_null_alone : Schema → Bool
  is_null_alone (boolean b) = false
  is_null_alone (object p ss ls ns) = is_only Null p && (is_none p.title && (is_none p.description && without_schemas ss ls ns))

  abbrev pub is_row_and_null : Schema → Schema → Bool
  is_row_and_null s n = inner.row s && (null_free d s && is_null_alone n)

  abbrev pub are_row_and_null : Schemas → Bool
  are_row_and_null (schema s (schema t no_more)) = is_row_and_null s t || is_row_and_null t s
  are_row_and_null _ = false

  abbrev pub has_row_and_null : Same → Bool
  has_row_and_null (same_value no_list (the_list ss) no_list no_schema false) = are_row_and_null ss
  has_row_and_null (same_value no_list no_list (the_list ss) no_schema false) = are_row_and_null ss
  has_row_and_null _ = false

  abbrev pub plain_option : Schema → Bool
  plain_option (boolean b) = false
  plain_option (object p ss ls ns) = with_null p ss ls ns (beside_null p.types) || (says_nothing p && (has_row_and_null ss && (without_lists ls && without_named ns)))

  -- ---- `oneOf` alone: its members
  abbrev pub members_of_one : Same → List Schema
  members_of_one (same_value no_list no_list (the_list ss) no_schema false) = schema_list ss
  members_of_one _ = []

  abbrev pub one_of : Schema → List Schema
  one_of (boolean b) = []
  one_of (object p ss ls ns) = if says_nothing p && (without_lists ls && without_named ns) then members_of_one ss else []

  -- ---- tagged choices: `oneOf` of two or more structs that share a required property whose schemas are named texts, all distinct. The objects are all closed or all
  -- open. The row doesn't cover the one case in which they are all open, all their properties are required, their property names together are two, and one
  -- branch has the tag alone
  abbrev pub requires : Name → Schema → Bool
  requires n s = is_name n (required_by s)

  abbrev pub is_tag : List Schema → Name → Bool
  is_tag ms n = list_all (requires n) ms && are_distinct (map (text_at n) ms)

  abbrev pub first_required : List Schema → List Name
  first_required [] = []
  first_required (m ∷ ms) = required_by m

  abbrev pub property_names : Schema → List Name
  property_names s = names_of (properties_of s)

  abbrev pub requires_all : Schema → Bool
  requires_all s = list_all (λ n. is_name n (required_by s)) (property_names s)

  -- its properties have one name
  abbrev pub has_one_property : Schema → Bool
  has_one_property s = are_one (property_names s)

  abbrev pub is_uncovered : List Schema → Bool
  is_uncovered ms = list_all (λ m. not (is_closed m)) ms && (list_all requires_all ms && (are_two (flat_map property_names ms) && list_any has_one_property ms))

  abbrev pub plain_tagged : Schema → Bool
  plain_tagged s =
      nat_le 2 (length (one_of s)) && (list_all inner.object (one_of s) && (list_any (is_tag (one_of s)) (first_required (one_of s))
      && ((list_all is_closed (one_of s) || list_all (λ m. not (is_closed m)) (one_of s)) && not (is_uncovered (one_of s)))))

  -- ---- choices of cases: `oneOf` of one or more members, each an enumeration, a named text, or a closed object with one property, required and null-free; all texts
  -- and property names distinct
  abbrev pub name_if_null_free : Option (Name × Schema) → Option (List Name)
  name_if_null_free None = None
  name_if_null_free (Some c) = if null_free d c.1 then Some (c.0 ∷ []) else None

  abbrev pub holding_case : Schema → Option (List Name)
  holding_case s = if inner.object s && is_closed s then name_if_null_free (one_required s) else None

  abbrev pub cases : Schema → Option (List Name)
  cases s = or_else (enumeration s) (or_else (option_map (λ t. t ∷ []) (named_text s)) (holding_case s))

  abbrev pub all_apart : Option (List (List Name)) → Bool
  all_apart None = false
  all_apart (Some nss) = all_differ (flat_map (λ ns. ns) nss)

  abbrev pub plain_cases : Schema → Bool
  plain_cases s = nat_le 1 (length (one_of s)) && all_apart (all_some cases (one_of s))

  -- ---- choices by kinds: `oneOf` of two or more rows with pairwise disjoint kinds, where an inline object whose one property is required is closed
  abbrev pub is_shut_where_one : Schema → Bool
  is_shut_where_one s = not (is_some (one_required s)) || is_closed s

  abbrev pub are_disjoint : List Schema → Bool
  are_disjoint [] = true
  are_disjoint (s ∷ ss) = list_all (λ t. is_disjoint (kinds d s) (kinds d t)) ss && are_disjoint ss

  abbrev pub plain_kinds : Schema → Bool
  plain_kinds s = nat_le 2 (length (one_of s)) && (list_all inner.row (one_of s) && (are_disjoint (one_of s) && list_all is_shut_where_one (one_of s)))

  -- ---- the rows
  abbrev pub plain_row : Schema → Bool
  plain_row s = plain_any s || (plain_typed s || (plain_reference s || (plain_tagged s || (plain_cases s || plain_kinds s))))

-- ---- n counts the levels of schemas in one another

abbrev pub nothing : Schema → Bool
nothing s = false

abbrev pub rows_within : Document → ℕ → Inner
rows_within d zero = record { row = nothing; nullable = nothing; object = nothing }
rows_within d (suc n) = record { row = plain_row d (rows_within d n); nullable = plain_option d (rows_within d n); object = plain_struct d (rows_within d n) }

-- of a definition
abbrev pub definition_row : Document → ℕ → Schema → Bool
definition_row d zero s = false
definition_row d (suc n) s = (rows_within d (suc n)).row s || plain_item d (rows_within d n) s
