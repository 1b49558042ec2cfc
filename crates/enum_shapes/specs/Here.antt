-- What schemas and keywords of members say, part by part.
use Rattle.std.specs.Prelude.{◌≡◌, ◌&&◌, ℕ, List, Bool, true, false, Option, Some, None, option_map}
use Rattle.std.specs.List.{list_all}
use Rattle.json_value.specs.Value.{Value}
use Rattle.schema_defs.specs.declared.InstanceType.TheVariants.{Object}
use Rattle.schema_defs.specs.Schema.{Schema, boolean, object, Named, no_named, named, MaybeSchema, no_schema, the_schema, Properties, no_properties, property}
use Rattle.enum_defs.specs.Words.{has_type, is_bare, is_unruled, without_lists, is_name, names_of, as_text}
use Rattle.enum_defs.specs.Shapes.{Case, closed_by, is_uncounted, text_case, only_property}

-- a schema that is a boolean
abbrev pub boolean_in : Schema → Option Bool
boolean_in (boolean b) = Some b
boolean_in (object p ss ls ns) = None

-- of type object, and no keyword of lists
abbrev pub is_object_typed_in : Schema → Bool
is_object_typed_in (boolean b) = false
is_object_typed_in (object p ss ls ns) = has_type Object p.types && without_lists ls

abbrev pub is_bare_in : Schema → Bool
is_bare_in (boolean b) = false
is_bare_in (object p ss ls ns) = is_bare p ss

abbrev pub is_unruled_in : Schema → Bool
is_unruled_in (boolean b) = false
is_unruled_in (object p ss ls ns) = is_unruled p

-- ---- keywords of members

abbrev pub has_none : Properties → Bool
has_none no_properties = true
has_none (property k s ps) = false

abbrev pub is_missing : MaybeSchema → Bool
is_missing no_schema = true
is_missing (the_schema s) = false

abbrev pub has_no_pattern_in : Named → Bool
has_no_pattern_in no_named = true
has_no_pattern_in (named props patterns rest names rules) = has_none patterns && is_missing names

abbrev pub is_uncounted_in : Named → Bool
is_uncounted_in no_named = true
is_uncounted_in (named props patterns rest names rules) = is_uncounted rules

abbrev pub requires_named_in : Named → Bool
requires_named_in no_named = true
requires_named_in (named props patterns rest names rules) = list_all (λ n. is_name n (names_of props)) rules.required

abbrev pub rest_in : Named → Option Bool
rest_in no_named = Some false
rest_in (named props patterns rest names rules) = closed_by rest

-- the case of a value that is a text
abbrev pub text_case_in : Value → Option Case
text_case_in v = option_map text_case (as_text v)

-- other than one property alone
abbrev pub IsNotLone : Properties → Type 0
IsNotLone ps = (c : Bool) (required : List (List ℕ)) → only_property c required ps ≡ None
