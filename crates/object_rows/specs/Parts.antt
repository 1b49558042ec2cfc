-- Keywords of members, part by part.
use Rattle.std.specs.Prelude.{ℕ, ◌&&◌, ◌||◌, not, List, [], ◌++◌, Bool, Option, None, ◌∷◌, codes, if◌then◌else◌}
use Rattle.schema_defs.specs.declared.Setting.{Setting}
use Rattle.schema_defs.specs.Schema.{Schema, Named, no_named, named, MemberRules, MaybeSchema, no_schema, Properties, no_properties}
use Rattle.schema_defs.specs.Layer.{is_given}
use Rattle.convert_defs.specs.Row.{child, FieldRow, Row, Note, Finding, noted, asking, here, narrowed, widened, names_note}
use Rattle.convert_defs.specs.IntegerRow.{note_if}
use Rattle.convert_defs.specs.Owners.{no_property, is_empty, is_false, is_shut, are_alike, counts_notes, names_notes, map_of, pattern_names, pattern_row, struct_of, state_of, default_of, may_be_null}
use Rattle.enum_defs.specs.Words.{is_name}

abbrev pub no_rules : MemberRules
no_rules = record { max_properties = None; min_properties = None; required = [] }

abbrev pub props_in : Named → Properties
props_in no_named = no_properties
props_in (named props patterns rest names_schema rules) = props

abbrev pub patterns_in : Named → Properties
patterns_in no_named = no_properties
patterns_in (named props patterns rest names_schema rules) = patterns

abbrev pub rest_in : Named → MaybeSchema
rest_in no_named = no_schema
rest_in (named props patterns rest names_schema rules) = rest

abbrev pub names_in : Named → MaybeSchema
names_in no_named = no_schema
names_in (named props patterns rest names_schema rules) = names_schema

abbrev pub rules_in : Named → MemberRules
rules_in no_named = no_rules
rules_in (named props patterns rest names_schema rules) = rules

-- the field of a property
abbrev pub field_of : Setting → List (List ℕ) → List ℕ → Schema → FieldRow
field_of setting required k s =
    record { name = k; part = child (codes "properties" ∷ k ∷ []) s; state = state_of (is_name k required) (default_of s); nullable = may_be_null setting && not (is_name k required) }

-- no property is named or required
abbrev pub names_nothing : Named → Bool
names_nothing ns = no_property (props_in ns) && is_empty (rules_in ns).required

abbrev pub is_map : Named → Bool
is_map ns = no_property (props_in ns) && is_empty (rules_in ns).required && no_property (patterns_in ns) && not (is_false (rest_in ns))

abbrev pub is_pattern_map : Named → Bool
is_pattern_map ns = no_property (props_in ns) && is_empty (rules_in ns).required && not (is_given (names_in ns)) && is_shut (rest_in ns) && are_alike (patterns_in ns)

-- the notes before those of the counts, the row and the notes after
abbrev pub map_found : Named → Finding
map_found ns = noted (counts_notes (rules_in ns)) (map_of (rest_in ns) (names_in ns))

abbrev pub patterns_found : Named → Finding
patterns_found ns = asking (pattern_names (patterns_in ns)) (noted (counts_notes (rules_in ns) ++ note_if (not (is_given (rest_in ns))) (here narrowed names_note)) (pattern_row (patterns_in ns)))

abbrev pub struct_found : Setting → Named → Finding
struct_found setting ns = noted (counts_notes (rules_in ns) ++ names_notes (patterns_in ns) (names_in ns)) (struct_of setting (props_in ns) (rest_in ns) (rules_in ns))

-- after notes that are given
abbrev pub found_with : Setting → Named → List Note → Finding
found_with setting ns notes =
    if is_map ns then noted notes (map_of (rest_in ns) (names_in ns))
    else if is_pattern_map ns then asking (pattern_names (patterns_in ns)) (noted (notes ++ note_if (not (is_given (rest_in ns))) (here narrowed names_note)) (pattern_row (patterns_in ns)))
    else noted (notes ++ note_if (is_given (names_in ns) || not (no_property (patterns_in ns))) (here widened names_note) ++ note_if (not (no_property (patterns_in ns))) (here narrowed names_note)) (struct_of setting (props_in ns) (rest_in ns) (rules_in ns))

abbrev pub found_by_parts : Setting → Named → Finding
found_by_parts setting ns = if is_map ns then map_found ns else if is_pattern_map ns then patterns_found ns else struct_found setting ns
