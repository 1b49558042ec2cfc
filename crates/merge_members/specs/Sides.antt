-- What is asked of the keywords of members of two sides, both there.
use Rattle.std.specs.Prelude.{◌||◌, ◌++◌, List, [], ◌∷◌, ℕ, Bool, false}
use Rattle.schema_defs.specs.Schema.{Schema, Named, named, no_named, no_properties, no_schema, Properties}
use Rattle.enum_defs.specs.Words.{names_of}
use Rattle.merge_defs.specs.Outcome.{Note, Outcome, answer, and_then, mapped, note_if, less_than, more_than, of_absent}
use Rattle.merge_defs.specs.Objects.{all_names, forgets_rest, has_patterns, kept_if, needs_more, no_rest, properties_of, two_member_rules, two_rests}
use Rattle.merge_members.specs.declared.plan.Entry.{Entry}
use Rattle.merge_members.specs.Plans.{entries_then}

-- where null may stand for an absent member
abbrev pub absent_needed : Named → Named → Bool
absent_needed (named ps pp x xn c) (named qs qq y yn d) = needs_more c.required qs d.required || needs_more d.required ps c.required
absent_needed _ _ = false

abbrev pub absent_rest : List (List ℕ) → Named → Named → Bool
absent_rest needed (named ps pp x xn c) (named qs qq y yn d) = forgets_rest needed ps qs y || forgets_rest needed qs ps x
absent_rest needed _ _ = false

abbrev pub absent_of : List (List ℕ) → Named → Named → List Note
absent_of needed m n = note_if (absent_needed m n) (less_than of_absent ∷ []) ++ note_if (absent_rest needed m n) (more_than of_absent ∷ [])

-- whether one of both has keywords of names by pattern
abbrev pub patterns_in : Named → Named → Bool
patterns_in (named ps pp x xn c) (named qs qq y yn d) = has_patterns pp xn || has_patterns qq yn
patterns_in _ _ = false

abbrev pub properties_in_both : (Schema → Schema → Outcome Schema) → Named → Named → Bool → Bool → Bool → List (List ℕ) → Outcome Properties
properties_in_both join (named ps pp x xn c) (named qs qq y yn d) nulls object_type closed needed =
    properties_of join ps x qs y nulls object_type closed needed (all_names (names_of ps) (names_of qs))
properties_in_both join _ _ nulls object_type closed needed = answer [] no_properties

-- with entries in place of the names of both
abbrev pub framed_outcome : (Schema → Schema → Outcome Schema) → Bool → Bool → List Entry → Named → Named → Outcome Named
framed_outcome join object_type dropped es (named ps pp x xn c) (named qs qq y yn d) =
    mapped (kept_if dropped)
    (and_then (two_rests join x y) (λ rest.
    and_then (entries_then join object_type (no_rest rest) es (answer [] no_properties)) (λ props.
    mapped (λ rules. named props no_properties rest no_schema rules) (two_member_rules object_type c d))))
framed_outcome join object_type dropped es _ _ = answer [] no_named
