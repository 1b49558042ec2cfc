-- Worked examples of what the calls of merging tell.
use Rattle.std.specs.Prelude.{◌≡◌, List, [], ◌∷◌, ◌++◌, Bool, true, false, Some, None}
use Rattle.std.specs.List.{list_all}
use Rattle.json_value.specs.Value.{Value}
use Rattle.schema_defs.specs.Schema.{Schema, same_value, no_schema, no_list, the_list, Schemas, no_more, schema, schema_list}
use Rattle.schema_defs.specs.Admits.{admits}
use Rattle.schema_defs.specs.Build.{◌≔◌, str, num, yes, obj, arr, typed, sample}
use Rattle.merge_defs.specs.Outcome.{Note, narrowed, widened, more_than, both_ways, Outcome, fault, never, answer, of_integer, of_names, of_formats, of_subtract, conditional}
use Rattle.merge_defs.specs.Samples.{read}
use Rattle.merge_walks.specs.Carried.{Walk, on_walk}
use Rattle.merge_walks.specs.Samples.{document, members, merged_root}
use Rattle.merge_walks.specs.Examples.{at, definition, member}
use Rattle.merge_walks.specs.Told.{PlacedNote, Merged, Told, cannot, refused, told}
use Rattle.schema_merge.specs.Ordered.{merge_all_told, with_subschemas_told, subtract_told}
use Rattle.told_laws.specs.Laws.{admitted}

abbrev pub what_is_told : Told → Merged
what_is_told (refused f) = record { schema = None; notes = [] }
what_is_told (told m) = m

abbrev pub notes_of : Outcome Schema → List Note
notes_of (fault f) = []
notes_of (never ns) = ns
notes_of (answer ns s) = ns

-- schemas as members of the root's allOf
abbrev pub all_of : List Value → Value
all_of ss = obj ("allOf" ≔ arr ss ∷ [])

-- what their merge tells; no example needs more levels
abbrev pub merged_of : List Value → Merged
merged_of ss = what_is_told (merge_all_told (document (all_of ss)) 8 24 (members (document (all_of ss)).root))

-- their merge has these notes; of the value the first says what all of them say, and the second what the answer says
pub record Tells (ss : List Value) (notes : List PlacedNote) (v : Value) (wanted answered : Bool) : Type 0 where
  pub noted : (merged_of ss).notes ≡ notes
  pub members_say : list_all (admits sample (document (all_of ss)) v) (schema_list (members (document (all_of ss)).root)) ≡ wanted
  pub answer_says : admitted sample (document (all_of ss)) v (merged_of ss) ≡ answered

-- the notes of the same merge as they are found
abbrev pub found_of : List Value → List Note
found_of ss = notes_of (merged_root 8 (all_of ss))

abbrev pub by_pattern : Value
by_pattern = obj ("patternProperties" ≔ obj ("x" ≔ typed "null" ∷ []) ∷ [])

-- names by pattern, a multiple that may be too great, and names by pattern again
abbrev pub several : Value → Value
several n = obj ("properties" ≔ obj ("a" ≔ by_pattern ∷ "b" ≔ obj ("multipleOf" ≔ n ∷ []) ∷ "c" ≔ by_pattern ∷ []) ∷ [])

-- ---- schemas on two walks; what is told stands at the end of the first walk, and what is answered carries the longer

abbrev pub first_walk : Walk
first_walk = at [] ∷ definition "A" ∷ []

abbrev pub longer_walk : Walk
longer_walk = at [] ∷ definition "B" ∷ definition "C" ∷ []

abbrev pub first_of : Value → Schema
first_of a = on_walk first_walk (read a)

abbrev pub other_of : Value → Schemas
other_of b = schema (on_walk longer_walk (read b)) no_more

abbrev pub merged_with : Value → Value → Told
merged_with a b = merge_all_told (document yes) 8 24 (schema (first_of a) (other_of b))

abbrev pub body_with : Value → Value → Told
body_with a b = with_subschemas_told (document yes) 8 24 (first_of a) (same_value (the_list (other_of b)) no_list no_list no_schema false)

abbrev pub left_of : Value → Value → Told
left_of a b = subtract_told (document yes) 8 24 (first_of a) (on_walk longer_walk (read b))

pub record TellingExamples : Type 0 where
  pub without_notes : Tells (obj ("maximum" ≔ num 4 ∷ []) ∷ obj ("minimum" ≔ num 2 ∷ []) ∷ []) [] (num 3) true true
  pub without_notes_nothing_else : Tells (obj ("maximum" ≔ num 4 ∷ []) ∷ obj ("minimum" ≔ num 2 ∷ []) ∷ []) [] (num 5) false false
  pub a_narrowed_note : Tells (obj ("format" ≔ str "ipv4" ∷ []) ∷ obj ("format" ≔ str "ipv6" ∷ []) ∷ []) (record { way = narrowed; kind = of_formats; path = member 0 } ∷ []) (num 3) true false
  pub a_widened_note : Tells (obj ("multipleOf" ≔ num 18446744073709551615 ∷ []) ∷ obj ("multipleOf" ≔ num 2 ∷ []) ∷ []) (record { way = widened; kind = of_integer; path = member 0 } ∷ []) (num 3) false true
  pub as_they_are_found : found_of (several (num 18446744073709551615) ∷ several (num 2) ∷ []) ≡ both_ways of_names ++ (more_than of_integer ∷ both_ways of_names)
  pub each_once_in_order : (merged_of (several (num 18446744073709551615) ∷ several (num 2) ∷ [])).notes
      ≡ record { way = widened; kind = of_integer; path = member 0 } ∷ record { way = narrowed; kind = of_names; path = member 0 } ∷ record { way = widened; kind = of_names; path = member 0 } ∷ []
  pub what_is_left_is_noted_at_the_first : left_of (typed "string") (obj ("maxLength" ≔ num 1 ∷ []))
      ≡ told (record { schema = Some (on_walk longer_walk (read (typed "string"))); notes = record { way = narrowed; kind = of_subtract; path = definition "A" } ∷ record { way = widened; kind = of_subtract; path = definition "A" } ∷ [] })
  pub a_body_is_noted_at_its_own_place : (what_is_told (body_with (obj ("format" ≔ str "ipv4" ∷ [])) (obj ("format" ≔ str "ipv6" ∷ [])))).notes ≡ record { way = narrowed; kind = of_formats; path = definition "A" } ∷ []
  pub conditionals_are_refused_at_the_first : merged_with (typed "string") (obj ("if" ≔ yes ∷ [])) ≡ refused (cannot conditional (definition "A"))
