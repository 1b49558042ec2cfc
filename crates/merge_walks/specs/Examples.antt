-- Worked examples of merges by walks.
use Rattle.std.specs.Prelude.{◌≡◌, ℕ, List, [], ◌∷◌, ◌++◌, Some, None, codes}
use Prim.Native.String.{String}
use Rattle.json_value.specs.Value.{Value}
use Rattle.schema_defs.specs.Location.{Location, place}
use Rattle.schema_defs.specs.Schema.{object, no_same, no_lists, no_named}
use Rattle.schema_defs.specs.Build.{◌≔◌, str, num, yes, obj, arr, typed, ref}
use Rattle.merge_defs.specs.Outcome.{narrowed, of_clash, conditional}
use Rattle.merge_defs.specs.Objects.{no_plain}
use Rattle.merge_walks.specs.Told.{refused, told, cannot, too_deep}
use Rattle.merge_walks.specs.Samples.{Makes, IsDeep, IsDeepAt, IsMade, IsTakenOver, told_of_root}

-- a place by names
abbrev pub at : List String → Location
at [] = []
at (n ∷ ns) = codes n ∷ at ns

abbrev pub definition : String → Location
definition n = at ("definitions" ∷ n ∷ [])

-- a member of the root's allOf
abbrev pub member : ℕ → Location
member i = codes "allOf" ∷ place i ∷ []

abbrev pub member_at : ℕ → List String → Location
member_at i ns = codes "allOf" ∷ place i ∷ at ns

-- an object whose property leads to a definition
abbrev pub leads : String → String → Value
leads n q = obj ("type" ≔ str "object" ∷ "properties" ≔ obj (n ≔ ref q ∷ []) ∷ [])

-- {"allOf": members, "definitions": {"A": a, "B": b}}
abbrev pub all_with : Value → Value → List Value → Value
all_with a b ms = obj ("allOf" ≔ arr ms ∷ "definitions" ≔ obj ("A" ≔ a ∷ "B" ≔ b ∷ []) ∷ [])

abbrev pub all_of_both : Value
all_of_both = all_with (leads "next" "#/definitions/A") (leads "next" "#/definitions/B") (ref "#/definitions/A" ∷ ref "#/definitions/B" ∷ [])

-- {"type": "object", "properties": {n: s}}
abbrev pub with_property : String → Value → Value
with_property n s = obj ("type" ≔ str "object" ∷ "properties" ≔ obj (n ≔ s ∷ []) ∷ [])

abbrev pub all : List Value → Value
all ms = obj ("allOf" ≔ arr ms ∷ [])

-- a reference under p, from which what stands there under the other's not is taken away
abbrev pub left_of_reference : List Value
left_of_reference = obj ("properties" ≔ obj ("p" ≔ ref "#/definitions/A" ∷ []) ∷ []) ∷ obj ("not" ≔ obj ("properties" ≔ obj ("p" ≔ obj [] ∷ []) ∷ []) ∷ []) ∷ []

pub record DepthExamples : Type 0 where
  pub a_target_is_one_step_more : IsDeep 1 all_of_both (at [] ∷ member 0 ∷ definition "A" ∷ [])
  pub a_cycle_ends : IsDeepAt 8 all_of_both (at ("definitions" ∷ "A" ∷ "properties" ∷ "next" ∷ []))
  pub a_shorter_cycle : IsDeepAt 3 (all_with (leads "n" "#/definitions/A") (leads "n" "#/definitions/B") (ref "#/definitions/A" ∷ ref "#/definitions/B" ∷ [])) (definition "B")
  pub roughly_the_target : Makes 8 (all_with (leads "next" "#/definitions/A") yes (ref "#/definitions/A" ∷ typed "object" ∷ [])) [] (ref "#/definitions/A")
  pub roughly_too_deep : IsDeepAt 1 (all_with (leads "next" "#/definitions/A") yes (ref "#/definitions/A" ∷ typed "object" ∷ [])) (definition "A")
  pub a_member_is_met : IsDeep 0 (all (typed "string" ∷ typed "string" ∷ [])) (at [] ∷ member 0 ∷ [])
  pub targets_go_on : IsDeep 2 (all_with (ref "#/definitions/B") (with_property "p" (typed "string")) (with_property "p" (typed "string") ∷ ref "#/definitions/A" ∷ [])) (at [] ∷ member 1 ∷ definition "A" ∷ definition "B" ∷ [])
  pub what_is_not_merged_is_not_met : Makes 1 (all (with_property "p" (with_property "q" (typed "string")) ∷ with_property "r" (typed "string") ∷ [])) []
      (obj ("type" ≔ str "object" ∷ "properties" ≔ obj ("p" ≔ with_property "q" (typed "string") ∷ "r" ≔ typed "string" ∷ []) ∷ []))
  pub properties_of_both_are_met : IsDeep 1 (all (with_property "p" (typed "string") ∷ with_property "p" (typed "string") ∷ [])) (at [] ∷ member 0 ∷ member_at 0 ("properties" ∷ "p" ∷ []) ∷ [])
  pub what_is_left_of_a_reference_leads_on : IsDeep 3 (all_with (ref "#/definitions/B") (typed "string") (left_of_reference ++ with_property "p" (typed "string") ∷ []))
      (at [] ∷ member 0 ∷ member_at 0 ("properties" ∷ "p" ∷ []) ∷ definition "A" ∷ definition "B" ∷ [])

pub record WalkExamples : Type 0 where
  pub the_first_at_a_tie : IsMade 8 (all (with_property "p" (typed "string") ∷ with_property "q" (typed "string") ∷ [])) [] (at [] ∷ member 0 ∷ [])
  pub kept_from_the_left : IsTakenOver 8 (all (with_property "p" (typed "string") ∷ with_property "q" (typed "string") ∷ [])) (at ("properties" ∷ "p" ∷ [])) (at [] ∷ member 0 ∷ member_at 0 ("properties" ∷ "p" ∷ []) ∷ [])
  pub kept_from_the_right : IsTakenOver 8 (all (with_property "p" (typed "string") ∷ with_property "q" (typed "string") ∷ [])) (at ("properties" ∷ "q" ∷ [])) (at [] ∷ member 1 ∷ member_at 1 ("properties" ∷ "q" ∷ []) ∷ [])
  pub of_both : IsMade 8 (all (with_property "p" (typed "string") ∷ with_property "p" (obj ("minLength" ≔ num 1 ∷ [])) ∷ [])) (at ("properties" ∷ "p" ∷ [])) (at [] ∷ member 0 ∷ member_at 0 ("properties" ∷ "p" ∷ []) ∷ [])
  pub the_longer : IsMade 8 (all_with (with_property "p" (typed "string")) yes (with_property "q" (typed "string") ∷ ref "#/definitions/A" ∷ [])) [] (at [] ∷ member 1 ∷ definition "A" ∷ [])
  pub shorter_inside_the_longer : IsTakenOver 8 (all_with (with_property "p" (typed "string")) yes (with_property "q" (typed "string") ∷ ref "#/definitions/A" ∷ [])) (at ("properties" ∷ "q" ∷ [])) (at [] ∷ member 0 ∷ member_at 0 ("properties" ∷ "q" ∷ []) ∷ [])
  pub a_reference_keeps_its_own : IsMade 8 (all_with (leads "next" "#/definitions/A") yes (ref "#/definitions/A" ∷ typed "object" ∷ [])) [] (at [] ∷ member 0 ∷ [])
  pub allOf_of_two : IsMade 8 (all (with_property "p" (typed "string") ∷ obj ("additionalProperties" ≔ typed "string" ∷ []) ∷ [])) (at ("properties" ∷ "p" ∷ [])) (at [] ∷ member 1 ∷ member_at 1 ("additionalProperties" ∷ []) ∷ [])
  pub a_joined_member : IsMade 8 (all (with_property "p" (typed "string") ∷ obj ("anyOf" ≔ arr (obj ("required" ≔ arr (str "p" ∷ []) ∷ []) ∷ obj ("required" ≔ arr (str "q" ∷ []) ∷ []) ∷ []) ∷ []) ∷ [])) (codes "anyOf" ∷ place 0 ∷ [])
      (at [] ∷ member 1 ∷ (codes "allOf" ∷ place 1 ∷ codes "anyOf" ∷ place 0 ∷ []) ∷ [])
  pub a_negation : IsMade 8 (all (with_property "p" (typed "string") ∷ obj ("anyOf" ≔ arr (obj ("required" ≔ arr (str "p" ∷ []) ∷ []) ∷ obj ("required" ≔ arr (str "q" ∷ []) ∷ []) ∷ []) ∷ []) ∷ [])) (codes "anyOf" ∷ place 0 ∷ codes "allOf" ∷ place 2 ∷ [])
      (at [] ∷ member 1 ∷ (codes "allOf" ∷ place 1 ∷ codes "anyOf" ∷ place 1 ∷ []) ∷ [])
  pub a_subtraction : IsMade 8 (all (typed "string" ∷ obj ("not" ≔ obj ("minLength" ≔ num 1 ∷ []) ∷ []) ∷ [])) [] (at [] ∷ member 1 ∷ member_at 1 ("not" ∷ []) ∷ [])
  pub a_subtraction_from_a_reference : IsMade 8 (all_with yes yes left_of_reference) (at ("properties" ∷ "p" ∷ [])) (at [] ∷ member 0 ∷ member_at 0 ("properties" ∷ "p" ∷ []) ∷ [])

pub record CallExamples : Type 0 where
  pub notes_stand_at_the_first : told_of_root 8 (all (obj ("maximum" ≔ num 1 ∷ []) ∷ obj ("minimum" ≔ num 2 ∷ []) ∷ []))
      ≡ told (record { schema = None; notes = record { way = narrowed; kind = of_clash; path = member 0 } ∷ [] })
  pub unsupported_stands_at_the_first : told_of_root 8 (all (typed "string" ∷ obj ("if" ≔ yes ∷ []) ∷ [])) ≡ refused (cannot conditional (member 0))
  pub one_is_answered_as_it_is : told_of_root 0 (all (obj [] ∷ [])) ≡ told (record { schema = Some (object (record no_plain { walk = Some (at [] ∷ member 0 ∷ []) }) no_same no_lists no_named); notes = [] })
  pub depth_has_its_walk : told_of_root 0 (all (typed "string" ∷ typed "string" ∷ [])) ≡ refused (too_deep (at [] ∷ member 0 ∷ []))
