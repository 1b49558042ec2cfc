-- Worked examples of merges: each row, and each note where it stands and where it does not.
use Rattle.std.specs.Prelude.{ℕ, List, [], ◌∷◌}
use Rattle.json_value.specs.Value.{Value}
use Rattle.schema_defs.specs.Build.{◌≔◌, str, num, minus, yes, no, obj, arr, typed, ref}
use Rattle.merge_defs.specs.Outcome.{less_than, more_than, both_ways, of_integer, of_names, of_reference, of_formats, of_clash, of_members, of_subtract, of_absent, depth, unsupported, conditional, any_one, pattern_names, subtracting}
use Rattle.merge_defs.specs.Samples.{Makes, MakesIn, IsNever, IsFault, Leaves, LeavesNothing, CannotLeave, MakesWith, MakesWithNull, IsNeverWithNull, LeavesWithNull}

abbrev pub all_names : Value
all_names = arr (str "null" ∷ str "boolean" ∷ str "object" ∷ str "array" ∷ str "number" ∷ str "string" ∷ str "integer" ∷ [])

abbrev pub kinds : List Value → Value
kinds ts = obj ("type" ≔ arr ts ∷ [])

pub record LeafExamples : Type 0 where
  pub booleans : IsNever no (typed "string") []
  pub true_gives_the_other : Makes yes (typed "string") [] (typed "string")
  pub a_name_in_a_list : Makes (kinds (str "integer" ∷ str "number" ∷ [])) (typed "integer") [] (typed "integer")
  pub no_name_in_a_list : IsNever (kinds (str "integer" ∷ str "number" ∷ [])) (typed "null") []
  pub lists_in_order : Makes (kinds (str "string" ∷ str "null" ∷ str "array" ∷ [])) (kinds (str "null" ∷ str "string" ∷ [])) [] (kinds (str "null" ∷ str "string" ∷ []))
  pub one_left_is_a_name : Makes (kinds (str "string" ∷ str "null" ∷ [])) (kinds (str "array" ∷ str "string" ∷ [])) [] (typed "string")
  pub ip_and_ipv4 : Makes (obj ("format" ≔ str "ip" ∷ [])) (obj ("format" ≔ str "ipv4" ∷ [])) [] (obj ("format" ≔ str "ipv4" ∷ []))
  pub other_formats_are_never : IsNever (obj ("format" ≔ str "ipv6" ∷ [])) (obj ("format" ≔ str "ipv4" ∷ [])) (less_than of_formats ∷ [])
  pub bounds : Makes (obj ("maximum" ≔ num 5 ∷ "minimum" ≔ num 1 ∷ [])) (obj ("exclusiveMaximum" ≔ num 5 ∷ "minimum" ≔ minus 2 ∷ [])) [] (obj ("exclusiveMaximum" ≔ num 5 ∷ "minimum" ≔ num 1 ∷ []))
  pub multiples : Makes (obj ("multipleOf" ≔ num 4 ∷ [])) (obj ("multipleOf" ≔ num 6 ∷ [])) [] (obj ("multipleOf" ≔ num 12 ∷ []))
  pub wide_multiples_are_dropped : Makes (obj ("multipleOf" ≔ num 18446744073709551615 ∷ "maximum" ≔ num 1 ∷ [])) (obj ("multipleOf" ≔ num 2 ∷ [])) (more_than of_integer ∷ []) (obj ("maximum" ≔ num 1 ∷ []))
  pub crossing_bounds : IsNever (obj ("maximum" ≔ num 1 ∷ [])) (obj ("minimum" ≔ num 2 ∷ [])) (less_than of_clash ∷ [])
  pub crossing_bounds_of_integers : IsNever (obj ("maximum" ≔ num 1 ∷ [])) (obj ("type" ≔ str "integer" ∷ "minimum" ≔ num 2 ∷ [])) []
  pub exclusive_bounds_that_meet : IsNever (obj ("exclusiveMaximum" ≔ num 1 ∷ [])) (obj ("minimum" ≔ num 1 ∷ [])) (less_than of_clash ∷ [])
  pub lengths_and_patterns : Makes (obj ("maxLength" ≔ num 5 ∷ "pattern" ≔ str "a" ∷ [])) (obj ("maxLength" ≔ num 3 ∷ "minLength" ≔ num 3 ∷ "pattern" ≔ str "a" ∷ [])) [] (obj ("maxLength" ≔ num 3 ∷ "minLength" ≔ num 3 ∷ "pattern" ≔ str "a" ∷ []))
  pub crossing_lengths : IsNever (obj ("maxLength" ≔ num 1 ∷ [])) (obj ("minLength" ≔ num 2 ∷ [])) (less_than of_clash ∷ [])
  pub crossing_lengths_of_strings : IsNever (obj ("maxLength" ≔ num 1 ∷ "type" ≔ str "string" ∷ [])) (obj ("minLength" ≔ num 2 ∷ [])) []
  pub values_of_both : Makes (obj ("enum" ≔ arr (num 1 ∷ str "a" ∷ yes ∷ []) ∷ [])) (obj ("enum" ≔ arr (yes ∷ num 1 ∷ []) ∷ [])) [] (obj ("enum" ≔ arr (num 1 ∷ yes ∷ []) ∷ []))
  pub constants_are_lists : Makes (obj ("const" ≔ num 1 ∷ [])) (obj ("enum" ≔ arr (yes ∷ num 1 ∷ []) ∷ [])) [] (obj ("enum" ≔ arr (num 1 ∷ []) ∷ []))
  pub a_constant_beside_a_list : Makes (obj ("enum" ≔ arr (str "a" ∷ str "b" ∷ []) ∷ "const" ≔ str "a" ∷ [])) (typed "string") [] (obj ("type" ≔ str "string" ∷ "enum" ≔ arr (str "a" ∷ []) ∷ []))
  pub no_value_of_both : IsNever (obj ("const" ≔ num 1 ∷ [])) (obj ("enum" ≔ arr (yes ∷ []) ∷ [])) []
  pub values_by_type : Makes (obj ("enum" ≔ arr (num 1 ∷ str "a" ∷ []) ∷ [])) (typed "string") [] (obj ("type" ≔ str "string" ∷ "enum" ≔ arr (str "a" ∷ []) ∷ []))

pub record ListExamples : Type 0 where
  pub cut_to_three : Makes (obj ("items" ≔ arr (typed "integer" ∷ typed "integer" ∷ typed "integer" ∷ typed "integer" ∷ []) ∷ "maxItems" ≔ num 4 ∷ []))
      (obj ("items" ≔ arr (typed "integer" ∷ typed "integer" ∷ []) ∷ "additionalItems" ≔ typed "integer" ∷ "maxItems" ≔ num 3 ∷ [])) []
      (obj ("items" ≔ arr (typed "integer" ∷ typed "integer" ∷ typed "integer" ∷ []) ∷ "maxItems" ≔ num 3 ∷ []))
  pub cut_where_two_clash : Makes (obj ("items" ≔ arr (typed "integer" ∷ typed "integer" ∷ typed "integer" ∷ []) ∷ "maxItems" ≔ num 4 ∷ []))
      (obj ("items" ≔ arr (typed "integer" ∷ typed "integer" ∷ typed "string" ∷ []) ∷ "additionalItems" ≔ yes ∷ [])) []
      (obj ("items" ≔ arr (typed "integer" ∷ typed "integer" ∷ []) ∷ "maxItems" ≔ num 2 ∷ []))
  pub the_first_clash : IsNever (obj ("items" ≔ arr (typed "integer" ∷ []) ∷ [])) (obj ("items" ≔ arr (typed "string" ∷ []) ∷ [])) (less_than of_clash ∷ [])
  pub cut_after_what_must_stand : Makes (obj ("type" ≔ str "array" ∷ "minItems" ≔ num 1 ∷ "items" ≔ arr (typed "integer" ∷ typed "string" ∷ []) ∷ [])) (obj ("items" ≔ arr (typed "integer" ∷ typed "integer" ∷ []) ∷ [])) []
      (obj ("type" ≔ str "array" ∷ "minItems" ≔ num 1 ∷ "maxItems" ≔ num 1 ∷ "items" ≔ arr (typed "integer" ∷ []) ∷ []))
  pub a_clash_of_arrays : IsNever (obj ("type" ≔ str "array" ∷ "minItems" ≔ num 1 ∷ "items" ≔ arr (typed "integer" ∷ []) ∷ [])) (obj ("items" ≔ arr (typed "string" ∷ []) ∷ [])) []
  pub the_empty_list_stays : Makes (obj ("minItems" ≔ num 0 ∷ "items" ≔ arr (typed "integer" ∷ []) ∷ [])) (obj ("items" ≔ arr (typed "string" ∷ []) ∷ [])) [] (obj ("minItems" ≔ num 0 ∷ "maxItems" ≔ num 0 ∷ "items" ≔ arr [] ∷ []))
  pub each_with_each : IsNever (obj ("items" ≔ typed "integer" ∷ [])) (obj ("items" ≔ typed "string" ∷ [])) (less_than of_clash ∷ [])
  pub each_with_each_of_arrays : IsNever (obj ("items" ≔ typed "integer" ∷ [])) (obj ("type" ≔ str "array" ∷ "minItems" ≔ num 2 ∷ "items" ≔ typed "string" ∷ [])) []
  pub each_with_places : Makes (obj ("items" ≔ arr (yes ∷ []) ∷ [])) (obj ("items" ≔ typed "string" ∷ [])) [] (obj ("items" ≔ arr (typed "string" ∷ []) ∷ "additionalItems" ≔ typed "string" ∷ []))
  pub the_list_comes_first : Makes (obj ("items" ≔ obj ("enum" ≔ arr (str "a" ∷ str "b" ∷ []) ∷ []) ∷ [])) (obj ("items" ≔ arr (obj ("enum" ≔ arr (str "b" ∷ str "a" ∷ []) ∷ []) ∷ []) ∷ [])) []
      (obj ("items" ≔ arr (obj ("enum" ≔ arr (str "b" ∷ str "a" ∷ []) ∷ []) ∷ []) ∷ "additionalItems" ≔ obj ("enum" ≔ arr (str "a" ∷ str "b" ∷ []) ∷ []) ∷ []))
  pub a_rest_that_clashes : IsNever (obj ("items" ≔ arr (yes ∷ []) ∷ "additionalItems" ≔ typed "null" ∷ [])) (obj ("items" ≔ typed "string" ∷ [])) (less_than of_clash ∷ [])
  pub rests_that_clash : Makes (obj ("items" ≔ arr (yes ∷ []) ∷ "additionalItems" ≔ typed "null" ∷ [])) (obj ("items" ≔ arr [] ∷ "additionalItems" ≔ typed "string" ∷ [])) [] (obj ("items" ≔ arr (typed "string" ∷ []) ∷ "additionalItems" ≔ no ∷ []))
  pub the_last_keyword_of_lists : Makes (obj ("additionalItems" ≔ typed "null" ∷ [])) (obj ("additionalItems" ≔ typed "string" ∷ [])) [] (obj [])
  pub sizes_that_cross : IsNever (obj ("minItems" ≔ num 2 ∷ [])) (obj ("maxItems" ≔ num 1 ∷ [])) (less_than of_clash ∷ [])
  pub contains_that_differ : IsNever (obj ("contains" ≔ typed "null" ∷ [])) (obj ("contains" ≔ typed "string" ∷ [])) (less_than of_clash ∷ [])

-- {"type": "object"} with more
abbrev pub object_with : List (List ℕ × Value) → Value
object_with ms = obj ("type" ≔ str "object" ∷ ms)

pub record MemberExamples : Type 0 where
  pub of_the_crate : Makes
      (object_with ("properties" ≔ obj ("result" ≔ typed "string" ∷ []) ∷ []))
      (obj ("required" ≔ arr (str "result" ∷ str "msg" ∷ []) ∷ "properties" ≔ obj ("msg" ≔ typed "string" ∷ "result" ≔ obj ("enum" ≔ arr (str "success" ∷ []) ∷ []) ∷ []) ∷ [])) []
      (object_with ("required" ≔ arr (str "msg" ∷ str "result" ∷ []) ∷ "properties" ≔ obj ("msg" ≔ typed "string" ∷ "result" ≔ obj ("type" ≔ str "string" ∷ "enum" ≔ arr (str "success" ∷ []) ∷ []) ∷ []) ∷ []))
  pub closed_by_the_other : Makes (object_with ("properties" ≔ obj ("a" ≔ yes ∷ "b" ≔ yes ∷ []) ∷ [])) (obj ("additionalProperties" ≔ no ∷ "properties" ≔ obj ("a" ≔ typed "null" ∷ []) ∷ [])) []
      (object_with ("additionalProperties" ≔ no ∷ "properties" ≔ obj ("a" ≔ typed "null" ∷ []) ∷ []))
  pub beside_the_rest : Makes (obj ("additionalProperties" ≔ typed "string" ∷ [])) (obj ("properties" ≔ obj ("a" ≔ obj ("maxLength" ≔ num 1 ∷ []) ∷ []) ∷ [])) []
      (obj ("additionalProperties" ≔ typed "string" ∷ "properties" ≔ obj ("a" ≔ obj ("allOf" ≔ arr (typed "string" ∷ obj ("maxLength" ≔ num 1 ∷ []) ∷ []) ∷ []) ∷ []) ∷ []))
  pub a_clash_that_may_be_missing : Makes (obj ("properties" ≔ obj ("a" ≔ typed "null" ∷ []) ∷ [])) (obj ("properties" ≔ obj ("a" ≔ typed "string" ∷ []) ∷ [])) [] (obj ("properties" ≔ obj ("a" ≔ no ∷ []) ∷ []))
  pub a_clash_that_is_required : IsNever (obj ("required" ≔ arr (str "a" ∷ []) ∷ "properties" ≔ obj ("a" ≔ typed "null" ∷ []) ∷ [])) (obj ("properties" ≔ obj ("a" ≔ typed "string" ∷ []) ∷ [])) (less_than of_clash ∷ [])
  pub a_clash_of_objects : IsNever (object_with ("required" ≔ arr (str "a" ∷ []) ∷ "properties" ≔ obj ("a" ≔ typed "null" ∷ []) ∷ [])) (obj ("properties" ≔ obj ("a" ≔ typed "string" ∷ []) ∷ [])) []
  pub a_required_name_is_shut_out : IsNever (obj ("required" ≔ arr (str "a" ∷ []) ∷ "properties" ≔ obj ("a" ≔ typed "integer" ∷ []) ∷ [])) (obj ("additionalProperties" ≔ no ∷ [])) (less_than of_clash ∷ [])
  pub a_required_name_of_objects : IsNever (object_with ("required" ≔ arr (str "a" ∷ []) ∷ "properties" ≔ obj ("a" ≔ typed "integer" ∷ []) ∷ [])) (obj ("additionalProperties" ≔ no ∷ [])) []
  pub counts_that_cross : IsNever (obj ("minProperties" ≔ num 2 ∷ [])) (obj ("maxProperties" ≔ num 1 ∷ [])) (less_than of_clash ∷ [])
  pub properties_before_counts : IsNever (obj ("minProperties" ≔ num 2 ∷ "properties" ≔ obj ("a" ≔ obj ("format" ≔ str "ipv4" ∷ []) ∷ []) ∷ [])) (obj ("maxProperties" ≔ num 1 ∷ "properties" ≔ obj ("a" ≔ obj ("format" ≔ str "ipv6" ∷ []) ∷ []) ∷ [])) (less_than of_formats ∷ less_than of_clash ∷ [])
  pub all_properties_are_merged : IsNever (obj ("required" ≔ arr (str "a" ∷ []) ∷ "properties" ≔ obj ("a" ≔ no ∷ "b" ≔ obj ("format" ≔ str "ipv4" ∷ []) ∷ []) ∷ [])) (obj ("properties" ≔ obj ("b" ≔ obj ("format" ≔ str "ipv6" ∷ []) ∷ []) ∷ [])) (less_than of_formats ∷ less_than of_clash ∷ [])
  pub rests_that_clash : Makes (obj ("additionalProperties" ≔ typed "null" ∷ [])) (obj ("additionalProperties" ≔ typed "string" ∷ [])) [] (obj ("additionalProperties" ≔ no ∷ []))
  pub patterns_are_dropped : Makes (obj ("patternProperties" ≔ obj ("x" ≔ typed "null" ∷ []) ∷ [])) (obj ("additionalProperties" ≔ typed "string" ∷ [])) (both_ways of_names) (obj ("additionalProperties" ≔ typed "string" ∷ []))
  pub the_last_keyword_of_members : Makes (obj ("patternProperties" ≔ obj ("x" ≔ typed "null" ∷ []) ∷ [])) (obj ("patternProperties" ≔ obj ("x" ≔ typed "null" ∷ []) ∷ [])) (both_ways of_names) (obj [])
  pub patterns_stay_alone : Makes (obj ("patternProperties" ≔ obj ("x" ≔ typed "null" ∷ []) ∷ [])) (typed "object") [] (object_with ("patternProperties" ≔ obj ("x" ≔ typed "null" ∷ []) ∷ []))
  pub patterns_and_properties : IsFault 9 (obj ("patternProperties" ≔ obj ("x" ≔ typed "null" ∷ []) ∷ [])) (obj ("properties" ≔ obj ("a" ≔ yes ∷ []) ∷ [])) (unsupported pattern_names)
  pub names_before_types : IsFault 9 (obj ("type" ≔ str "string" ∷ "propertyNames" ≔ yes ∷ [])) (obj ("type" ≔ str "integer" ∷ "properties" ≔ obj ("a" ≔ yes ∷ []) ∷ [])) (unsupported pattern_names)
  pub names_that_are_named : Makes (obj ("propertyNames" ≔ yes ∷ "properties" ≔ obj ("a" ≔ yes ∷ []) ∷ [])) (obj ("properties" ≔ obj ("a" ≔ typed "null" ∷ []) ∷ [])) (both_ways of_names) (obj ("properties" ≔ obj ("a" ≔ typed "null" ∷ []) ∷ []))

abbrev pub x : List (List ℕ × Value)
x = "x" ≔ typed "string" ∷ []

abbrev pub to_x : Value
to_x = ref "#/definitions/x"

pub record SubschemaExamples : Type 0 where
  pub a_reference_stays : MakesIn x to_x (obj ("oneOf" ≔ arr (to_x ∷ typed "null" ∷ []) ∷ [])) [] to_x
  pub equal_references : MakesIn x to_x to_x [] to_x
  pub siblings_are_dropped : MakesIn x to_x (obj ("$ref" ≔ str "#/definitions/x" ∷ "maxLength" ≔ num 1 ∷ [])) (more_than of_reference ∷ []) to_x
  pub a_reference_and_more : MakesIn x to_x (obj ("maxLength" ≔ num 1 ∷ [])) [] (obj ("type" ≔ str "string" ∷ "maxLength" ≔ num 1 ∷ []))
  pub a_reference_to_a_list : MakesIn ("x" ≔ typed "array" ∷ []) to_x (obj ("type" ≔ str "array" ∷ [])) [] to_x
  pub a_target_comes_first : MakesIn ("x" ≔ obj ("enum" ≔ arr (str "b" ∷ str "a" ∷ str "c" ∷ []) ∷ []) ∷ []) (obj ("enum" ≔ arr (str "a" ∷ str "b" ∷ []) ∷ [])) to_x [] (obj ("enum" ≔ arr (str "b" ∷ str "a" ∷ []) ∷ []))
  pub sizes_are_lost : MakesIn ("x" ≔ obj ("items" ≔ typed "null" ∷ []) ∷ []) to_x (obj ("maxItems" ≔ num 2 ∷ [])) (more_than of_reference ∷ []) to_x
  pub any_in_turn : Makes (typed "string") (obj ("anyOf" ≔ arr (typed "null" ∷ obj ("maxLength" ≔ num 1 ∷ []) ∷ []) ∷ [])) []
      (obj ("allOf" ≔ arr (typed "string" ∷ obj ("maxLength" ≔ num 1 ∷ []) ∷ obj ("not" ≔ typed "null" ∷ []) ∷ []) ∷ []))
  pub two_are_joined : Makes (typed "string") (obj ("anyOf" ≔ arr (obj ("minLength" ≔ num 3 ∷ []) ∷ obj ("maxLength" ≔ num 1 ∷ []) ∷ []) ∷ [])) (less_than of_members ∷ [])
      (obj ("anyOf" ≔ arr (obj ("allOf" ≔ arr (typed "string" ∷ obj ("minLength" ≔ num 3 ∷ []) ∷ obj ("not" ≔ obj ("maxLength" ≔ num 1 ∷ []) ∷ []) ∷ []) ∷ [])
      ∷ obj ("allOf" ≔ arr (typed "string" ∷ obj ("maxLength" ≔ num 1 ∷ []) ∷ obj ("not" ≔ obj ("minLength" ≔ num 3 ∷ []) ∷ []) ∷ []) ∷ []) ∷ []) ∷ []))
  pub each_as_the_body : Makes (obj ("type" ≔ str "string" ∷ "minLength" ≔ num 1 ∷ [])) (obj ("anyOf" ≔ arr (typed "string" ∷ obj ("minLength" ≔ num 1 ∷ []) ∷ []) ∷ [])) []
      (obj ("anyOf" ≔ arr (obj ("type" ≔ str "string" ∷ "minLength" ≔ num 1 ∷ []) ∷ obj ("type" ≔ str "string" ∷ "minLength" ≔ num 1 ∷ []) ∷ []) ∷ []))
  pub members_are_kept : Makes (kinds (str "null" ∷ str "string" ∷ [])) (obj ("oneOf" ≔ arr (typed "null" ∷ typed "string" ∷ []) ∷ [])) [] (obj ("oneOf" ≔ arr (typed "null" ∷ typed "string" ∷ []) ∷ []))
  pub the_body_twice : Makes (typed "string") (obj ("oneOf" ≔ arr (yes ∷ yes ∷ []) ∷ [])) (more_than of_members ∷ []) (obj ("oneOf" ≔ arr (typed "string" ∷ typed "string" ∷ []) ∷ []))
  pub sizes_narrow_one : Makes (obj ("items" ≔ typed "null" ∷ [])) (obj ("oneOf" ≔ arr (obj ("maxItems" ≔ num 2 ∷ []) ∷ typed "string" ∷ []) ∷ [])) (more_than of_reference ∷ less_than of_members ∷ more_than of_members ∷ [])
      (obj ("oneOf" ≔ arr (obj ("items" ≔ typed "null" ∷ []) ∷ obj ("allOf" ≔ arr (obj ("items" ≔ typed "null" ∷ []) ∷ typed "string" ∷ obj ("not" ≔ obj ("maxItems" ≔ num 2 ∷ []) ∷ []) ∷ []) ∷ []) ∷ []) ∷ []))
  pub one_is_forgotten : Makes (obj ("maximum" ≔ num 1 ∷ [])) (obj ("oneOf" ≔ arr (obj ("minimum" ≔ num 2 ∷ []) ∷ obj [] ∷ []) ∷ [])) (less_than of_clash ∷ more_than of_members ∷ []) (obj ("maximum" ≔ num 1 ∷ []))
  pub none_is_forgotten_under_any : Makes (obj ("maximum" ≔ num 1 ∷ [])) (obj ("anyOf" ≔ arr (obj ("minimum" ≔ num 2 ∷ []) ∷ obj [] ∷ []) ∷ [])) (less_than of_clash ∷ []) (obj ("maximum" ≔ num 1 ∷ []))
  pub exclusive_are_joined : Makes (obj ("minLength" ≔ num 1 ∷ [])) (obj ("anyOf" ≔ arr (typed "string" ∷ typed "null" ∷ []) ∷ [])) []
      (obj ("anyOf" ≔ arr (obj ("allOf" ≔ arr (obj ("minLength" ≔ num 1 ∷ []) ∷ typed "string" ∷ obj ("not" ≔ typed "null" ∷ []) ∷ []) ∷ [])
      ∷ obj ("allOf" ≔ arr (obj ("minLength" ≔ num 1 ∷ []) ∷ typed "null" ∷ obj ("not" ≔ typed "string" ∷ []) ∷ []) ∷ []) ∷ []) ∷ []))
  pub none_is_left : IsNever (typed "string") (obj ("anyOf" ≔ arr (typed "null" ∷ typed "array" ∷ []) ∷ [])) []
  pub all_in_turn : Makes (typed "string") (obj ("allOf" ≔ arr (obj ("maxLength" ≔ num 3 ∷ []) ∷ obj ("maxLength" ≔ num 2 ∷ []) ∷ []) ∷ [])) [] (obj ("type" ≔ str "string" ∷ "maxLength" ≔ num 2 ∷ []))
  pub a_body_with_not_false : MakesWith (typed "string") (obj ("not" ≔ no ∷ [])) [] (typed "string")
  pub a_body_with_any : MakesWith (typed "string") (obj ("anyOf" ≔ arr (typed "null" ∷ typed "string" ∷ []) ∷ [])) [] (typed "string")
  pub not_false : Makes (typed "string") (obj ("not" ≔ no ∷ [])) [] (typed "string")
  pub true_reads_nothing : Makes yes (obj ("if" ≔ yes ∷ [])) [] (obj ("if" ≔ yes ∷ []))
  pub conditionals_are_refused : IsFault 9 (obj []) (obj ("if" ≔ yes ∷ [])) (unsupported conditional)
  pub any_beside_one : IsFault 9 (obj []) (obj ("anyOf" ≔ arr (yes ∷ []) ∷ "oneOf" ≔ arr (yes ∷ []) ∷ [])) (unsupported any_one)
  pub any_one_before_types : IsFault 9 (typed "string") (obj ("type" ≔ str "integer" ∷ "anyOf" ≔ arr (yes ∷ []) ∷ "oneOf" ≔ arr (yes ∷ []) ∷ [])) (unsupported any_one)
  pub conditionals_before_types : IsFault 9 (typed "string") (obj ("type" ≔ str "integer" ∷ "if" ≔ yes ∷ [])) (unsupported conditional)
  pub false_before_unsupported : IsNever no (obj ("anyOf" ≔ arr (yes ∷ []) ∷ "oneOf" ≔ arr (yes ∷ []) ∷ [])) []
  pub steps_are_spent : IsFault 0 (obj []) (obj ("allOf" ≔ arr (yes ∷ []) ∷ [])) (depth [])
  pub steps_are_enough : Makes (obj []) (obj ("allOf" ≔ arr (yes ∷ []) ∷ [])) [] (obj [])

pub record LessExamples : Type 0 where
  pub values : Leaves (obj ("enum" ≔ arr (str "a" ∷ str "b" ∷ []) ∷ [])) (obj ("enum" ≔ arr (str "a" ∷ []) ∷ [])) [] (obj ("enum" ≔ arr (str "b" ∷ []) ∷ []))
  pub all_values : LeavesNothing (obj ("enum" ≔ arr (str "a" ∷ []) ∷ [])) (obj ("enum" ≔ arr (str "a" ∷ []) ∷ [])) []
  pub values_beside_a_type : Leaves (obj ("enum" ≔ arr (str "a" ∷ str "b" ∷ []) ∷ [])) (obj ("type" ≔ str "null" ∷ "enum" ≔ arr (str "a" ∷ []) ∷ [])) (both_ways of_subtract) (obj ("enum" ≔ arr (str "b" ∷ []) ∷ []))
  pub a_required_name : Leaves (object_with ("properties" ≔ obj ("a" ≔ yes ∷ "b" ≔ yes ∷ []) ∷ [])) (obj ("required" ≔ arr (str "a" ∷ []) ∷ [])) [] (object_with ("properties" ≔ obj ("a" ≔ no ∷ "b" ≔ yes ∷ []) ∷ []))
  pub a_name_that_is_required : LeavesNothing (object_with ("required" ≔ arr (str "a" ∷ []) ∷ [])) (object_with ("required" ≔ arr (str "a" ∷ []) ∷ [])) []
  pub two_required_names : Leaves (object_with ("properties" ≔ obj ("a" ≔ yes ∷ []) ∷ [])) (obj ("required" ≔ arr (str "a" ∷ str "b" ∷ []) ∷ [])) (both_ways of_subtract) (object_with ("properties" ≔ obj ("a" ≔ no ∷ "b" ≔ no ∷ []) ∷ []))
  pub properties : Leaves (object_with ("properties" ≔ obj ("a" ≔ obj ("enum" ≔ arr (num 1 ∷ num 2 ∷ []) ∷ []) ∷ []) ∷ [])) (obj ("properties" ≔ obj ("a" ≔ obj ("enum" ≔ arr (num 1 ∷ []) ∷ []) ∷ []) ∷ [])) (both_ways of_subtract) (object_with ("properties" ≔ obj ("a" ≔ obj ("enum" ≔ arr (num 2 ∷ []) ∷ []) ∷ []) ∷ []))
  pub other_kinds : Leaves (typed "string") (typed "null") [] (typed "string")
  pub the_same_kind : Leaves (typed "string") (obj ("maxLength" ≔ num 1 ∷ [])) (both_ways of_subtract) (typed "string")
  pub two_members : Leaves (typed "string") (obj ("anyOf" ≔ arr (typed "null" ∷ typed "array" ∷ []) ∷ [])) [] (typed "string")
  pub not_not : Leaves (typed "string") (obj ("not" ≔ obj ("maxLength" ≔ num 1 ∷ []) ∷ [])) [] (obj ("type" ≔ str "string" ∷ "maxLength" ≔ num 1 ∷ []))
  pub one_of_is_kept : Leaves (typed "string") (obj ("oneOf" ≔ arr (typed "null" ∷ []) ∷ [])) (both_ways of_subtract) (typed "string")
  pub the_merge_of_all : LeavesNothing (typed "string") (obj ("allOf" ≔ arr (yes ∷ yes ∷ []) ∷ [])) []
  pub notes_are_turned : Leaves (typed "string") (obj ("allOf" ≔ arr (obj ("maxLength" ≔ num 1 ∷ []) ∷ obj ("minLength" ≔ num 2 ∷ []) ∷ []) ∷ [])) (more_than of_clash ∷ []) (typed "string")
  pub conditionals_are_no_less : CannotLeave (typed "string") (obj ("if" ≔ yes ∷ [])) (unsupported conditional)
  pub nothing_from_true : CannotLeave yes (typed "string") (unsupported subtracting)
  pub nothing_by_two : CannotLeave (typed "string") (obj ("not" ≔ yes ∷ "anyOf" ≔ arr (yes ∷ []) ∷ [])) (unsupported subtracting)

-- where null may stand for an absent member
pub record NullExamples : Type 0 where
  pub required_by_one : MakesWithNull (obj ("required" ≔ arr (str "p" ∷ []) ∷ "properties" ≔ obj ("p" ≔ yes ∷ []) ∷ [])) (obj ("properties" ≔ obj ("p" ≔ yes ∷ []) ∷ [])) (less_than of_absent ∷ [])
      (obj ("required" ≔ arr (str "p" ∷ []) ∷ "properties" ≔ obj ("p" ≔ yes ∷ []) ∷ []))
  pub required_by_both : MakesWithNull (obj ("required" ≔ arr (str "p" ∷ []) ∷ "properties" ≔ obj ("p" ≔ yes ∷ []) ∷ [])) (obj ("required" ≔ arr (str "p" ∷ []) ∷ "properties" ≔ obj ("p" ≔ yes ∷ []) ∷ [])) []
      (obj ("required" ≔ arr (str "p" ∷ []) ∷ "properties" ≔ obj ("p" ≔ yes ∷ []) ∷ []))
  pub required_beside_no_property : MakesWithNull (obj ("required" ≔ arr (str "p" ∷ []) ∷ "properties" ≔ obj ("p" ≔ yes ∷ []) ∷ [])) (obj ("properties" ≔ obj ("q" ≔ yes ∷ []) ∷ [])) []
      (obj ("required" ≔ arr (str "p" ∷ []) ∷ "properties" ≔ obj ("p" ≔ yes ∷ "q" ≔ yes ∷ []) ∷ []))
  pub noted_also_where_never : IsNeverWithNull (obj ("required" ≔ arr (str "p" ∷ []) ∷ "properties" ≔ obj ("p" ≔ typed "null" ∷ []) ∷ [])) (obj ("properties" ≔ obj ("p" ≔ typed "string" ∷ []) ∷ [])) (less_than of_absent ∷ less_than of_clash ∷ [])
  pub left_out : MakesWithNull (obj ("additionalProperties" ≔ no ∷ "properties" ≔ obj ("p" ≔ typed "null" ∷ []) ∷ [])) (obj ("additionalProperties" ≔ no ∷ "properties" ≔ obj ("p" ≔ typed "string" ∷ []) ∷ [])) (less_than of_absent ∷ [])
      (obj ("additionalProperties" ≔ no ∷ "properties" ≔ obj [] ∷ []))
  pub shut_out : MakesWithNull (obj ("properties" ≔ obj ("p" ≔ yes ∷ []) ∷ [])) (obj ("additionalProperties" ≔ no ∷ [])) [] (obj ("additionalProperties" ≔ no ∷ []))
  pub beside_a_rest : MakesWithNull (obj ("properties" ≔ obj ("p" ≔ yes ∷ []) ∷ [])) (obj ("additionalProperties" ≔ typed "null" ∷ [])) (more_than of_absent ∷ [])
      (obj ("additionalProperties" ≔ typed "null" ∷ "properties" ≔ obj ("p" ≔ obj ("allOf" ≔ arr (typed "null" ∷ yes ∷ []) ∷ []) ∷ []) ∷ []))
  pub beside_true : MakesWithNull (obj ("properties" ≔ obj ("p" ≔ yes ∷ []) ∷ [])) (obj ("additionalProperties" ≔ yes ∷ [])) [] (obj ("additionalProperties" ≔ yes ∷ "properties" ≔ obj ("p" ≔ yes ∷ []) ∷ []))
  pub required_beside_a_rest : MakesWithNull (obj ("required" ≔ arr (str "p" ∷ []) ∷ "properties" ≔ obj ("p" ≔ yes ∷ []) ∷ [])) (obj ("additionalProperties" ≔ typed "null" ∷ [])) []
      (obj ("required" ≔ arr (str "p" ∷ []) ∷ "additionalProperties" ≔ typed "null" ∷ "properties" ≔ obj ("p" ≔ obj ("allOf" ≔ arr (typed "null" ∷ yes ∷ []) ∷ []) ∷ []) ∷ []))
  pub strictly_none : Makes (obj ("required" ≔ arr (str "p" ∷ []) ∷ "properties" ≔ obj ("p" ≔ yes ∷ []) ∷ [])) (obj ("properties" ≔ obj ("p" ≔ yes ∷ []) ∷ [])) []
      (obj ("required" ≔ arr (str "p" ∷ []) ∷ "properties" ≔ obj ("p" ≔ yes ∷ []) ∷ []))
  pub a_required_name_is_lost : LeavesWithNull (object_with ("properties" ≔ obj ("a" ≔ yes ∷ []) ∷ [])) (obj ("required" ≔ arr (str "a" ∷ []) ∷ [])) (both_ways of_subtract) (object_with ("properties" ≔ obj ("a" ≔ no ∷ []) ∷ []))
