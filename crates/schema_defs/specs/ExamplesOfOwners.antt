-- Worked examples: keywords of lists and of members.
use Rattle.std.specs.Prelude.{[], ◌∷◌}
use Rattle.json_value.specs.Value.{Value, null}
use Rattle.schema_defs.specs.Build.{◌≔◌, str, num, yes, no, obj, arr, typed, Takes, Refuses}

-- a text, then a number
abbrev pub pair : Value
pair = arr (typed "string" ∷ typed "integer" ∷ [])

pub record ListExamples : Type 0 where
  pub each_item : Takes (obj ("items" ≔ typed "integer" ∷ [])) (arr (num 1 ∷ num 2 ∷ []))
  pub one_item_refused : Refuses (obj ("items" ≔ typed "integer" ∷ [])) (arr (num 1 ∷ null ∷ []))
  pub by_position : Takes (obj ("items" ≔ pair ∷ [])) (arr (str "a" ∷ num 1 ∷ null ∷ []))
  pub wrong_position : Refuses (obj ("items" ≔ pair ∷ [])) (arr (num 1 ∷ str "a" ∷ []))
  pub shorter_than_the_list : Takes (obj ("items" ≔ pair ∷ [])) (arr (str "a" ∷ []))
  pub the_rest : Takes (obj ("additionalItems" ≔ typed "null" ∷ "items" ≔ pair ∷ [])) (arr (str "a" ∷ num 1 ∷ null ∷ null ∷ []))
  pub the_rest_refused : Refuses (obj ("additionalItems" ≔ no ∷ "items" ≔ pair ∷ [])) (arr (str "a" ∷ num 1 ∷ null ∷ []))
  pub no_rest_without_a_list : Takes (obj ("additionalItems" ≔ no ∷ [])) (arr (num 1 ∷ []))
  pub no_rest_beside_one_schema : Takes (obj ("additionalItems" ≔ no ∷ "items" ≔ typed "integer" ∷ [])) (arr (num 1 ∷ []))
  pub few_enough : Takes (obj ("maxItems" ≔ num 1 ∷ [])) (arr (num 1 ∷ []))
  pub too_many : Refuses (obj ("maxItems" ≔ num 1 ∷ [])) (arr (num 1 ∷ num 2 ∷ []))
  pub enough : Takes (obj ("minItems" ≔ num 1 ∷ [])) (arr (num 1 ∷ []))
  pub too_few : Refuses (obj ("minItems" ≔ num 1 ∷ [])) (arr [])
  pub one_and_true_differ : Takes (obj ("uniqueItems" ≔ yes ∷ [])) (arr (num 1 ∷ yes ∷ str "1" ∷ []))
  pub twice : Refuses (obj ("uniqueItems" ≔ yes ∷ [])) (arr (obj ("a" ≔ num 1 ∷ []) ∷ null ∷ obj ("a" ≔ num 1 ∷ []) ∷ []))
  pub twice_allowed : Takes (obj ("uniqueItems" ≔ no ∷ [])) (arr (num 1 ∷ num 1 ∷ []))
  pub one_is_enough : Takes (obj ("contains" ≔ typed "null" ∷ [])) (arr (num 1 ∷ null ∷ []))
  pub none_contained : Refuses (obj ("contains" ≔ typed "null" ∷ [])) (arr (num 1 ∷ []))
  pub nothing_contained : Refuses (obj ("contains" ≔ yes ∷ [])) (arr [])
  pub texts_have_no_items : Takes (obj ("contains" ≔ no ∷ "items" ≔ no ∷ "maxItems" ≔ num 0 ∷ [])) (str "ab")

pub record MemberExamples : Type 0 where
  pub named : Takes (obj ("properties" ≔ obj ("a" ≔ typed "integer" ∷ []) ∷ [])) (obj ("a" ≔ num 1 ∷ "b" ≔ null ∷ []))
  pub named_refused : Refuses (obj ("properties" ≔ obj ("a" ≔ typed "integer" ∷ []) ∷ [])) (obj ("a" ≔ null ∷ []))
  pub properties_may_be_missing : Takes (obj ("properties" ≔ obj ("a" ≔ no ∷ []) ∷ [])) (obj [])
  pub required_stands : Takes (obj ("required" ≔ arr (str "a" ∷ []) ∷ [])) (obj ("a" ≔ null ∷ []))
  pub required_is_missing : Refuses (obj ("required" ≔ arr (str "a" ∷ []) ∷ [])) (obj ("b" ≔ null ∷ []))
  pub required_beside_properties : Refuses (obj ("properties" ≔ obj ("a" ≔ yes ∷ []) ∷ "required" ≔ arr (str "a" ∷ str "b" ∷ []) ∷ [])) (obj ("a" ≔ null ∷ []))
  pub no_others : Refuses (obj ("additionalProperties" ≔ no ∷ "properties" ≔ obj ("a" ≔ yes ∷ []) ∷ [])) (obj ("a" ≔ null ∷ "b" ≔ null ∷ []))
  pub others_bound : Takes (obj ("additionalProperties" ≔ typed "null" ∷ "properties" ≔ obj ("a" ≔ typed "integer" ∷ []) ∷ [])) (obj ("a" ≔ num 1 ∷ "b" ≔ null ∷ []))
  pub others_refused : Refuses (obj ("additionalProperties" ≔ typed "null" ∷ [])) (obj ("b" ≔ num 1 ∷ []))
  pub by_pattern : Refuses (obj ("patternProperties" ≔ obj ("x-" ≔ typed "null" ∷ []) ∷ [])) (obj ("x-a" ≔ num 1 ∷ []))
  pub each_pattern_binds : Refuses (obj ("patternProperties" ≔ obj ("x" ≔ yes ∷ "x-" ≔ typed "null" ∷ []) ∷ [])) (obj ("x-a" ≔ num 1 ∷ []))
  pub patterns_beside_properties : Refuses (obj ("patternProperties" ≔ obj ("a" ≔ typed "null" ∷ []) ∷ "properties" ≔ obj ("ab" ≔ typed "integer" ∷ []) ∷ [])) (obj ("ab" ≔ num 1 ∷ []))
  pub patterns_are_no_others : Takes (obj ("additionalProperties" ≔ no ∷ "patternProperties" ≔ obj ("x-" ≔ typed "null" ∷ []) ∷ [])) (obj ("x-a" ≔ null ∷ []))
  pub other_than_patterns : Refuses (obj ("additionalProperties" ≔ no ∷ "patternProperties" ≔ obj ("x-" ≔ typed "null" ∷ []) ∷ [])) (obj ("y" ≔ null ∷ []))
  pub names_as_texts : Takes (obj ("propertyNames" ≔ obj ("maxLength" ≔ num 1 ∷ "type" ≔ str "string" ∷ []) ∷ [])) (obj ("a" ≔ null ∷ []))
  pub names_refused : Refuses (obj ("propertyNames" ≔ obj ("maxLength" ≔ num 1 ∷ []) ∷ [])) (obj ("a" ≔ null ∷ "bc" ≔ null ∷ []))
  pub too_many : Refuses (obj ("maxProperties" ≔ num 1 ∷ [])) (obj ("a" ≔ null ∷ "b" ≔ null ∷ []))
  pub too_few : Refuses (obj ("minProperties" ≔ num 1 ∷ [])) (obj [])
  pub counts_met : Takes (obj ("maxProperties" ≔ num 1 ∷ "minProperties" ≔ num 1 ∷ [])) (obj ("a" ≔ null ∷ []))
  pub lists_have_no_members : Takes (obj ("additionalProperties" ≔ no ∷ "minProperties" ≔ num 9 ∷ "required" ≔ arr (str "a" ∷ []) ∷ [])) (arr (num 1 ∷ []))
