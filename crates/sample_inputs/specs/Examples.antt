-- Worked examples: the document and the values of one and of three, and in which order eleven definitions stand.
use Rattle.std.specs.Prelude.{◌≡◌, [], ◌∷◌, map, codes}
use Rattle.json_value.specs.Value.{items}
use Rattle.schema_defs.specs.Build.{◌≔◌, str, num, no, obj, arr, typed, ref}
use Rattle.describe_defs.specs.Description.{in_order}
use Rattle.sample_inputs.specs.Sample.{numbers_from, sample_entry, sample_schema, sample_value, sample_values}

pub record SampleExamples : Type 0 where
  pub of_one : sample_schema 1 ≡ obj (
      "$ref" ≔ str "#/definitions/S0"
      ∷ "definitions" ≔ obj ("S0" ≔ obj (
      "additionalProperties" ≔ no
      ∷ "properties" ≔ obj (
      "id" ≔ typed "integer"
      ∷ "kind" ≔ obj ("enum" ≔ arr (str "a" ∷ str "b" ∷ []) ∷ "type" ≔ str "string" ∷ [])
      ∷ "next" ≔ ref "#/definitions/S0"
      ∷ "tags" ≔ obj ("items" ≔ typed "string" ∷ "type" ≔ str "array" ∷ []) ∷ [])
      ∷ "required" ≔ arr (str "id" ∷ [])
      ∷ "type" ≔ str "object" ∷ []) ∷ []) ∷ [])
  pub second_of_three : (sample_entry 3 1).1 ≡ obj (
      "additionalProperties" ≔ no
      ∷ "properties" ≔ obj (
      "id" ≔ typed "integer"
      ∷ "next" ≔ ref "#/definitions/S2"
      ∷ "owner" ≔ obj ("anyOf" ≔ arr (ref "#/definitions/S0" ∷ typed "null" ∷ []) ∷ [])
      ∷ "tags" ≔ obj ("items" ≔ typed "string" ∷ "type" ≔ str "array" ∷ []) ∷ [])
      ∷ "required" ≔ arr (str "id" ∷ [])
      ∷ "type" ≔ str "object" ∷ [])
  pub third_of_three : (sample_entry 3 2).1 ≡ obj (
      "additionalProperties" ≔ no
      ∷ "properties" ≔ obj (
      "id" ≔ typed "integer"
      ∷ "next" ≔ ref "#/definitions/S0"
      ∷ "pair" ≔ obj (
      "items" ≔ arr (obj ("format" ≔ str "uint8" ∷ "type" ≔ str "integer" ∷ []) ∷ typed "string" ∷ [])
      ∷ "maxItems" ≔ num 2
      ∷ "minItems" ≔ num 2
      ∷ "type" ≔ str "array" ∷ [])
      ∷ "tags" ≔ obj ("items" ≔ typed "string" ∷ "type" ≔ str "array" ∷ []) ∷ [])
      ∷ "required" ≔ arr (str "id" ∷ [])
      ∷ "type" ≔ str "object" ∷ [])
  pub in_order_of_names : map (λ e. e.0) (in_order (map (sample_entry 11) (numbers_from 0 11)))
      ≡ codes "S0" ∷ codes "S1" ∷ codes "S10" ∷ codes "S2" ∷ codes "S3" ∷ codes "S4" ∷ codes "S5" ∷ codes "S6" ∷ codes "S7" ∷ codes "S8" ∷ codes "S9" ∷ []
  pub first_values : sample_values 3 ≡ obj ("id" ≔ num 0 ∷ [])
      ∷ obj ("id" ≔ num 1 ∷ "next" ≔ obj ("id" ≔ num 2 ∷ []) ∷ [])
      ∷ obj ("id" ≔ num 2 ∷ "next" ≔ obj ("id" ≔ num 3 ∷ "next" ≔ obj ("id" ≔ num 4 ∷ []) ∷ []) ∷ []) ∷ []
  pub a_marked_value : sample_value 4 ≡ obj ("id" ≔ num 4 ∷ "next" ≔ obj ("id" ≔ num 5 ∷ "next" ≔ obj ("id" ≔ num 6 ∷ "next" ≔ obj ("id" ≔ num 7 ∷ "next"
      ≔ obj ("id" ≔ num 8 ∷ "x" ≔ num 0 ∷ []) ∷ []) ∷ []) ∷ []) ∷ [])
  pub outermost_alone : sample_value 16 ≡ obj ("id" ≔ num 16 ∷ [])
