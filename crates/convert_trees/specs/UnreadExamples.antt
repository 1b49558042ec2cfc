-- Worked documents, and the values that their schemas state and that aren't read, in the order in which they are told.
use Rattle.std.specs.Prelude.{◌≡◌, ℕ, List, [], ◌∷◌, map, Option, Some, option_map, codes}
use Rattle.json_value.specs.Value.{Value, null}
use Rattle.schema_defs.specs.declared.Setting.TheVariants.{Strict}
use Rattle.schema_defs.specs.Location.{location_text}
use Rattle.schema_defs.specs.Read.{document_of}
use Rattle.schema_defs.specs.Build.{◌≔◌, str, num, minus, obj, arr, typed, sample}
use Rattle.convert_trees.specs.Unread.{unread_in_document}

abbrev pub unread : Value → Option (List (List ℕ × Value))
unread s = option_map (λ d. map (λ p. (location_text p.0, p.1)) (unread_in_document sample d 8 24)) (document_of Strict s)

-- whole numbers of these values, with a default
abbrev pub one_of_with : List Value → Value → Value
one_of_with vs v = obj ("allOf" ≔ arr (typed "string" ∷ []) ∷ "default" ≔ v ∷ "enum" ≔ arr vs ∷ "type" ≔ str "integer" ∷ [])

-- of integers that are merged, with a default
abbrev pub merged_with : Value → Value
merged_with v = obj ("allOf" ≔ arr (typed "integer" ∷ obj ("maximum" ≔ num 5 ∷ []) ∷ []) ∷ "default" ≔ v ∷ [])

abbrev pub merged_property : Value → Value
merged_property s = obj ("allOf" ≔ arr (obj ("type" ≔ str "object" ∷ "properties" ≔ obj ("p" ≔ s ∷ []) ∷ []) ∷ typed "object" ∷ []) ∷ [])

-- a definition whose property `a` refers to it, and states that default
abbrev pub round_with : Value → Value
round_with v = obj ("definitions" ≔ obj ("A" ≔ obj ("properties" ≔ obj ("a" ≔ obj ("$ref" ≔ str "#/definitions/A" ∷ "default" ≔ v ∷ []) ∷ []) ∷ "type" ≔ str "object" ∷ []) ∷ []) ∷ [])

pub record UnreadExamples : Type 0 where
  pub below_the_format : unread (obj ("default" ≔ minus 1 ∷ "format" ≔ str "uint" ∷ "type" ≔ str "integer" ∷ [])) ≡ Some ((codes "#", minus 1) ∷ [])
  pub above_the_greatest : unread (obj ("default" ≔ num 8675309 ∷ "maximum" ≔ num 256 ∷ "type" ≔ str "integer" ∷ [])) ≡ Some ((codes "#", num 8675309) ∷ [])
  pub within : unread (obj ("default" ≔ num 7 ∷ "type" ≔ str "integer" ∷ [])) ≡ Some []
  pub null_of_an_option : unread (obj ("default" ≔ null ∷ "type" ≔ arr (str "string" ∷ str "null" ∷ []) ∷ [])) ≡ Some []
  pub listed_then_default : unread (one_of_with (num 1 ∷ num 2 ∷ []) (str "a")) ≡ Some ((codes "#", num 1) ∷ (codes "#", num 2) ∷ (codes "#", str "a") ∷ [])
  pub denied : unread (obj ("not" ≔ obj ("enum" ≔ arr (str "a" ∷ num 1 ∷ []) ∷ "type" ≔ str "integer" ∷ []) ∷ [])) ≡ Some ((codes "#", str "a") ∷ [])
  pub round : unread (round_with (obj [])) ≡ Some ((codes "#/definitions/A/properties/a", obj []) ∷ [])
  pub round_where_given_once : unread (round_with (obj ("a" ≔ obj [] ∷ []))) ≡ Some ((codes "#/definitions/A/properties/a", obj ("a" ≔ obj [] ∷ [])) ∷ [])
  pub read_where_merged : unread (merged_with (num 3)) ≡ Some []
  pub of_another_kind_where_merged : unread (merged_with (str "a")) ≡ Some ((codes "#", str "a") ∷ (codes "#", str "a") ∷ [])
  pub out_of_bounds_where_merged : unread (merged_with (num 6)) ≡ Some ((codes "#", num 6) ∷ [])
  pub taken_over : unread (merged_property (obj ("type" ≔ str "integer" ∷ "default" ≔ str "a" ∷ []))) ≡ Some ((codes "#/allOf/0/properties/p", str "a") ∷ [])
  pub listed_and_taken_over : unread (merged_property (obj ("enum" ≔ arr (num 1 ∷ str "x" ∷ []) ∷ "type" ≔ str "integer" ∷ []))) ≡ Some ((codes "#/allOf/0/properties/p", str "x") ∷ [])
