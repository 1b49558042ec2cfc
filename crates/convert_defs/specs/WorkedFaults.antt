-- Worked documents that are not converted, with all causes in their order, and the places of conversion trees.
use Rattle.std.specs.Prelude.{◌≡◌, ℕ, not, List, [], ◌∷◌, map, bytes_eq, Option, Some, option_map, codes}
use Rattle.json_value.specs.Value.{Value, null}
use Rattle.schema_defs.specs.declared.Setting.TheVariants.{Strict}
use Rattle.schema_defs.specs.Location.{location_text}
use Rattle.schema_defs.specs.Texts.{Relations}
use Rattle.schema_defs.specs.Read.{document_of}
use Rattle.schema_defs.specs.Build.{◌≔◌, str, num, yes, no, obj, arr, ref, sample}
use Rattle.convert_defs.specs.Row.{Cause, bad_array, bad_not, bad_pattern, bad_value, conditional, mix, mixed_enum, names, nested_enum, places, too_deep}
use Rattle.convert_defs.specs.Convert.{document_tree}
use Rattle.convert_defs.specs.Faults.{faults_of}

-- where a lone bracket is no pattern
abbrev pub choosy : Relations
choosy = record sample { is_pattern = λ p. not (bytes_eq p (codes "(")) }

abbrev pub faults : ℕ → Value → Option (List (List ℕ × Cause))
faults n s = option_map (λ d. map (λ f. (location_text f.0, f.1)) (faults_of choosy d n)) (document_of Strict s)

abbrev pub tree_places : Value → Option (List (List ℕ))
tree_places s = option_map (λ d. map (λ t. location_text t.place) (document_tree sample d 8)) (document_of Strict s)

abbrev pub linked : Value
linked = obj ("$ref" ≔ str "#/definitions/A" ∷ "definitions" ≔ obj ("A" ≔ obj ("properties" ≔ obj ("next" ≔ ref "#/definitions/A" ∷ []) ∷ "type" ≔ str "object" ∷ []) ∷ []) ∷ [])

pub record WorkedFaults : Type 0 where
  pub condition : faults 8 (obj ("if" ≔ yes ∷ [])) ≡ Some ((codes "#", conditional) ∷ [])
  pub condition_beside_a_type : faults 8 (obj ("else" ≔ no ∷ "type" ≔ (str "string") ∷ [])) ≡ Some ((codes "#", conditional) ∷ [])
  pub formatted_object : faults 8 (obj ("format" ≔ (str "x") ∷ "type" ≔ (str "object") ∷ [])) ≡ Some ((codes "#", mix) ∷ [])
  pub listed_beside_types : faults 8 (obj ("enum" ≔ (arr ((str "a") ∷ (num 1) ∷ [])) ∷ "type" ≔ (arr ((str "string") ∷ (str "integer") ∷ [])) ∷ [])) ≡ Some ((codes "#", mix) ∷ [])
  pub lone_format : faults 8 (obj ("format" ≔ (str "x") ∷ [])) ≡ Some ((codes "#", mix) ∷ [])
  pub two_kinds_listed : faults 8 (obj ("enum" ≔ (arr ((str "a") ∷ (num 1) ∷ [])) ∷ [])) ≡ Some ((codes "#", mixed_enum) ∷ [])
  pub list_listed : faults 8 (obj ("enum" ≔ (arr ((arr ((num 1) ∷ [])) ∷ [])) ∷ [])) ≡ Some ((codes "#", nested_enum) ∷ [])
  pub object_listed_beside_null : faults 8 (obj ("enum" ≔ (arr (null ∷ (obj ([])) ∷ [])) ∷ [])) ≡ Some ((codes "#", nested_enum) ∷ [])
  pub object_listed_of_a_type : faults 8 (obj ("enum" ≔ (arr ((obj ([])) ∷ [])) ∷ "type" ≔ (str "integer") ∷ [])) ≡ Some ((codes "#", nested_enum) ∷ [])
  pub list_denied_of_a_type : faults 8 (obj ("not" ≔ (obj ("enum" ≔ (arr ((arr ([])) ∷ [])) ∷ "type" ≔ (str "string") ∷ [])) ∷ [])) ≡ Some ((codes "#", nested_enum) ∷ [])
  pub list_denied : faults 8 (obj ("not" ≔ (obj ("enum" ≔ (arr ((arr ([])) ∷ [])) ∷ [])) ∷ [])) ≡ Some ((codes "#", nested_enum) ∷ [])
  pub nothing_denied : faults 8 (obj ("not" ≔ (obj ("enum" ≔ (arr ([])) ∷ [])) ∷ [])) ≡ Some ((codes "#", bad_not) ∷ [])
  pub type_denied : faults 8 (obj ("not" ≔ (obj ("type" ≔ (str "string") ∷ [])) ∷ [])) ≡ Some ((codes "#", bad_not) ∷ [])
  pub two_kinds_denied : faults 8 (obj ("not" ≔ (obj ("enum" ≔ (arr ((str "a") ∷ yes ∷ [])) ∷ [])) ∷ [])) ≡ Some ((codes "#", bad_not) ∷ [])
  pub no_names : faults 8 (obj ("propertyNames" ≔ no ∷ "type" ≔ (str "object") ∷ [])) ≡ Some ((codes "#", names) ∷ [])
  pub names_by_numbers : faults 8 (obj ("propertyNames" ≔ (obj ("maximum" ≔ (num 1) ∷ [])) ∷ "type" ≔ (str "object") ∷ [])) ≡ Some ((codes "#", names) ∷ [])
  pub names_listed_badly : faults 8 (obj ("propertyNames" ≔ (obj ("enum" ≔ (arr ((num 1) ∷ [])) ∷ "type" ≔ (str "string") ∷ [])) ∷ "type" ≔ (str "object") ∷ [])) ≡ Some ((codes "#", names) ∷ [])
  pub names_by_a_format : faults 8 (obj ("propertyNames" ≔ (obj ("format" ≔ (str "x") ∷ [])) ∷ "type" ≔ (str "object") ∷ [])) ≡ Some ((codes "#/propertyNames", mix) ∷ [])
  pub listed_numbers : faults 8 (obj ("enum" ≔ (arr ((num 1) ∷ [])) ∷ "type" ≔ (str "string") ∷ [])) ≡ Some ((codes "#", bad_value) ∷ [])
  pub listed_text_and_number : faults 8 (obj ("enum" ≔ (arr ((str "a") ∷ (num 1) ∷ [])) ∷ "type" ≔ (str "string") ∷ [])) ≡ Some ((codes "#", bad_value) ∷ [])
  pub pattern : faults 8 (obj ("pattern" ≔ (str "(") ∷ "type" ≔ (str "string") ∷ [])) ≡ Some ((codes "#", bad_pattern) ∷ [])
  pub pattern_beside_a_format : faults 8 (obj ("format" ≔ (str "uuid") ∷ "pattern" ≔ (str "(") ∷ "type" ≔ (str "string") ∷ [])) ≡ Some ((codes "#", bad_pattern) ∷ [])
  pub pattern_before_listed_numbers : faults 8 (obj ("enum" ≔ (arr ((num 1) ∷ [])) ∷ "pattern" ≔ (str "(") ∷ "type" ≔ (str "string") ∷ [])) ≡ Some ((codes "#", bad_pattern) ∷ (codes "#", bad_value) ∷ [])
  pub pattern_without_a_type : faults 8 (obj ("pattern" ≔ (str "(") ∷ [])) ≡ Some ((codes "#", bad_pattern) ∷ [])
  pub pattern_of_a_constant : faults 8 (obj ("const" ≔ (str "a") ∷ "pattern" ≔ (str "(") ∷ [])) ≡ Some ((codes "#", bad_pattern) ∷ [])
  pub pattern_of_names : faults 8 (obj ("additionalProperties" ≔ no ∷ "patternProperties" ≔ (obj ("(" ≔ yes ∷ [])) ∷ "type" ≔ (str "object") ∷ [])) ≡ Some ((codes "#", bad_pattern) ∷ [])
  pub pattern_of_a_struct : faults 8 (obj ("patternProperties" ≔ (obj ("(" ≔ yes ∷ [])) ∷ "properties" ≔ (obj ("a" ≔ yes ∷ [])) ∷ "type" ≔ (str "object") ∷ [])) ≡ Some ([])
  pub contains_one : faults 8 (obj ("contains" ≔ yes ∷ "type" ≔ (str "array") ∷ [])) ≡ Some ((codes "#", bad_array) ∷ [])
  pub listed_places_without_sizes : faults 8 (obj ("items" ≔ (arr (yes ∷ [])) ∷ "type" ≔ (str "array") ∷ [])) ≡ Some ((codes "#", bad_array) ∷ [])
  pub too_many_places : faults 8 (obj ("items" ≔ (arr (yes ∷ [])) ∷ "maxItems" ≔ (num 9) ∷ "minItems" ≔ (num 9) ∷ "type" ≔ (str "array") ∷ [])) ≡ Some ((codes "#", places) ∷ [])
  pub as_many_places : faults 9 (obj ("items" ≔ (arr (yes ∷ [])) ∷ "maxItems" ≔ (num 9) ∷ "minItems" ≔ (num 9) ∷ "type" ≔ (str "array") ∷ [])) ≡ Some ([])
  pub places_that_are_listed : faults 1 (obj ("items" ≔ (arr ((obj ("type" ≔ (str "null") ∷ [])) ∷ (obj ("type" ≔ (str "null") ∷ [])) ∷ [])) ∷ "maxItems" ≔ (num 2) ∷ "minItems" ≔ (num 2) ∷ "type" ≔ (str "array") ∷ [])) ≡ Some ([])
  pub deep : faults 1 (obj ("items" ≔ (obj ("items" ≔ (obj ("type" ≔ (str "string") ∷ [])) ∷ "type" ≔ (str "array") ∷ [])) ∷ "type" ≔ (str "array") ∷ [])) ≡ Some ((codes "#/items/items", too_deep) ∷ [])
  pub not_so_deep : faults 2 (obj ("items" ≔ (obj ("items" ≔ (obj ("type" ≔ (str "string") ∷ [])) ∷ "type" ≔ (str "array") ∷ [])) ∷ "type" ≔ (str "array") ∷ [])) ≡ Some ([])
  pub deep_in_a_branch : faults 1 (obj ("oneOf" ≔ (arr ((obj ("additionalProperties" ≔ no ∷ "properties" ≔ (obj ("a" ≔ (obj ("type" ≔ (str "integer") ∷ [])) ∷ [])) ∷ "required" ≔ (arr ((str "a") ∷ [])) ∷ "type" ≔ (str "object") ∷ [])) ∷ [])) ∷ [])) ≡ Some ((codes "#/oneOf/0/properties/a", too_deep) ∷ [])
  pub deep_by_a_branch : faults 1 (obj ("items" ≔ (obj ("oneOf" ≔ (arr ((obj ("enum" ≔ (arr ((str "a") ∷ [])) ∷ [])) ∷ (obj ("enum" ≔ (arr ((str "b") ∷ [])) ∷ [])) ∷ [])) ∷ [])) ∷ "type" ≔ (str "array") ∷ [])) ≡ Some ((codes "#/items/oneOf/0", too_deep) ∷ (codes "#/items/oneOf/1", too_deep) ∷ [])
  pub not_deep_by_a_branch : faults 2 (obj ("items" ≔ (obj ("oneOf" ≔ (arr ((obj ("enum" ≔ (arr ((str "a") ∷ [])) ∷ [])) ∷ (obj ("enum" ≔ (arr ((str "b") ∷ [])) ∷ [])) ∷ [])) ∷ [])) ∷ "type" ≔ (str "array") ∷ [])) ≡ Some ([])
  pub references_are_no_steps : faults 1 (obj ("$ref" ≔ (str "#/definitions/A") ∷ "definitions" ≔ (obj ("A" ≔ (obj ("properties" ≔ (obj ("next" ≔ (obj ("$ref" ≔ (str "#/definitions/A") ∷ [])) ∷ [])) ∷ "type" ≔ (str "object") ∷ [])) ∷ [])) ∷ [])) ≡ Some ([])
  pub definitions_first : faults 8 (obj ("definitions" ≔ (obj ("A" ≔ (obj ("enum" ≔ (arr ((num 1) ∷ [])) ∷ "type" ≔ (str "string") ∷ [])) ∷ [])) ∷ "properties" ≔ (obj ("a" ≔ (obj ("if" ≔ yes ∷ [])) ∷ [])) ∷ "type" ≔ (str "object") ∷ [])) ≡ Some ((codes "#/definitions/A", bad_value) ∷ (codes "#/properties/a", conditional) ∷ [])
  pub properties_in_order : faults 8 (obj ("properties" ≔ (obj ("a" ≔ (obj ("enum" ≔ (arr ((num 1) ∷ [])) ∷ "type" ≔ (str "string") ∷ [])) ∷ "b" ≔ (obj ("items" ≔ (arr (yes ∷ [])) ∷ "maxItems" ≔ (num 9) ∷ "minItems" ≔ (num 9) ∷ "type" ≔ (str "array") ∷ [])) ∷ [])) ∷ "type" ≔ (str "object") ∷ [])) ≡ Some ((codes "#/properties/a", bad_value) ∷ (codes "#/properties/b", places) ∷ [])
  pub names_before_members : faults 8 (obj ("additionalProperties" ≔ (obj ("if" ≔ yes ∷ [])) ∷ "propertyNames" ≔ (obj ("format" ≔ (str "x") ∷ [])) ∷ "type" ≔ (str "object") ∷ [])) ≡ Some ((codes "#/propertyNames", mix) ∷ (codes "#/additionalProperties", conditional) ∷ [])
  pub branches_in_order : faults 8 (obj ("oneOf" ≔ (arr ((obj ("additionalProperties" ≔ no ∷ "properties" ≔ (obj ("a" ≔ (obj ("items" ≔ (arr (yes ∷ [])) ∷ "maxItems" ≔ (num 9) ∷ "minItems" ≔ (num 9) ∷ "type" ≔ (str "array") ∷ [])) ∷ [])) ∷ "required" ≔ (arr ((str "a") ∷ [])) ∷ "type" ≔ (str "object") ∷ [])) ∷ (obj ("additionalProperties" ≔ no ∷ "properties" ≔ (obj ("b" ≔ (obj ("if" ≔ yes ∷ [])) ∷ [])) ∷ "required" ≔ (arr ((str "b") ∷ [])) ∷ "type" ≔ (str "object") ∷ [])) ∷ [])) ∷ [])) ≡ Some ((codes "#/oneOf/0/properties/a", places) ∷ (codes "#/oneOf/1/properties/b", conditional) ∷ [])
  pub schemas_before_their_parts : faults 8 (obj ("items" ≔ (arr ((obj ("if" ≔ yes ∷ [])) ∷ [])) ∷ "maxItems" ≔ (num 9) ∷ "minItems" ≔ (num 9) ∷ "type" ≔ (str "array") ∷ [])) ≡ Some ((codes "#", places) ∷ (codes "#/items/0", conditional) ∷ [])
  pub deep_under_not : faults 1 (obj ("not" ≔ (obj ("enum" ≔ (arr ((str "a") ∷ [])) ∷ "not" ≔ (obj ("enum" ≔ (arr ((str "b") ∷ [])) ∷ "type" ≔ (str "string") ∷ [])) ∷ "type" ≔ (str "string") ∷ [])) ∷ [])) ≡ Some ((codes "#/not/not", too_deep) ∷ [])
  pub not_deep_under_not : faults 2 (obj ("not" ≔ (obj ("enum" ≔ (arr ((str "a") ∷ [])) ∷ "not" ≔ (obj ("enum" ≔ (arr ((str "b") ∷ [])) ∷ "type" ≔ (str "string") ∷ [])) ∷ "type" ≔ (str "string") ∷ [])) ∷ [])) ≡ Some ([])
  pub places_of_parts : tree_places linked ≡ Some (codes "#/definitions/A" ∷ codes "#/definitions/A/properties/next" ∷ codes "#" ∷ [])
  pub places_of_made : tree_places (obj ("items" ≔ obj ("type" ≔ arr (str "null" ∷ str "string" ∷ []) ∷ []) ∷ "type" ≔ str "array" ∷ [])) ≡ Some (codes "#" ∷ codes "#/items" ∷ codes "#/items" ∷ [])
  pub longest_chain : faults 0 (obj ("const" ≔ num 1 ∷ "enum" ≔ arr (null ∷ num 1 ∷ []) ∷ "type" ≔ arr (str "null" ∷ str "boolean" ∷ str "object" ∷ str "array" ∷ str "number" ∷ str "string" ∷ str "integer" ∷ []) ∷ [])) ≡ Some []
