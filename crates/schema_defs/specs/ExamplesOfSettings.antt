-- Worked examples: members that are null under the setting in which null may stand for an absent property.
use Rattle.std.specs.Prelude.{◌≡◌, [], ◌∷◌, true, false, Some, option_map}
use Rattle.json_value.specs.Value.{Value, null}
use Rattle.schema_defs.specs.declared.Setting.TheVariants.{NullAbsent}
use Rattle.schema_defs.specs.Read.{document_of}
use Rattle.schema_defs.specs.Build.{◌≔◌, str, num, yes, no, obj, arr, typed, answer_under, Refuses}

abbrev pub TakesNull : Value → Value → Type 0
TakesNull schema v = answer_under NullAbsent schema v ≡ Some true

abbrev pub RefusesNull : Value → Value → Type 0
RefusesNull schema v = answer_under NullAbsent schema v ≡ Some false

-- {"type": "object", "properties": {"s": {"type": "string"}}}
abbrev pub text_property : Value
text_property = obj ("properties" ≔ obj ("s" ≔ typed "string" ∷ []) ∷ "type" ≔ str "object" ∷ [])

-- {"s": null}
abbrev pub null_member : Value
null_member = obj ("s" ≔ null ∷ [])

-- {"properties": {"s": {"type": "string"}}, "required": names}
abbrev pub requiring : Value → Value
requiring names = obj ("properties" ≔ obj ("s" ≔ typed "string" ∷ []) ∷ "required" ≔ names ∷ [])

pub record SettingExamples : Type 0 where
  pub setting_is_read : option_map (λ d. d.setting) (document_of NullAbsent text_property) ≡ Some NullAbsent
  pub null_for_absence : TakesNull text_property null_member
  pub strict : Refuses text_property null_member
  pub absent : TakesNull text_property (obj [])
  pub other_values_are_bound : RefusesNull text_property (obj ("s" ≔ num 1 ∷ []))
  pub text_taken : TakesNull text_property (obj ("s" ≔ str "a" ∷ []))
  pub only_members : RefusesNull (typed "string") null
  pub no_null_inside : RefusesNull (obj ("properties" ≔ obj ("s" ≔ obj ("items" ≔ typed "string" ∷ []) ∷ []) ∷ [])) (obj ("s" ≔ arr (null ∷ []) ∷ []))
  pub required_is_bound : RefusesNull (requiring (arr (str "s" ∷ []))) null_member
  pub another_is_required : TakesNull (requiring (arr (str "t" ∷ []))) (obj ("s" ≔ null ∷ "t" ≔ null ∷ []))
  pub null_is_no_absence : TakesNull (obj ("required" ≔ arr (str "s" ∷ []) ∷ [])) null_member
  pub even_false : TakesNull (obj ("properties" ≔ obj ("s" ≔ no ∷ []) ∷ [])) null_member
  pub at_each_level : TakesNull (obj ("properties" ≔ obj ("o" ≔ text_property ∷ []) ∷ [])) (obj ("o" ≔ null_member ∷ []))
  pub required_elsewhere : TakesNull (obj ("allOf" ≔ arr (text_property ∷ obj ("required" ≔ arr (str "s" ∷ []) ∷ []) ∷ []) ∷ [])) null_member
  pub patterns_bind : RefusesNull (obj ("patternProperties" ≔ obj ("s" ≔ typed "string" ∷ []) ∷ [])) null_member
  pub patterns_bind_beside_properties : RefusesNull (obj ("patternProperties" ≔ obj ("s" ≔ typed "string" ∷ []) ∷ "properties" ≔ obj ("s" ≔ yes ∷ []) ∷ [])) null_member
  pub others_bind : RefusesNull (obj ("additionalProperties" ≔ typed "string" ∷ [])) null_member
  pub named_is_no_other : TakesNull (obj ("additionalProperties" ≔ no ∷ "properties" ≔ obj ("s" ≔ typed "string" ∷ []) ∷ [])) null_member
  pub names_bind : RefusesNull (obj ("properties" ≔ obj ("s" ≔ typed "string" ∷ []) ∷ "propertyNames" ≔ obj ("maxLength" ≔ num 0 ∷ []) ∷ [])) null_member
  pub counted : RefusesNull (obj ("maxProperties" ≔ num 0 ∷ "properties" ≔ obj ("s" ≔ typed "string" ∷ []) ∷ [])) null_member
  pub under_not : RefusesNull (obj ("not" ≔ text_property ∷ [])) null_member
