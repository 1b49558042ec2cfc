-- Worked examples: kinds, values, and keywords that judge the same value.
use Rattle.std.specs.Prelude.{[], ◌∷◌}
use Rattle.json_value.specs.Value.{null}
use Rattle.schema_defs.specs.Build.{◌≔◌, str, num, minus, yes, no, obj, arr, typed, Takes, Refuses}

pub record KindExamples : Type 0 where
  pub true_takes_all : Takes yes (obj ("a" ≔ null ∷ []))
  pub false_takes_none : Refuses no null
  pub empty_takes_all : Takes (obj []) (arr (num 1 ∷ []))
  pub null_taken : Takes (typed "null") null
  pub null_is_not_false : Refuses (typed "null") no
  pub boolean_taken : Takes (typed "boolean") no
  pub zero_is_not_false : Refuses (typed "boolean") (num 0)
  pub object_taken : Takes (typed "object") (obj [])
  pub array_taken : Takes (typed "array") (arr [])
  pub array_is_no_object : Refuses (typed "object") (arr [])
  pub object_is_no_array : Refuses (typed "array") (obj [])
  pub text_taken : Takes (typed "string") (str "")
  pub digits_are_no_integer : Refuses (typed "integer") (str "7")
  pub integer_taken : Takes (typed "integer") (minus 7)
  pub integer_is_a_number : Takes (typed "number") (num 7)
  pub text_is_no_number : Refuses (typed "number") (str "7")
  pub one_of_the_types : Takes (obj ("type" ≔ arr (str "string" ∷ str "null" ∷ []) ∷ [])) null
  pub none_of_the_types : Refuses (obj ("type" ≔ arr (str "string" ∷ str "null" ∷ []) ∷ [])) (num 1)
  pub no_types_take_none : Refuses (obj ("type" ≔ arr [] ∷ [])) null

pub record ValueExamples : Type 0 where
  pub listed : Takes (obj ("enum" ≔ arr (str "a" ∷ num 1 ∷ []) ∷ [])) (num 1)
  pub not_listed : Refuses (obj ("enum" ≔ arr (str "a" ∷ num 1 ∷ []) ∷ [])) (str "b")
  pub one_is_not_true : Refuses (obj ("enum" ≔ arr (num 1 ∷ []) ∷ [])) yes
  pub nothing_listed : Refuses (obj ("enum" ≔ arr [] ∷ [])) null
  pub constant : Takes (obj ("const" ≔ obj ("a" ≔ arr (num 1 ∷ null ∷ []) ∷ []) ∷ [])) (obj ("a" ≔ arr (num 1 ∷ null ∷ []) ∷ []))
  pub other_order : Refuses (obj ("const" ≔ arr (num 1 ∷ null ∷ []) ∷ [])) (arr (null ∷ num 1 ∷ []))
  pub null_constant_stands : Refuses (obj ("const" ≔ null ∷ [])) no
  pub both_have_to_agree : Refuses (obj ("const" ≔ num 1 ∷ "enum" ≔ arr (num 2 ∷ []) ∷ [])) (num 1)
  pub annotations_say_nothing : Takes (obj ("default" ≔ str "x" ∷ "description" ≔ str "y" ∷ "title" ≔ str "z" ∷ [])) (num 1)
  pub unknown_members_say_nothing : Takes (obj ("$id" ≔ num 3 ∷ "minimun" ≔ num 9 ∷ [])) (num 1)

pub record SameValueExamples : Type 0 where
  pub all : Takes (obj ("allOf" ≔ arr (typed "integer" ∷ obj ("minimum" ≔ num 3 ∷ []) ∷ []) ∷ [])) (num 3)
  pub not_all : Refuses (obj ("allOf" ≔ arr (typed "integer" ∷ obj ("minimum" ≔ num 3 ∷ []) ∷ []) ∷ [])) (num 2)
  pub any : Takes (obj ("anyOf" ≔ arr (typed "string" ∷ typed "integer" ∷ []) ∷ [])) (num 2)
  pub several_of_any : Takes (obj ("anyOf" ≔ arr (typed "number" ∷ typed "integer" ∷ []) ∷ [])) (num 2)
  pub none_of_any : Refuses (obj ("anyOf" ≔ arr (typed "string" ∷ typed "null" ∷ []) ∷ [])) (num 2)
  pub empty_any : Refuses (obj ("anyOf" ≔ arr [] ∷ [])) null
  pub exactly_one : Takes (obj ("oneOf" ≔ arr (typed "string" ∷ typed "integer" ∷ []) ∷ [])) (num 2)
  pub two_of_one : Refuses (obj ("oneOf" ≔ arr (typed "number" ∷ typed "integer" ∷ []) ∷ [])) (num 2)
  pub none_of_one : Refuses (obj ("oneOf" ≔ arr (typed "string" ∷ typed "null" ∷ []) ∷ [])) (num 2)
  pub empty_one : Refuses (obj ("oneOf" ≔ arr [] ∷ [])) null
  pub not_it : Takes (obj ("not" ≔ typed "null" ∷ [])) (num 1)
  pub it : Refuses (obj ("not" ≔ typed "null" ∷ [])) null
  pub beside_other_keywords : Refuses (obj ("anyOf" ≔ arr (yes ∷ []) ∷ "type" ≔ str "null" ∷ [])) (num 1)
  pub conditions_say_nothing : Takes (obj ("else" ≔ no ∷ "if" ≔ yes ∷ "then" ≔ no ∷ [])) (num 1)
