-- Worked examples of schemas that are roughly alike, and of some that are not.
use Rattle.std.specs.Prelude.{◌≡◌, [], ◌∷◌, true, false}
use Rattle.json_value.specs.Value.{Value}
use Rattle.schema_defs.specs.Build.{◌≔◌, str, num, yes, no, obj, arr, typed, ref}
use Rattle.merge_defs.specs.Alike.{roughly}
use Rattle.merge_defs.specs.Samples.{read}
use Rattle.merge_walks.specs.Carried.{root_walk, on_walk}

abbrev pub Alike : Value → Value → Type 0
Alike a b = roughly (read a) (read b) ≡ true

abbrev pub Unlike : Value → Value → Type 0
Unlike a b = roughly (read a) (read b) ≡ false

-- {"items": string, "minItems": n}
abbrev pub sized : Value
sized = obj ("items" ≔ typed "string" ∷ "minItems" ≔ num 1 ∷ [])

abbrev pub unsized : Value
unsized = obj ("items" ≔ typed "string" ∷ [])

pub record AlikeExamples : Type 0 where
  pub equal_booleans : Alike no no
  pub other_booleans : Unlike yes no
  pub true_and_no_constraint : Alike yes (obj ("title" ≔ str "a" ∷ []))
  pub no_constraint_and_true : Alike (obj []) yes
  pub true_and_a_constraint : Unlike yes (typed "string")
  pub false_and_an_object : Unlike no (obj ("not" ≔ obj [] ∷ []))
  pub annotations_aside : Alike (obj ("type" ≔ str "string" ∷ "title" ≔ str "a" ∷ "description" ≔ str "b" ∷ "default" ≔ str "c" ∷ [])) (typed "string")
  pub walks_aside : roughly (on_walk root_walk (read (typed "string"))) (read (typed "string")) ≡ true
  pub other_types : Unlike (typed "string") (typed "null")
  pub lists_by_items_alone : Alike sized unsized
  pub lists_on_one_side : Unlike (obj ("minItems" ≔ num 1 ∷ [])) (obj [])
  pub other_items : Unlike unsized (obj ("items" ≔ typed "null" ∷ []))
  pub items_by_place : Alike (obj ("items" ≔ arr (sized ∷ yes ∷ []) ∷ [])) (obj ("items" ≔ arr (unsized ∷ obj [] ∷ []) ∷ []))
  pub items_by_length : Unlike (obj ("items" ≔ arr (yes ∷ yes ∷ []) ∷ [])) (obj ("items" ≔ arr (yes ∷ []) ∷ []))
  pub properties_by_name : Alike (obj ("properties" ≔ obj ("a" ≔ yes ∷ "b" ≔ sized ∷ []) ∷ [])) (obj ("properties" ≔ obj ("a" ≔ obj [] ∷ "b" ≔ unsized ∷ []) ∷ []))
  pub other_names : Unlike (obj ("properties" ≔ obj ("a" ≔ yes ∷ []) ∷ [])) (obj ("properties" ≔ obj ("b" ≔ yes ∷ []) ∷ []))
  pub other_required_names : Unlike (obj ("required" ≔ arr (str "a" ∷ []) ∷ [])) (obj ("required" ≔ arr (str "b" ∷ []) ∷ []))
  pub members_by_place : Alike (obj ("anyOf" ≔ arr (sized ∷ yes ∷ []) ∷ [])) (obj ("anyOf" ≔ arr (unsized ∷ yes ∷ []) ∷ []))
  pub members_in_order : Unlike (obj ("anyOf" ≔ arr (typed "null" ∷ yes ∷ []) ∷ [])) (obj ("anyOf" ≔ arr (yes ∷ typed "null" ∷ []) ∷ []))
  pub one_reference : Alike (ref "#/definitions/A") (ref "#/definitions/A")
  pub other_spelling : Unlike (ref "#/definitions/A") (ref "#/$defs/A")
