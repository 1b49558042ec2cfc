-- Worked documents: the first fault at a depth, its walk with it, and the number of schemas.
use Rattle.std.specs.Prelude.{◌≡◌, ℕ, nat_eq, List, [], ◌∷◌, map, filter, length, Bool, true, Option, Some, option_map, codes}
use Rattle.json_value.specs.Value.{Value}
use Rattle.schema_defs.specs.declared.Setting.TheVariants.{Strict}
use Rattle.schema_defs.specs.Location.{location_text}
use Rattle.schema_defs.specs.Schema.{Document}
use Rattle.schema_defs.specs.Read.{document_of}
use Rattle.schema_defs.specs.References.{is_guarded}
use Rattle.schema_defs.specs.Counts.{nodes}
use Rattle.schema_defs.specs.Build.{◌≔◌, str, num, yes, no, obj, arr, typed, ref, sample}
use Rattle.convert_walks.specs.Told.{Reason, too_deep, faults_of, notes_of, note_number}

-- the texts of a walk's locations; nothing of other reasons
abbrev pub walk_texts : Reason → List (List ℕ)
walk_texts (too_deep w) = map location_text w
walk_texts _ = []

-- no example needs more levels
abbrev pub levels : ℕ
levels = 40

-- how many schemas stand in the document, whether it is guarded, and the walks of all faults at the depth
abbrev pub answer_of : ℕ → Document → ℕ × Bool × List (List (List ℕ))
answer_of most d = (nodes d, is_guarded d, map (λ f. walk_texts f.1) (faults_of sample d most levels))

abbrev pub answer : ℕ → Value → Option (ℕ × Bool × List (List (List ℕ)))
answer most s = option_map (answer_of most) (document_of Strict s)

-- a property p of an object, with what is taken away there, and a definition
abbrev pub taken_away : Value → Value → Value
taken_away t a =
    obj ("definitions" ≔ obj ("A" ≔ a ∷ []) ∷ "not" ≔ obj ("properties" ≔ obj ("p" ≔ t ∷ []) ∷ [])
    ∷ "properties" ≔ obj ("p" ≔ obj ("$ref" ≔ str "#/definitions/A" ∷ "type" ≔ str "null" ∷ []) ∷ []) ∷ [])

abbrev pub all_of : List Value → Value
all_of vs = obj ("allOf" ≔ arr vs ∷ [])

-- how many locations the walks have
abbrev pub lengths : ℕ × Bool × List (List (List ℕ)) → ℕ × Bool × List ℕ
lengths a = (a.0, a.1, map length a.2)

-- {"items": {"oneOf": [an object with one member]}}
abbrev pub one_branch : Value
one_branch =
    obj ("items" ≔ obj ("oneOf" ≔ arr (obj ("additionalProperties" ≔ no ∷ "properties" ≔ obj ("a" ≔ obj [] ∷ []) ∷ "required" ≔ arr (str "a" ∷ []) ∷ "type" ≔ str "object" ∷ []) ∷ []) ∷ []) ∷ "type" ≔ str "array" ∷ [])

-- where two steps lead to a definition, and a subtraction on the way there has the longer walk
abbrev pub two_steps : Value
two_steps = taken_away (obj []) (obj [])

-- a subtraction with a walk through the definition to which the reference leads
abbrev pub through_the_target : Value
through_the_target = taken_away (all_of (ref "#/definitions/A" ∷ obj ("maxProperties" ≔ num 9 ∷ []) ∷ [])) (all_of (all_of (all_of (typed "object" ∷ []) ∷ []) ∷ []))

-- the places of the notes of a kind, at a depth of eight
abbrev pub places_of_notes : ℕ → Value → Option (List (List ℕ))
places_of_notes k v = option_map (λ d. map (λ m. location_text m.place) (filter (λ m. nat_eq (note_number m.name) k) (notes_of sample d 8 levels))) (document_of Strict v)

abbrev pub tagged : List (List ℕ × Value) → List Value → Value
tagged ms ns = obj ("properties" ≔ obj ms ∷ "required" ≔ arr ns ∷ "type" ≔ str "object" ∷ [])

-- two branches beside a size of lists, from each of which the other is taken away
abbrev pub two_tagged : Value
two_tagged =
    obj ("minItems" ≔ num 3 ∷ "oneOf" ≔ arr (tagged ("t" ≔ obj ("enum" ≔ arr (str "a" ∷ []) ∷ []) ∷ []) (str "t" ∷ [])
    ∷ tagged ("c" ≔ obj ("patternProperties" ≔ obj ("x" ≔ yes ∷ []) ∷ []) ∷ "t" ≔ obj ("enum" ≔ arr (str "b" ∷ []) ∷ []) ∷ []) (str "t" ∷ str "c" ∷ []) ∷ []) ∷ [])

pub record WorkedWalks : Type 0 where
  pub of_the_subtraction : answer 1 two_steps ≡ Some (5, true, (codes "#" ∷ codes "#/not" ∷ codes "#/not/properties/p" ∷ []) ∷ [])
  pub by_the_property : answer 2 two_steps ≡ Some (5, true, [])
  pub at_the_node_count : answer 10 through_the_target ≡ Some (10, true, [])
  -- a part of a branch that is too deep is two steps too deep, and told second
  pub two_deeper : option_map lengths (answer 1 one_branch) ≡ Some (5, true, 3 ∷ 4 ∷ [])
  -- a property that is left as it is has its notes where it was written
  pub of_no_type : places_of_notes 1 two_tagged ≡ Some (codes "#/oneOf/1/properties/c" ∷ [])
  pub of_names : places_of_notes 14 two_tagged ≡ Some (codes "#/oneOf/1/properties/c" ∷ [])
