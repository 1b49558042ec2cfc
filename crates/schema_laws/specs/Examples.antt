-- Worked examples: what stands at a location of a value, and what references lead to.
use Rattle.std.specs.Prelude.{◌≡◌, ℕ, List, [], ◌∷◌, Bool, true, false, Option, Some, None, option_map, option_and_then, is_some, codes}
use Prim.Native.String.{String}
use Rattle.json_value.specs.Value.{Value}
use Rattle.schema_defs.specs.declared.Setting.TheVariants.{Strict}
use Rattle.schema_defs.specs.Location.{Location, place}
use Rattle.schema_defs.specs.Admits.{target}
use Rattle.schema_defs.specs.Read.{document_of}
use Rattle.schema_defs.specs.Children.{reference_of, schema_at}
use Rattle.schema_defs.specs.Build.{◌≔◌, str, num, yes, obj, arr, ref}
use Rattle.schema_faults.specs.Faults.{malformed_places, reference_places, bad_references}
use Rattle.schema_faults.specs.Examples.{at, ◌!◌}
use Rattle.schema_laws.specs.ValueAt.{value_at}

-- {"allOf": [true, {"not": 5}], "title": "a"}
abbrev pub sample : Value
sample = obj ("allOf" ≔ arr (yes ∷ obj ("not" ≔ num 5 ∷ []) ∷ []) ∷ "title" ≔ str "a" ∷ [])

-- {"properties": {"a": true, "a": {"not": 5}}}
abbrev pub twice : Value
twice = obj ("properties" ≔ obj ("a" ≔ yes ∷ "a" ≔ obj ("not" ≔ num 5 ∷ []) ∷ []) ∷ [])

pub record PlaceExamples : Type 0 where
  pub itself : value_at [] sample ≡ Some sample
  pub member : value_at (at ("title" ∷ [])) sample ≡ Some (str "a")
  pub item : value_at (codes "allOf" ∷ place 0 ∷ []) sample ≡ Some yes
  pub deeper : value_at (codes "allOf" ∷ place 1 ∷ codes "not" ∷ []) sample ≡ Some (num 5)
  pub no_such_item : value_at (codes "allOf" ∷ place 2 ∷ []) sample ≡ None
  pub no_such_member : value_at (at ("not" ∷ [])) sample ≡ None
  pub inside_a_text : value_at (at ("title" ∷ "a" ∷ [])) sample ≡ None
  pub a_place_of_an_object : value_at (place 0 ∷ []) sample ≡ None
  pub told : malformed_places sample ≡ (codes "allOf" ∷ place 1 ∷ [], codes "not") ∷ []
  pub told_there : value_at (codes "allOf" ∷ place 1 ∷ []) sample ≡ Some (obj ("not" ≔ num 5 ∷ []))
  pub told_of_the_second : malformed_places twice ≡ (("properties" ∷ "a" ∷ []) ! "not") ∷ []
  pub the_first_stands_there : value_at (at ("properties" ∷ "a" ∷ [])) twice ≡ Some yes

-- {"$defs": {"a": {"not": {"$ref": "#"}}}, "properties": {"x": {"$ref": "#/$defs/a"}}}
abbrev pub linked : Value
linked = obj ("$defs" ≔ obj ("a" ≔ obj ("not" ≔ ref "#" ∷ []) ∷ []) ∷ "properties" ≔ obj ("x" ≔ ref "#/$defs/a" ∷ []) ∷ [])

-- {"not": {"$ref": "#/$defs/b"}}
abbrev pub broken : Value
broken = obj ("not" ≔ ref "#/$defs/b" ∷ [])

-- the reference that stands at a location of the document that is read
abbrev pub reference_at : Location → Value → Option (List ℕ)
reference_at l v = option_and_then reference_of (option_and_then (λ d. schema_at d l) (document_of Strict v))

-- whether a reference has a target in the document that is read
abbrev pub has_target : String → Value → Option Bool
has_target q v = option_map (λ d. is_some (target d (codes q))) (document_of Strict v)

pub record ResolvedExamples : Type 0 where
  pub all : reference_places linked ≡ (("$defs" ∷ "a" ∷ "not" ∷ []) ! "#") ∷ (("properties" ∷ "x" ∷ []) ! "#/$defs/a") ∷ []
  pub none_is_bad : bad_references linked ≡ []
  pub in_a_definition : reference_at (at ("$defs" ∷ "a" ∷ "not" ∷ [])) linked ≡ Some (codes "#")
  pub of_a_property : reference_at (at ("properties" ∷ "x" ∷ [])) linked ≡ Some (codes "#/$defs/a")
  pub to_the_root : has_target "#" linked ≡ Some true
  pub to_the_definition : has_target "#/$defs/a" linked ≡ Some true
  pub one_is_bad : bad_references broken ≡ (("not" ∷ []) ! "#/$defs/b") ∷ []
  pub it_is_read : reference_at (at ("not" ∷ [])) broken ≡ Some (codes "#/$defs/b")
  pub it_has_no_target : has_target "#/$defs/b" broken ≡ Some false
