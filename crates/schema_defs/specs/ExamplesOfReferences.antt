-- Worked examples: references and their targets.
use Rattle.std.specs.Prelude.{◌≡◌, Bool, true, false, Option, Some, option_map, List, ℕ, [], ◌∷◌}
use Rattle.json_value.specs.Value.{Value, null}
use Rattle.schema_defs.specs.declared.Setting.TheVariants.{Strict}
use Rattle.schema_defs.specs.Read.{document_of}
use Rattle.schema_defs.specs.References.{is_guarded}
use Rattle.schema_defs.specs.Build.{◌≔◌, str, num, yes, no, obj, arr, typed, ref, Takes, Refuses}

-- {"definitions": definitions, "$ref": text}
abbrev pub with_definition : List (List ℕ × Value) → Value → Value
with_definition ds q = obj ("$ref" ≔ q ∷ "definitions" ≔ obj ds ∷ [])

-- a list of numbers: {"id": 1, "next": ..}
abbrev pub chain : Value
chain = obj
    ("$ref" ≔ str "#/definitions/Node"
    ∷ "definitions"
    ≔ obj
    ("Node"
    ≔ obj
    ("additionalProperties" ≔ no
    ∷ "properties" ≔ obj ("id" ≔ typed "integer" ∷ "next" ≔ ref "#/definitions/Node" ∷ [])
    ∷ "required" ≔ arr (str "id" ∷ [])
    ∷ "type" ≔ str "object"
    ∷ [])
    ∷ [])
    ∷ [])

abbrev pub last : Value
last = obj ("id" ≔ num 1 ∷ [])

abbrev pub link : Value → Value
link v = obj ("id" ≔ num 1 ∷ "next" ≔ v ∷ [])

-- a tree of lists
abbrev pub nested_lists : Value
nested_lists = obj ("items" ≔ ref "#" ∷ "type" ≔ str "array" ∷ [])

pub record ReferenceExamples : Type 0 where
  pub by_definitions : Takes (with_definition ("A" ≔ typed "null" ∷ []) (str "#/definitions/A")) null
  pub by_definitions_refused : Refuses (with_definition ("A" ≔ typed "null" ∷ []) (str "#/definitions/A")) (num 1)
  pub by_defs : Takes (obj ("$defs" ≔ obj ("A" ≔ typed "null" ∷ []) ∷ "$ref" ≔ str "#/$defs/A" ∷ [])) null
  pub by_defs_refused : Refuses (obj ("$defs" ≔ obj ("A" ≔ typed "null" ∷ []) ∷ "$ref" ≔ str "#/$defs/A" ∷ [])) (num 1)
  pub one_name_space : Takes (with_definition ("A" ≔ typed "null" ∷ []) (str "#/$defs/A")) null
  pub slash : Takes (with_definition ("a/b" ≔ typed "null" ∷ "a~1b" ≔ no ∷ []) (str "#/definitions/a~1b")) null
  pub tilde : Takes (with_definition ("a~b" ≔ typed "null" ∷ []) (str "#/definitions/a~0b")) null
  pub one_pass : Takes (with_definition ("/" ≔ no ∷ "~1" ≔ typed "null" ∷ []) (str "#/definitions/~01")) null
  pub percent_is_itself : Takes (with_definition ("a b" ≔ no ∷ "a%20b" ≔ typed "null" ∷ []) (str "#/definitions/a%20b")) null
  pub no_target : Refuses (with_definition ("A" ≔ yes ∷ []) (str "#/definitions/B")) null
  pub siblings_count : Refuses (obj ("$ref" ≔ str "#/definitions/A" ∷ "definitions" ≔ obj ("A" ≔ yes ∷ []) ∷ "type" ≔ str "null" ∷ [])) (num 1)
  pub siblings_alone_do_not : Refuses (obj ("$ref" ≔ str "#/definitions/A" ∷ "definitions" ≔ obj ("A" ≔ no ∷ []) ∷ "type" ≔ str "null" ∷ [])) null
  pub two_in_a_row : Takes (with_definition ("A" ≔ ref "#/definitions/B" ∷ "B" ≔ typed "null" ∷ []) (str "#/definitions/A")) null
  pub two_in_a_row_refused : Refuses (with_definition ("A" ≔ ref "#/definitions/B" ∷ "B" ≔ typed "null" ∷ []) (str "#/definitions/A")) (num 1)
  pub under_another_keyword : Takes (obj ("allOf" ≔ arr (ref "#/definitions/A" ∷ []) ∷ "definitions" ≔ obj ("A" ≔ typed "null" ∷ []) ∷ [])) null
  pub definitions_below_the_root : Refuses (obj ("allOf" ≔ arr (with_definition ("A" ≔ yes ∷ []) (str "#/definitions/A") ∷ []) ∷ [])) null
  pub chain_of_one : Takes chain last
  pub chain_of_three : Takes chain (link (link last))
  pub broken_chain : Refuses chain (link (link null))
  pub root_as_target : Takes nested_lists (arr (arr [] ∷ arr (arr [] ∷ []) ∷ []))
  pub root_as_target_refused : Refuses nested_lists (arr (arr [] ∷ arr (num 1 ∷ []) ∷ []))
  pub endless_takes_none : Refuses (ref "#") null

-- whether the document is guarded
abbrev pub guards : Value → Option Bool
guards v = option_map is_guarded (document_of Strict v)

pub record GuardedExamples : Type 0 where
  pub no_references : guards (typed "null") ≡ Some true
  pub by_a_smaller_value : guards chain ≡ Some true
  pub root_by_its_items : guards nested_lists ≡ Some true
  pub root_by_itself : guards (ref "#") ≡ Some false
  pub root_under_not : guards (obj ("not" ≔ ref "#" ∷ [])) ≡ Some false
  pub under_two_keywords : guards (obj ("allOf" ≔ arr (obj ("anyOf" ≔ arr (yes ∷ ref "#" ∷ []) ∷ []) ∷ []) ∷ [])) ≡ Some false
  pub two_definitions : guards (with_definition ("A" ≔ ref "#/definitions/B" ∷ "B" ≔ obj ("oneOf" ≔ arr (ref "#/definitions/A" ∷ []) ∷ []) ∷ []) (str "#/definitions/A")) ≡ Some false
  pub unused_definition : guards (obj ("$defs" ≔ obj ("A" ≔ ref "#/$defs/A" ∷ []) ∷ [])) ≡ Some false
  pub back_by_a_property : guards (with_definition ("A" ≔ ref "#/definitions/B" ∷ "B" ≔ obj ("properties" ≔ obj ("a" ≔ ref "#/definitions/A" ∷ []) ∷ []) ∷ []) (str "#/definitions/A")) ≡ Some true
  pub longest_walk : guards (with_definition ("A" ≔ ref "#/definitions/B" ∷ "B" ≔ ref "#/definitions/C" ∷ "C" ≔ yes ∷ []) (str "#/definitions/A")) ≡ Some true
  pub no_target : guards (ref "#/definitions/A") ≡ Some true
