-- Worked examples: which lists of schemas have which shape.
use Rattle.std.specs.Prelude.{ℕ, List, [], ◌∷◌, Bool, true, false, codes}
use Prim.Native.String.{String}
use Rattle.json_value.specs.Value.{Value, null, text as text_of}
use Rattle.schema_defs.specs.Build.{◌≔◌, str, num, yes, no, obj, arr, typed, ref}
use Rattle.enum_defs.specs.Build.{only, listed, texts, members, members_and, unit_of, holds, closed, External, NotExternal, Internal, NotInternal, Adjacent, NotAdjacent, IsOption, NoOption}

abbrev pub only_null : Value
only_null = obj ("const" ≔ null ∷ [])

pub record OptionExamples : Type 0 where
  pub null_and_text : IsOption (typed "null" ∷ typed "string" ∷ [])
  pub text_and_null : IsOption (typed "string" ∷ typed "null" ∷ [])
  pub two_nulls_and_text : IsOption (typed "null" ∷ typed "string" ∷ only_null ∷ [])
  pub nulls_listed : IsOption (listed (null ∷ null ∷ []) ∷ typed "string" ∷ [])
  pub empty_list_is_null : IsOption (listed [] ∷ typed "string" ∷ [])
  pub empty_types_are_null : IsOption (obj ("type" ≔ arr [] ∷ []) ∷ typed "string" ∷ [])
  pub types_of_null : IsOption (obj ("type" ≔ arr (str "null" ∷ str "null" ∷ []) ∷ []) ∷ typed "string" ∷ [])
  pub type_before_constant : IsOption (obj ("const" ≔ num 1 ∷ "type" ≔ str "null" ∷ []) ∷ typed "string" ∷ [])
  pub constant_before_list : IsOption (obj ("const" ≔ null ∷ "enum" ≔ arr (num 1 ∷ []) ∷ []) ∷ typed "string" ∷ [])
  pub beside_other_keywords : IsOption (obj ("minimum" ≔ num 1 ∷ "type" ≔ str "null" ∷ []) ∷ yes ∷ [])
  pub false_is_no_null : NoOption (no ∷ typed "string" ∷ [])
  pub one_schema : NoOption (typed "string" ∷ [])
  pub one_null : NoOption (typed "null" ∷ [])
  pub none : NoOption []
  pub nulls_alone : NoOption (typed "null" ∷ typed "null" ∷ [])
  pub two_others : NoOption (typed "null" ∷ typed "string" ∷ typed "integer" ∷ [])
  pub types_with_another : NoOption (obj ("type" ≔ arr (str "null" ∷ str "string" ∷ []) ∷ []) ∷ typed "string" ∷ [])
  pub list_with_another : NoOption (listed (null ∷ str "a" ∷ []) ∷ typed "string" ∷ [])
  pub constant_beside_nulls : NoOption (obj ("const" ≔ num 1 ∷ "enum" ≔ arr (null ∷ []) ∷ []) ∷ typed "string" ∷ [])
  pub by_a_reference : NoOption (ref "#/definitions/N" ∷ typed "string" ∷ [])
  pub by_all_of : NoOption (obj ("allOf" ≔ arr (typed "null" ∷ []) ∷ []) ∷ typed "string" ∷ [])

-- {"type": "object", "properties": {name: {"type": "integer"}}, "required": [name]}
abbrev pub wrapped : List ℕ × Value → Value
wrapped p = obj ("properties" ≔ obj (p ∷ []) ∷ "required" ≔ arr (text_of p.0 ∷ []) ∷ "type" ≔ str "object" ∷ [])

abbrev pub whole : Value
whole = typed "integer"

pub record ExternalExamples : Type 0 where
  pub none : External [] []
  pub a_constant : External (only "a" ∷ []) (unit_of "a" ∷ [])
  pub constants : External (only "a" ∷ only "b" ∷ []) (unit_of "a" ∷ unit_of "b" ∷ [])
  pub a_list : External (listed (texts ("b" ∷ "a" ∷ [])) ∷ []) (unit_of "b" ∷ unit_of "a" ∷ [])
  pub a_list_of_none : External (listed [] ∷ only "a" ∷ []) (unit_of "a" ∷ [])
  pub typed_texts : External (obj ("enum" ≔ arr (texts ("a" ∷ [])) ∷ "type" ≔ str "string" ∷ []) ∷ []) (unit_of "a" ∷ [])
  pub beside_text_rules : External (obj ("const" ≔ str "a" ∷ "minLength" ≔ num 1 ∷ []) ∷ []) (unit_of "a" ∷ [])
  pub beside_number_rules : External (obj ("const" ≔ str "a" ∷ "minimum" ≔ num 1 ∷ []) ∷ []) (unit_of "a" ∷ [])
  pub beside_members : External (obj ("const" ≔ str "a" ∷ "properties" ≔ obj ("p" ≔ yes ∷ []) ∷ []) ∷ []) (unit_of "a" ∷ [])
  pub beside_annotations : External (obj ("const" ≔ str "a" ∷ "title" ≔ str "T" ∷ []) ∷ []) (unit_of "a" ∷ [])
  pub a_property : External (wrapped ("a" ≔ whole) ∷ []) (holds "a" ∷ [])
  pub a_closed_property : External (members_and no ("a" ≔ whole ∷ []) ("a" ∷ []) ∷ []) (closed (holds "a") ∷ [])
  pub an_open_property : External (members_and yes ("a" ≔ whole ∷ []) ("a" ∷ []) ∷ []) (holds "a" ∷ [])
  pub mixed : External (only "a" ∷ wrapped ("b" ≔ whole) ∷ listed (texts ("c" ∷ "d" ∷ [])) ∷ []) (unit_of "a" ∷ holds "b" ∷ unit_of "c" ∷ unit_of "d" ∷ [])
  pub equal_texts : NotExternal (only "a" ∷ only "a" ∷ [])
  pub equal_listed : NotExternal (listed (texts ("a" ∷ "a" ∷ [])) ∷ [])
  pub text_and_property_equal : NotExternal (only "a" ∷ wrapped ("a" ≔ whole) ∷ [])
  pub constant_beside_list : NotExternal (obj ("const" ≔ str "a" ∷ "enum" ≔ arr (texts ("a" ∷ [])) ∷ []) ∷ [])
  pub a_number_listed : NotExternal (listed (str "a" ∷ num 1 ∷ []) ∷ [])
  pub a_number : NotExternal (obj ("const" ≔ num 1 ∷ []) ∷ [])
  pub null_listed : NotExternal (listed (str "a" ∷ null ∷ []) ∷ [])
  pub another_type : NotExternal (obj ("const" ≔ str "a" ∷ "type" ≔ str "integer" ∷ []) ∷ [])
  pub a_list_of_types : NotExternal (obj ("const" ≔ str "a" ∷ "type" ≔ arr (str "string" ∷ []) ∷ []) ∷ [])
  pub beside_a_format : NotExternal (obj ("const" ≔ str "a" ∷ "format" ≔ str "uuid" ∷ []) ∷ [])
  pub beside_a_reference : NotExternal (obj ("$ref" ≔ str "#" ∷ "const" ≔ str "a" ∷ []) ∷ [])
  pub beside_all_of : NotExternal (obj ("allOf" ≔ arr (yes ∷ []) ∷ "const" ≔ str "a" ∷ []) ∷ [])
  pub beside_if : NotExternal (obj ("const" ≔ str "a" ∷ "if" ≔ yes ∷ []) ∷ [])
  pub a_text_type : NotExternal (typed "string" ∷ [])
  pub two_properties : NotExternal (members ("a" ≔ whole ∷ "b" ≔ whole ∷ []) ("a" ∷ "b" ∷ []) ∷ [])
  pub no_property : NotExternal (members [] [] ∷ [])
  pub no_keyword_of_members : NotExternal (typed "object" ∷ [])
  pub not_required : NotExternal (members ("a" ≔ whole ∷ []) [] ∷ [])
  pub required_beyond : NotExternal (members ("a" ≔ whole ∷ []) ("a" ∷ "b" ∷ []) ∷ [])
  pub rest_as_a_schema : NotExternal (members_and whole ("a" ≔ whole ∷ []) ("a" ∷ []) ∷ [])
  pub rest_as_an_empty_schema : NotExternal (members_and (obj []) ("a" ≔ whole ∷ []) ("a" ∷ []) ∷ [])
  pub counted : NotExternal (obj ("minProperties" ≔ num 1 ∷ "properties" ≔ obj ("a" ≔ whole ∷ []) ∷ "required" ≔ arr (str "a" ∷ []) ∷ "type" ≔ str "object" ∷ []) ∷ [])
  pub named_by_a_pattern : NotExternal (obj ("patternProperties" ≔ obj ("b" ≔ yes ∷ []) ∷ "properties" ≔ obj ("a" ≔ whole ∷ []) ∷ "required" ≔ arr (str "a" ∷ []) ∷ "type" ≔ str "object" ∷ []) ∷ [])
  pub names_bound : NotExternal (obj ("properties" ≔ obj ("a" ≔ whole ∷ []) ∷ "propertyNames" ≔ yes ∷ "required" ≔ arr (str "a" ∷ []) ∷ "type" ≔ str "object" ∷ []) ∷ [])
  pub untyped_object : NotExternal (obj ("properties" ≔ obj ("a" ≔ whole ∷ []) ∷ "required" ≔ arr (str "a" ∷ []) ∷ []) ∷ [])
  pub a_reference : NotExternal (ref "#" ∷ [])
  pub true_schema : NotExternal (yes ∷ [])
  pub false_schema : NotExternal (no ∷ [])

-- an object of the tag and of other properties, all required
abbrev pub tagged : String → List (List ℕ × Value) → List String → Value
tagged t ps required = members (("t" ≔ only t) ∷ ps) ("t" ∷ required)

pub record InternalExamples : Type 0 where
  pub tag_alone : Internal (tagged "a" [] [] ∷ tagged "b" [] [] ∷ []) "t" ((codes "a", false) ∷ (codes "b", false) ∷ [])
  pub one_schema : Internal (tagged "a" [] [] ∷ []) "t" ((codes "a", false) ∷ [])
  pub with_others : Internal (tagged "a" ("x" ≔ whole ∷ []) [] ∷ tagged "b" ("y" ≔ whole ∷ []) ("y" ∷ []) ∷ []) "t" ((codes "a", false) ∷ (codes "b", false) ∷ [])
  pub closed_ones : Internal (members_and no ("t" ≔ only "a" ∷ []) ("t" ∷ []) ∷ tagged "b" [] [] ∷ []) "t" ((codes "a", true) ∷ (codes "b", false) ∷ [])
  pub listed_tag : Internal (members ("t" ≔ listed (texts ("a" ∷ [])) ∷ []) ("t" ∷ []) ∷ []) "t" ((codes "a", false) ∷ [])
  pub typed_tag : Internal (members ("t" ≔ obj ("const" ≔ str "a" ∷ "type" ≔ str "string" ∷ []) ∷ []) ("t" ∷ []) ∷ []) "t" ((codes "a", false) ∷ [])
  pub first_of_two_tags : Internal (members ("s" ≔ only "x" ∷ "t" ≔ only "a" ∷ []) ("s" ∷ "t" ∷ []) ∷ members ("s" ≔ only "y" ∷ "t" ≔ only "b" ∷ []) ("s" ∷ "t" ∷ []) ∷ []) "s" ((codes "x", false) ∷ (codes "y", false) ∷ [])
  pub second_where_the_first_is_equal : Internal (members ("s" ≔ only "x" ∷ "t" ≔ only "a" ∷ []) ("s" ∷ "t" ∷ []) ∷ members ("s" ≔ only "x" ∷ "t" ≔ only "b" ∷ []) ("s" ∷ "t" ∷ []) ∷ []) "t" ((codes "a", false) ∷ (codes "b", false) ∷ [])
  pub second_where_the_first_is_optional : Internal (members ("s" ≔ only "x" ∷ "t" ≔ only "a" ∷ []) ("t" ∷ []) ∷ []) "t" ((codes "a", false) ∷ [])
  pub none : NotInternal []
  pub tag_not_required : NotInternal (members ("t" ≔ only "a" ∷ []) [] ∷ [])
  pub not_required_in_one : NotInternal (tagged "a" [] [] ∷ members ("t" ≔ only "b" ∷ []) [] ∷ [])
  pub equal_texts : NotInternal (tagged "a" [] [] ∷ tagged "a" ("x" ≔ whole ∷ []) [] ∷ [])
  pub no_tag_in_one : NotInternal (tagged "a" [] [] ∷ members ("x" ≔ whole ∷ []) ("x" ∷ []) ∷ [])
  pub tag_of_two_texts : NotInternal (members ("t" ≔ listed (texts ("a" ∷ "b" ∷ [])) ∷ []) ("t" ∷ []) ∷ [])
  pub tag_with_a_length : NotInternal (members ("t" ≔ obj ("const" ≔ str "a" ∷ "minLength" ≔ num 1 ∷ []) ∷ []) ("t" ∷ []) ∷ [])
  pub tag_by_both : NotInternal (members ("t" ≔ obj ("const" ≔ str "a" ∷ "enum" ≔ arr (texts ("a" ∷ [])) ∷ []) ∷ []) ("t" ∷ []) ∷ [])
  pub a_number_tag : NotInternal (members ("t" ≔ obj ("const" ≔ num 1 ∷ []) ∷ []) ("t" ∷ []) ∷ [])
  pub tag_by_a_reference : NotInternal (members ("t" ≔ ref "#/definitions/T" ∷ []) ("t" ∷ []) ∷ [])
  pub rest_as_a_schema : NotInternal (members_and whole ("t" ≔ only "a" ∷ []) ("t" ∷ []) ∷ [])
  pub a_text_beside : NotInternal (tagged "a" [] [] ∷ only "b" ∷ [])
  pub false_beside : NotInternal (tagged "a" [] [] ∷ no ∷ [])
  pub a_reference_beside : NotInternal (tagged "a" [] [] ∷ ref "#" ∷ [])

pub record AdjacentExamples : Type 0 where
  pub both : Adjacent (tagged "a" ("c" ≔ whole ∷ []) ("c" ∷ []) ∷ tagged "b" ("c" ≔ yes ∷ []) ("c" ∷ []) ∷ []) "t" "c" (holds "a" ∷ holds "b" ∷ [])
  pub one_schema : Adjacent (tagged "a" ("c" ≔ whole ∷ []) ("c" ∷ []) ∷ []) "t" "c" (holds "a" ∷ [])
  pub one_without_content : Adjacent (tagged "a" [] [] ∷ tagged "b" ("c" ≔ whole ∷ []) ("c" ∷ []) ∷ []) "t" "c" (unit_of "a" ∷ holds "b" ∷ [])
  pub tag_after_content : Adjacent (members ("c" ≔ whole ∷ "z" ≔ only "a" ∷ []) ("c" ∷ "z" ∷ []) ∷ []) "z" "c" (holds "a" ∷ [])
  pub closed_ones : Adjacent (members_and no ("c" ≔ whole ∷ "t" ≔ only "a" ∷ []) ("c" ∷ "t" ∷ []) ∷ tagged "b" ("c" ≔ whole ∷ []) ("c" ∷ []) ∷ []) "t" "c" (closed (holds "a") ∷ holds "b" ∷ [])
  pub content_constant_in_one : Adjacent (tagged "a" ("c" ≔ only "x" ∷ []) ("c" ∷ []) ∷ tagged "b" ("c" ≔ whole ∷ []) ("c" ∷ []) ∷ []) "t" "c" (holds "a" ∷ holds "b" ∷ [])
  pub content_missing_and_constant : Adjacent (tagged "a" [] [] ∷ tagged "b" ("c" ≔ only "x" ∷ []) ("c" ∷ []) ∷ []) "t" "c" (unit_of "a" ∷ holds "b" ∷ [])
  pub none : NotAdjacent []
  pub a_second_constant : NotAdjacent (tagged "a" ("c" ≔ only "x" ∷ []) ("c" ∷ []) ∷ tagged "b" ("c" ≔ only "y" ∷ []) ("c" ∷ []) ∷ [])
  pub a_second_constant_equal : NotAdjacent (tagged "a" ("c" ≔ only "x" ∷ []) ("c" ∷ []) ∷ tagged "b" ("c" ≔ only "x" ∷ []) ("c" ∷ []) ∷ [])
  pub tag_not_required : NotAdjacent (members ("c" ≔ whole ∷ "t" ≔ only "a" ∷ []) ("c" ∷ []) ∷ [])
  pub content_not_required : NotAdjacent (members ("c" ≔ whole ∷ "t" ≔ only "a" ∷ []) ("t" ∷ []) ∷ [])
  pub equal_texts : NotAdjacent (tagged "a" ("c" ≔ whole ∷ []) ("c" ∷ []) ∷ tagged "a" ("c" ≔ yes ∷ []) ("c" ∷ []) ∷ [])
  pub three_properties : NotAdjacent (tagged "a" ("c" ≔ whole ∷ []) ("c" ∷ []) ∷ tagged "b" ("e" ≔ whole ∷ []) ("e" ∷ []) ∷ [])
  pub tag_alone : NotAdjacent (tagged "a" [] [] ∷ tagged "b" [] [] ∷ [])
  pub no_tag : NotAdjacent (members ("c" ≔ whole ∷ "e" ≔ whole ∷ []) ("c" ∷ "e" ∷ []) ∷ [])
  pub no_tag_in_one : NotAdjacent (tagged "a" ("c" ≔ whole ∷ []) ("c" ∷ []) ∷ members ("c" ≔ whole ∷ []) ("c" ∷ []) ∷ [])
  pub an_object_without_keywords : NotAdjacent (tagged "a" ("c" ≔ whole ∷ []) ("c" ∷ []) ∷ typed "object" ∷ [])
  pub rest_as_a_schema : NotAdjacent (members_and whole ("c" ≔ whole ∷ "t" ≔ only "a" ∷ []) ("c" ∷ "t" ∷ []) ∷ [])
  pub false_beside : NotAdjacent (tagged "a" ("c" ≔ whole ∷ []) ("c" ∷ []) ∷ no ∷ [])
