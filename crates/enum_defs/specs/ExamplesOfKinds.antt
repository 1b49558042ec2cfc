-- Worked examples: the kinds that schemas leave open, and which schemas are exclusive.
use Rattle.std.specs.Prelude.{ℕ, List, [], ◌∷◌, Bool, true, false}
use Prim.Native.String.{String}
use Rattle.json_value.specs.Value.{Value, null}
use Rattle.schema_defs.specs.declared.InstanceType.TheVariants.{Null, Boolean, Object, Array, Number, Text, Integer}
use Rattle.schema_defs.specs.Build.{◌≔◌, str, num, yes, no, obj, arr, typed, ref}
use Rattle.enum_defs.specs.declared.KindSet.{KindSet}
use Rattle.enum_defs.specs.Kinds.{every_kind, no_kind, join, kind_of_type}
use Rattle.enum_defs.specs.Build.{only, listed, texts, members, members_and, Opens, Apart, NotApart}

-- {keyword: schemas}
abbrev pub among : String → List Value → Value
among k vs = obj (k ≔ arr vs ∷ [])

abbrev pub null_or_text : KindSet
null_or_text = join (kind_of_type Null) (kind_of_type Text)

pub record KindsExamples : Type 0 where
  pub true_schema : Opens [] yes every_kind
  pub false_schema : Opens [] no no_kind
  pub nothing_said : Opens [] (obj ("minimum" ≔ num 1 ∷ [])) every_kind
  pub by_type : Opens [] (typed "array") (kind_of_type Array)
  pub whole_numbers : Opens [] (typed "integer") (kind_of_type Number)
  pub by_types : Opens [] (obj ("type" ≔ arr (str "null" ∷ str "string" ∷ []) ∷ [])) null_or_text
  pub by_no_types : Opens [] (obj ("type" ≔ arr [] ∷ [])) no_kind
  pub by_list : Opens [] (listed (null ∷ str "a" ∷ str "b" ∷ [])) null_or_text
  pub by_an_empty_list : Opens [] (listed []) no_kind
  pub by_constant : Opens [] (obj ("const" ≔ obj [] ∷ [])) (kind_of_type Object)
  pub type_and_list : Opens [] (obj ("enum" ≔ arr (null ∷ str "a" ∷ []) ∷ "type" ≔ str "string" ∷ [])) (kind_of_type Text)
  pub type_and_another_constant : Opens [] (obj ("const" ≔ num 1 ∷ "type" ≔ str "string" ∷ [])) no_kind
  pub all_of : Opens [] (among "allOf" (obj ("type" ≔ arr (str "null" ∷ str "string" ∷ []) ∷ []) ∷ typed "string" ∷ [])) (kind_of_type Text)
  pub all_of_true : Opens [] (among "allOf" (yes ∷ [])) every_kind
  pub any_of : Opens [] (among "anyOf" (typed "null" ∷ typed "string" ∷ [])) null_or_text
  pub one_of : Opens [] (among "oneOf" (typed "null" ∷ typed "string" ∷ no ∷ [])) null_or_text
  pub any_and_one_of : Opens [] (obj ("anyOf" ≔ arr (typed "null" ∷ typed "string" ∷ []) ∷ "oneOf" ≔ arr (typed "string" ∷ typed "array" ∷ []) ∷ [])) (kind_of_type Text)
  pub negation_says_nothing : Opens [] (obj ("not" ≔ typed "null" ∷ [])) every_kind
  pub by_a_reference : Opens ("T" ≔ typed "string" ∷ []) (ref "#/definitions/T") (kind_of_type Text)
  pub beside_a_reference : Opens ("T" ≔ typed "string" ∷ []) (obj ("$ref" ≔ str "#/definitions/T" ∷ "type" ≔ str "null" ∷ [])) no_kind
  pub two_references : Opens ("S" ≔ ref "#/definitions/T" ∷ "T" ≔ typed "string" ∷ []) (ref "#/definitions/S") (kind_of_type Text)
  pub no_target : Opens [] (ref "#/definitions/T") no_kind

-- an object that requires the properties
abbrev pub tag : String → Value
tag t = members ("t" ≔ only t ∷ []) ("t" ∷ [])

pub record ExclusiveExamples : Type 0 where
  pub none : Apart []
  pub one : Apart (yes ∷ [])
  pub other_kinds : Apart (typed "null" ∷ typed "string" ∷ typed "array" ∷ [])
  pub false_beside : Apart (no ∷ yes ∷ [])
  pub false_twice : Apart (no ∷ no ∷ [])
  pub other_tags : Apart (tag "a" ∷ tag "b" ∷ [])
  pub a_name_that_is_refused : Apart (members ("x" ≔ yes ∷ []) ("x" ∷ []) ∷ members_and no ("y" ≔ yes ∷ []) [] ∷ [])
  pub a_name_that_is_refused_before : Apart (members_and no ("y" ≔ yes ∷ []) [] ∷ members ("x" ≔ yes ∷ []) ("x" ∷ []) ∷ [])
  pub same_kind : NotApart (typed "string" ∷ only "a" ∷ [])
  pub other_texts : NotApart (only "a" ∷ only "b" ∷ [])
  pub numbers : NotApart (typed "integer" ∷ typed "integer" ∷ [])
  pub true_beside : NotApart (yes ∷ typed "null" ∷ [])
  pub equal_tags : NotApart (tag "a" ∷ tag "a" ∷ [])
  pub tag_not_required : NotApart (members ("t" ≔ only "a" ∷ []) [] ∷ tag "b" ∷ [])
  pub tags_under_other_names : NotApart (tag "a" ∷ members ("s" ≔ only "b" ∷ []) ("s" ∷ []) ∷ [])
  pub a_name_that_is_not_required : NotApart (members ("x" ≔ yes ∷ []) [] ∷ members_and no ("y" ≔ yes ∷ []) [] ∷ [])
  pub a_name_that_is_not_refused : NotApart (members ("x" ≔ yes ∷ []) ("x" ∷ []) ∷ members ("y" ≔ yes ∷ []) [] ∷ [])
  pub one_pair_of_three : NotApart (tag "a" ∷ typed "null" ∷ tag "a" ∷ [])
