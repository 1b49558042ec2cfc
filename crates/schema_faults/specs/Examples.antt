-- Worked examples: where schemas stand, what is malformed, which references lead nowhere, and where numbers are not whole.
use Rattle.std.specs.Prelude.{◌≡◌, List, [], ◌∷◌, map, true, false, codes}
use Prim.Native.String.{String}
use Rattle.json_value.specs.Value.{Value, null, fraction}
use Rattle.schema_defs.specs.Location.{Location, place}
use Rattle.schema_defs.specs.Laws.{NamesRise}
use Rattle.schema_defs.specs.Build.{◌≔◌, str, num, minus, yes, no, obj, arr, typed, ref}
use Rattle.schema_faults.specs.Keywords.{keywords}
use Rattle.schema_faults.specs.Schemas.{schemas_of}
use Rattle.schema_faults.specs.Faults.{Place, malformed_places, reference_places, bad_references, float_places, fraction_places, leads}

-- steps that are written as words
abbrev pub at : List String → Location
at [] = []
at (s ∷ ss) = codes s ∷ at ss

infix 60 ◌!◌
abbrev pub ◌!◌ : List String → String → Place
l ! t = (at l, codes t)

abbrev pub places_of_schemas : Value → List Location
places_of_schemas v = map (λ n. n.steps) (schemas_of v)

-- malformed at the root, at this keyword alone
abbrev pub Breaks : String → Value → Type 0
Breaks k v = malformed_places (obj (k ≔ v ∷ [])) ≡ ([] ! k) ∷ []

abbrev pub IsFine : Value → Type 0
IsFine v = malformed_places v ≡ []

abbrev pub Stands : String → Value → Type 0
Stands k v = IsFine (obj (k ≔ v ∷ []))

pub record SchemaExamples : Type 0 where
  pub keywords_rise : NamesRise (map (λ r. r.0) keywords)
  pub boolean : places_of_schemas yes ≡ [] ∷ []
  pub owner_first : places_of_schemas (obj ("not" ≔ obj ("items" ≔ yes ∷ []) ∷ [])) ≡ [] ∷ at ("not" ∷ []) ∷ at ("not" ∷ "items" ∷ []) ∷ []
  pub by_keyword : places_of_schemas (obj ("properties" ≔ obj ("b" ≔ yes ∷ "c" ≔ no ∷ []) ∷ "contains" ≔ yes ∷ "$defs" ≔ obj ("a" ≔ yes ∷ []) ∷ []))
      ≡ [] ∷ at ("$defs" ∷ "a" ∷ []) ∷ at ("contains" ∷ []) ∷ at ("properties" ∷ "b" ∷ []) ∷ at ("properties" ∷ "c" ∷ []) ∷ []
  pub by_place : places_of_schemas (obj ("anyOf" ≔ arr (yes ∷ obj ("not" ≔ no ∷ []) ∷ null ∷ []) ∷ []))
      ≡ [] ∷ (codes "anyOf" ∷ place 0 ∷ []) ∷ (codes "anyOf" ∷ place 1 ∷ []) ∷ (codes "anyOf" ∷ place 1 ∷ codes "not" ∷ []) ∷ (codes "anyOf" ∷ place 2 ∷ []) ∷ []
  pub one_or_a_list : places_of_schemas (obj ("items" ≔ arr (yes ∷ []) ∷ [])) ≡ [] ∷ (codes "items" ∷ place 0 ∷ []) ∷ []
  pub definitions_at_the_root_alone : places_of_schemas (obj ("not" ≔ obj ("definitions" ≔ obj ("a" ≔ yes ∷ []) ∷ []) ∷ [])) ≡ [] ∷ at ("not" ∷ []) ∷ []
  pub conditions_are_not_read : places_of_schemas (obj ("if" ≔ yes ∷ "then" ≔ obj ("$ref" ≔ num 3 ∷ []) ∷ [])) ≡ [] ∷ []
  pub a_name_is_no_keyword : places_of_schemas (obj ("properties" ≔ obj ("not" ≔ yes ∷ []) ∷ [])) ≡ [] ∷ at ("properties" ∷ "not" ∷ []) ∷ []

pub record MalformedExamples : Type 0 where
  pub booleans : IsFine yes
  pub root_number : malformed_places (num 3) ≡ ([] ! "") ∷ []
  pub root_list : malformed_places (arr []) ≡ ([] ! "") ∷ []
  pub properties_list : Breaks "properties" (arr [])
  pub items_number : Breaks "items" (num 5)
  pub not_number : Breaks "not" (num 5)
  pub title_number : Breaks "title" (num 3)
  pub reference_number : Breaks "$ref" (num 3)
  pub pattern_boolean : Breaks "pattern" yes
  pub unknown_type : Breaks "type" (str "int")
  pub type_of_another_kind : Breaks "type" null
  pub unknown_type_in_a_list : Breaks "type" (arr (str "null" ∷ str "text" ∷ []))
  pub no_text_in_a_type_list : Breaks "type" (arr (num 1 ∷ []))
  pub enum_of_another_kind : Breaks "enum" (str "a")
  pub negative_size : Breaks "minLength" (minus 1)
  pub size_too_great : Breaks "maxItems" (num 4294967296)
  pub size_of_another_kind : Breaks "maxProperties" (str "1")
  pub greatest_size : Stands "maxItems" (num 4294967295)
  pub fraction_as_size : Stands "maxItems" fraction
  pub multiple_of_zero : Breaks "multipleOf" (num 0)
  pub negative_multiple : Breaks "multipleOf" (minus 2)
  pub multiple_of_another_kind : Breaks "multipleOf" yes
  pub fraction_as_multiple : Stands "multipleOf" fraction
  pub bound_of_another_kind : Breaks "maximum" (str "1")
  pub negative_bound : Stands "exclusiveMinimum" (minus 7)
  pub empty_all_of : Breaks "allOf" (arr [])
  pub empty_lists : IsFine (obj ("anyOf" ≔ arr [] ∷ "enum" ≔ arr [] ∷ "oneOf" ≔ arr [] ∷ "type" ≔ arr [] ∷ []))
  pub one_of_a_schema : Breaks "oneOf" (obj [])
  pub required_number : Breaks "required" (arr (str "a" ∷ num 1 ∷ []))
  pub required_text : Breaks "required" (str "a")
  pub unique_number : Breaks "uniqueItems" (num 1)
  pub defs_list : Breaks "$defs" (arr [])
  pub member_of_all_of : malformed_places (obj ("allOf" ≔ arr (yes ∷ num 5 ∷ []) ∷ [])) ≡ (codes "allOf" ∷ place 1 ∷ [], codes "allOf") ∷ []
  pub item_by_place : malformed_places (obj ("items" ≔ arr (null ∷ []) ∷ [])) ≡ (codes "items" ∷ place 0 ∷ [], codes "items") ∷ []
  pub property : malformed_places (obj ("properties" ≔ obj ("a" ≔ str "string" ∷ []) ∷ [])) ≡ (("properties" ∷ "a" ∷ []) ! "properties") ∷ []
  pub definition : malformed_places (obj ("$defs" ≔ obj ("a" ≔ null ∷ []) ∷ [])) ≡ (("$defs" ∷ "a" ∷ []) ! "$defs") ∷ []
  pub one_name_under_both : malformed_places (obj ("$defs" ≔ obj ("a" ≔ yes ∷ []) ∷ "definitions" ≔ obj ("a" ≔ yes ∷ []) ∷ [])) ≡ ([] ! "definitions") ∷ []
  pub two_names : IsFine (obj ("$defs" ≔ obj ("a" ≔ yes ∷ []) ∷ "definitions" ≔ obj ("b" ≔ yes ∷ []) ∷ []))
  pub unknown_members : IsFine (obj ("$id" ≔ num 3 ∷ "x-rust-type" ≔ null ∷ []))
  pub no_definitions_below : IsFine (obj ("not" ≔ obj ("definitions" ≔ num 3 ∷ "$defs" ≔ num 3 ∷ []) ∷ []))
  pub any_condition : IsFine (obj ("else" ≔ arr [] ∷ "if" ≔ num 3 ∷ "then" ≔ fraction ∷ []))
  pub siblings_of_a_reference : malformed_places (obj ("$ref" ≔ str "#" ∷ "title" ≔ num 1 ∷ [])) ≡ ([] ! "title") ∷ []
  pub inside_a_sibling : malformed_places (obj ("$ref" ≔ str "#" ∷ "not" ≔ obj ("title" ≔ num 1 ∷ []) ∷ [])) ≡ (("not" ∷ []) ! "title") ∷ []
  pub owner_before_children : malformed_places (obj ("contains" ≔ obj ("format" ≔ num 1 ∷ []) ∷ "title" ≔ num 2 ∷ "enum" ≔ num 3 ∷ []))
      ≡ ([] ! "enum") ∷ ([] ! "title") ∷ (("contains" ∷ []) ! "format") ∷ []

-- a document with a definition whose name has a slash and one whose name has a tilde
abbrev pub defined : Value
defined = obj ("$defs" ≔ obj ("a/b" ≔ yes ∷ []) ∷ "definitions" ≔ obj ("c~" ≔ ref "other.json" ∷ "d" ≔ ref "#/definitions/e" ∷ []) ∷ "not" ≔ ref "#/definitions/d" ∷ [])

pub record ReferenceExamples : Type 0 where
  pub all : reference_places defined
      ≡ (("definitions" ∷ "c~" ∷ []) ! "other.json") ∷ (("definitions" ∷ "d" ∷ []) ! "#/definitions/e") ∷ (("not" ∷ []) ! "#/definitions/d") ∷ []
  pub bad : bad_references defined ≡ (("definitions" ∷ "c~" ∷ []) ! "other.json") ∷ (("definitions" ∷ "d" ∷ []) ! "#/definitions/e") ∷ []
  pub root : leads yes (codes "#") ≡ true
  pub either_keyword : leads defined (codes "#/definitions/a~1b") ≡ true
  pub other_keyword : leads defined (codes "#/$defs/c~0") ≡ true
  pub not_decoded : leads defined (codes "#/$defs/a/c~0") ≡ false
  pub slash_as_it_stands : leads defined (codes "#/$defs/a/b") ≡ true
  pub no_percent_signs : leads defined (codes "#/$defs/a%2Fb") ≡ false
  pub no_property : leads defined (codes "#/not") ≡ false
  pub without_a_mark : leads defined (codes "d") ≡ false
  pub empty : leads defined (codes "") ≡ false
  pub at_the_root_alone : bad_references (obj ("not" ≔ obj ("definitions" ≔ obj ("a" ≔ yes ∷ []) ∷ "$ref" ≔ str "#/definitions/a" ∷ []) ∷ [])) ≡ (("not" ∷ []) ! "#/definitions/a") ∷ []

pub record FloatExamples : Type 0 where
  pub number : float_places (typed "number") ≡ ([] ! "") ∷ []
  pub number_is_no_fraction : fraction_places (typed "number") ≡ []
  pub in_a_list : float_places (obj ("type" ≔ arr (str "number" ∷ str "null" ∷ []) ∷ [])) ≡ ([] ! "") ∷ []
  pub in_a_list_of_all : float_places (obj ("type" ≔ arr (str "number" ∷ str "null" ∷ str "string" ∷ str "boolean" ∷ str "object" ∷ str "array" ∷ str "integer" ∷ []) ∷ [])) ≡ []
  pub integer : float_places (typed "integer") ≡ []
  pub bound : float_places (obj ("minimum" ≔ fraction ∷ [])) ≡ ([] ! "") ∷ []
  pub size : float_places (obj ("not" ≔ obj ("minItems" ≔ fraction ∷ []) ∷ [])) ≡ (("not" ∷ []) ! "") ∷ []
  pub multiple : fraction_places (obj ("multipleOf" ≔ fraction ∷ [])) ≡ ([] ! "") ∷ []
  pub deep_in_a_constant : float_places (obj ("const" ≔ arr (obj ("a" ≔ fraction ∷ []) ∷ []) ∷ [])) ≡ ([] ! "") ∷ []
  pub in_a_default : float_places (obj ("default" ≔ fraction ∷ [])) ≡ ([] ! "") ∷ []
  pub in_an_enumeration : float_places (obj ("enum" ≔ arr (num 1 ∷ fraction ∷ []) ∷ [])) ≡ ([] ! "") ∷ []
  pub one_place_once : float_places (obj ("enum" ≔ arr (fraction ∷ []) ∷ "type" ≔ str "number" ∷ [])) ≡ ([] ! "") ∷ []
  pub unknown_members : float_places (obj ("x" ≔ fraction ∷ "title" ≔ fraction ∷ "if" ≔ fraction ∷ [])) ≡ []
