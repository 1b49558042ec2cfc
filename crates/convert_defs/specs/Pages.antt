-- Worked documents that tell readings of the rows apart: the number of items, the notes, and which values the root's entry takes; or the first fault.
use Rattle.std.specs.Prelude.{◌≡◌, ℕ, List, [], ◌∷◌, length, map, Bool, true, false, Option, Some, option_map, codes}
use Rattle.json_value.specs.Value.{Value, null}
use Rattle.schema_defs.specs.declared.Setting.{Setting}
use Rattle.schema_defs.specs.declared.Setting.TheVariants.{Strict}
use Rattle.schema_defs.specs.Location.{Location, location_text}
use Rattle.schema_defs.specs.Schema.{Document}
use Rattle.schema_defs.specs.Read.{document_of}
use Rattle.schema_defs.specs.Build.{◌≔◌, str, num, yes, no, obj, arr, sample}
use Rattle.entry_defs.specs.Table.{items_of}
use Rattle.convert_defs.specs.Row.{Way, narrowed, widened, NoteKind, array_note, const_note, mixed_branches_note, null_note, overlap_note, string_note, type_note, untyped_note, Cause, bad_array, bad_value, mix, names, too_deep}
use Rattle.convert_defs.specs.Convert.{table_of, notes_of}
use Rattle.convert_defs.specs.Faults.{faults_of}
use Rattle.convert_defs.specs.Worked.{verdicts_of}

pub data Answer : Type 0 where
  page : ℕ → List (Way × NoteKind × List ℕ) → List Bool → Answer
  fault : List ℕ → Cause → Answer

abbrev pub answer_of : ℕ → Document → List Value → List (Location × Cause) → Answer
answer_of n d vs [] = page (length (items_of (table_of sample d n))) (map (λ m. (m.way, m.kind, location_text m.place)) (notes_of sample d n)) (verdicts_of (table_of sample d n) vs)
answer_of n d vs (f ∷ fs) = fault (location_text f.0) f.1

abbrev pub answered_under : Setting → ℕ → Value → List Value → Option Answer
answered_under setting n s vs = option_map (λ d. answer_of n d vs (faults_of sample d n)) (document_of setting s)

abbrev pub answered : ℕ → Value → List Value → Option Answer
answered n s vs = answered_under Strict n s vs

pub record FirstPages : Type 0 where
  pub row_option_before_reference : answered 8 (obj ("$ref" ≔ (str "#/definitions/A") ∷ "definitions" ≔ (obj ("A" ≔ (obj ("type" ≔ (str "string") ∷ [])) ∷ [])) ∷ "type" ≔ (arr ((str "string") ∷ (str "null") ∷ [])) ∷ [])) (null ∷ (str "a") ∷ [])
      ≡ Some (page 1 ((widened, null_note, codes "#") ∷ []) (true ∷ true ∷ []))
  pub row_c5b_before_c17 : answered 8 (obj ("const" ≔ (str "b") ∷ "enum" ≔ (arr ((str "a") ∷ [])) ∷ "type" ≔ (str "string") ∷ [])) ((str "a") ∷ (str "b") ∷ [])
      ≡ Some (page 1 ([]) (false ∷ false ∷ []))
  pub row_const_of_another_kind : answered 8 (obj ("const" ≔ (num 1) ∷ "enum" ≔ (arr ((str "a") ∷ [])) ∷ "type" ≔ (str "string") ∷ [])) ((str "a") ∷ (str "b") ∷ [])
      ≡ Some (page 1 ((widened, const_note, codes "#") ∷ []) (true ∷ false ∷ []))
  pub row_object_with_a_format : answered 8 (obj ("format" ≔ (str "x") ∷ "type" ≔ (str "object") ∷ [])) ([])
      ≡ Some (fault (codes "#") mix)
  pub row_type_list_with_enum : answered 8 (obj ("enum" ≔ (arr ((str "a") ∷ (num 1) ∷ [])) ∷ "type" ≔ (arr ((str "string") ∷ (str "integer") ∷ [])) ∷ [])) ([])
      ≡ Some (fault (codes "#") mix)
  pub row_one_subschema_with_type : answered 8 (obj ("allOf" ≔ (arr ((obj ("type" ≔ (str "integer") ∷ [])) ∷ [])) ∷ "type" ≔ (str "string") ∷ [])) ((num 1) ∷ (str "a") ∷ [])
      ≡ Some (page 0 ((widened, type_note, codes "#") ∷ []) (true ∷ false ∷ []))
  pub row_empty_properties_is_a_map : answered 8 (obj ("properties" ≔ (obj ([])) ∷ "required" ≔ (arr ([])) ∷ "type" ≔ (str "object") ∷ [])) ((obj ("a" ≔ (num 1) ∷ [])) ∷ [])
      ≡ Some (page 0 ([]) (true ∷ []))
  pub row_unique_false : answered 8 (obj ("items" ≔ (arr ((obj ("type" ≔ (str "integer") ∷ [])) ∷ [])) ∷ "maxItems" ≔ (num 1) ∷ "minItems" ≔ (num 1) ∷ "type" ≔ (str "array") ∷ "uniqueItems" ≔ no ∷ [])) ([])
      ≡ Some (fault (codes "#") bad_array)
  pub row_set_of_fixed_size : answered 8 (obj ("items" ≔ (obj ("type" ≔ (str "integer") ∷ [])) ∷ "maxItems" ≔ (num 2) ∷ "minItems" ≔ (num 2) ∷ "type" ≔ (str "array") ∷ "uniqueItems" ≔ yes ∷ [])) ((arr ((num 1) ∷ (num 1) ∷ [])) ∷ (arr ((num 1) ∷ (num 2) ∷ [])) ∷ [])
      ≡ Some (page 0 ((widened, array_note, codes "#") ∷ []) (true ∷ true ∷ []))
  pub row_names_without_keyword : answered 8 (obj ("propertyNames" ≔ (obj ([])) ∷ "type" ≔ (str "object") ∷ [])) ((obj ("a" ≔ (num 1) ∷ [])) ∷ [])
      ≡ Some (page 0 ([]) (true ∷ []))
  pub row_names_false : answered 8 (obj ("propertyNames" ≔ no ∷ "type" ≔ (str "object") ∷ [])) ([])
      ≡ Some (fault (codes "#") names)
  pub row_null_list_of_nulls : answered 8 (obj ("enum" ≔ (arr ((str "a") ∷ [])) ∷ "type" ≔ (arr ((str "null") ∷ (str "null") ∷ [])) ∷ [])) (null ∷ (str "a") ∷ [])
      ≡ Some (page 0 ((widened, null_note, codes "#") ∷ []) (true ∷ false ∷ []))
  pub row_empty_type_list : answered 8 (obj ("type" ≔ (arr ([])) ∷ [])) (null ∷ [])
      ≡ Some (page 1 ([]) (false ∷ []))
  pub row_option_enum_of_nothing : answered 8 (obj ("enum" ≔ (arr ([])) ∷ "type" ≔ (arr ((str "string") ∷ (str "null") ∷ [])) ∷ [])) (null ∷ (str "a") ∷ [])
      ≡ Some (page 0 ((widened, null_note, codes "#") ∷ []) (true ∷ false ∷ []))
  pub option_any_of_two_nulls : answered 8 (obj ("anyOf" ≔ (arr ((obj ("type" ≔ (str "null") ∷ [])) ∷ (obj ("enum" ≔ (arr (null ∷ [])) ∷ [])) ∷ (obj ("type" ≔ (str "string") ∷ [])) ∷ [])) ∷ [])) (null ∷ (str "a") ∷ [])
      ≡ Some (page 0 ([]) (true ∷ true ∷ []))
  pub option_alone : answered 8 (obj ("anyOf" ≔ (arr ((obj ("type" ≔ (str "null") ∷ [])) ∷ [])) ∷ [])) (null ∷ [])
      ≡ Some (page 0 ([]) (true ∷ []))
  pub option_only_nulls : answered 8 (obj ("oneOf" ≔ (arr ((obj ("type" ≔ (str "null") ∷ [])) ∷ (obj ("type" ≔ (str "null") ∷ [])) ∷ [])) ∷ [])) (null ∷ [])
      ≡ Some (page 1 ((widened, overlap_note, codes "#") ∷ []) (true ∷ []))
  pub option_null_with_a_second_keyword : answered 8 (obj ("anyOf" ≔ (arr ((obj ("minLength" ≔ (num 1) ∷ "type" ≔ (str "null") ∷ [])) ∷ (obj ("type" ≔ (str "string") ∷ [])) ∷ [])) ∷ [])) (null ∷ [])
      ≡ Some (page 0 ((widened, null_note, codes "#") ∷ []) (true ∷ []))
  pub external_empty_enum : answered 8 (obj ("oneOf" ≔ (arr ((obj ("enum" ≔ (arr ([])) ∷ [])) ∷ (obj ("enum" ≔ (arr ((str "a") ∷ [])) ∷ [])) ∷ [])) ∷ [])) ((str "a") ∷ [])
      ≡ Some (page 1 ((widened, null_note, codes "#") ∷ []) (true ∷ []))
  pub external_repeated_text : answered 8 (obj ("oneOf" ≔ (arr ((obj ("enum" ≔ (arr ((str "a") ∷ (str "a") ∷ [])) ∷ [])) ∷ (obj ("additionalProperties" ≔ no ∷ "properties" ≔ (obj ("b" ≔ (obj ("type" ≔ (str "integer") ∷ [])) ∷ [])) ∷ "required" ≔ (arr ((str "b") ∷ [])) ∷ "type" ≔ (str "object") ∷ [])) ∷ [])) ∷ [])) ((str "a") ∷ (obj ("b" ≔ (num 1) ∷ [])) ∷ [])
      ≡ Some (page 2 ([]) (true ∷ true ∷ []))
  pub external_before_internal : answered 8 (obj ("oneOf" ≔ (arr ((obj ("additionalProperties" ≔ no ∷ "properties" ≔ (obj ("t" ≔ (obj ("const" ≔ (str "x") ∷ [])) ∷ [])) ∷ "required" ≔ (arr ((str "t") ∷ [])) ∷ "type" ≔ (str "object") ∷ [])) ∷ [])) ∷ [])) ((obj ("t" ≔ (str "x") ∷ [])) ∷ (obj ("t" ≔ (str "y") ∷ [])) ∷ [])
      ≡ Some (page 2 ([]) (true ∷ false ∷ []))

pub record SecondPages : Type 0 where
  pub external_string_keywords : answered 8 (obj ("oneOf" ≔ (arr ((obj ("enum" ≔ (arr ((str "a") ∷ (str "bb") ∷ [])) ∷ "maxLength" ≔ (num 1) ∷ [])) ∷ (obj ("additionalProperties" ≔ no ∷ "properties" ≔ (obj ("c" ≔ (obj ("type" ≔ (str "integer") ∷ [])) ∷ [])) ∷ "required" ≔ (arr ((str "c") ∷ [])) ∷ "type" ≔ (str "object") ∷ [])) ∷ [])) ∷ [])) ((str "bb") ∷ [])
      ≡ Some (page 1 ((widened, string_note, codes "#/oneOf/0") ∷ []) (true ∷ []))
  pub external_unit_content : answered 8 (obj ("oneOf" ≔ (arr ((obj ("additionalProperties" ≔ no ∷ "properties" ≔ (obj ("a" ≔ (obj ("type" ≔ (str "null") ∷ [])) ∷ [])) ∷ "required" ≔ (arr ((str "a") ∷ [])) ∷ "type" ≔ (str "object") ∷ [])) ∷ (obj ("enum" ≔ (arr ((str "b") ∷ [])) ∷ [])) ∷ [])) ∷ [])) ((obj ("a" ≔ null ∷ [])) ∷ (str "a") ∷ (str "b") ∷ [])
      ≡ Some (page 1 ([]) (true ∷ false ∷ true ∷ []))
  pub external_content_open_in_a_closed_enum : answered 8 (obj ("oneOf" ≔ (arr ((obj ("additionalProperties" ≔ no ∷ "properties" ≔ (obj ("a" ≔ (obj ("additionalProperties" ≔ no ∷ "properties" ≔ (obj ("x" ≔ (obj ("type" ≔ (str "integer") ∷ [])) ∷ [])) ∷ "required" ≔ (arr ((str "x") ∷ [])) ∷ "type" ≔ (str "object") ∷ [])) ∷ [])) ∷ "required" ≔ (arr ((str "a") ∷ [])) ∷ "type" ≔ (str "object") ∷ [])) ∷ (obj ("additionalProperties" ≔ no ∷ "properties" ≔ (obj ("b" ≔ (obj ("properties" ≔ (obj ("y" ≔ (obj ("type" ≔ (str "integer") ∷ [])) ∷ [])) ∷ "required" ≔ (arr ((str "y") ∷ [])) ∷ "type" ≔ (str "object") ∷ [])) ∷ [])) ∷ "required" ≔ (arr ((str "b") ∷ [])) ∷ "type" ≔ (str "object") ∷ [])) ∷ [])) ∷ [])) ((obj ("b" ≔ (obj ("y" ≔ (num 1) ∷ "z" ≔ (num 2) ∷ [])) ∷ [])) ∷ (obj ("a" ≔ (obj ("x" ≔ (num 1) ∷ "z" ≔ (num 2) ∷ [])) ∷ [])) ∷ [])
      ≡ Some (page 2 ([]) (true ∷ false ∷ []))
  pub adjacent_closed_and_unit : answered 8 (obj ("oneOf" ≔ (arr ((obj ("additionalProperties" ≔ no ∷ "properties" ≔ (obj ("t" ≔ (obj ("const" ≔ (str "a") ∷ [])) ∷ [])) ∷ "required" ≔ (arr ((str "t") ∷ [])) ∷ "type" ≔ (str "object") ∷ [])) ∷ (obj ("additionalProperties" ≔ no ∷ "properties" ≔ (obj ("c" ≔ (obj ("type" ≔ (str "integer") ∷ [])) ∷ "t" ≔ (obj ("const" ≔ (str "b") ∷ [])) ∷ [])) ∷ "required" ≔ (arr ((str "t") ∷ (str "c") ∷ [])) ∷ "type" ≔ (str "object") ∷ [])) ∷ [])) ∷ [])) ((obj ("c" ≔ (num 1) ∷ "t" ≔ (str "a") ∷ [])) ∷ (obj ("t" ≔ (str "b") ∷ [])) ∷ (obj ("c" ≔ (str "x") ∷ "t" ≔ (str "b") ∷ [])) ∷ (obj ("c" ≔ (num 1) ∷ "t" ≔ (str "b") ∷ "z" ≔ (num 0) ∷ [])) ∷ (obj ("t" ≔ (num 5) ∷ [])) ∷ (obj ("c" ≔ (num 1) ∷ [])) ∷ [])
      ≡ Some (page 1 ([]) (false ∷ false ∷ false ∷ false ∷ false ∷ false ∷ []))
  pub internal_two_candidate_tags : answered 8 (obj ("oneOf" ≔ (arr ((obj ("additionalProperties" ≔ no ∷ "properties" ≔ (obj ("a" ≔ (obj ("const" ≔ (str "1") ∷ [])) ∷ "b" ≔ (obj ("const" ≔ (str "x") ∷ [])) ∷ "n" ≔ (obj ("type" ≔ (str "integer") ∷ [])) ∷ [])) ∷ "required" ≔ (arr ((str "a") ∷ (str "b") ∷ [])) ∷ "type" ≔ (str "object") ∷ [])) ∷ (obj ("additionalProperties" ≔ no ∷ "properties" ≔ (obj ("a" ≔ (obj ("const" ≔ (str "1") ∷ [])) ∷ "b" ≔ (obj ("const" ≔ (str "y") ∷ [])) ∷ [])) ∷ "required" ≔ (arr ((str "a") ∷ (str "b") ∷ [])) ∷ "type" ≔ (str "object") ∷ [])) ∷ [])) ∷ [])) ((obj ("a" ≔ (str "1") ∷ "b" ≔ (str "x") ∷ [])) ∷ (obj ("a" ≔ (str "2") ∷ "b" ≔ (str "x") ∷ [])) ∷ [])
      ≡ Some (page 3 ([]) (true ∷ false ∷ []))
  pub internal_unit_in_a_closed_enum : answered 8 (obj ("oneOf" ≔ (arr ((obj ("additionalProperties" ≔ no ∷ "properties" ≔ (obj ("t" ≔ (obj ("const" ≔ (str "a") ∷ [])) ∷ [])) ∷ "required" ≔ (arr ((str "t") ∷ [])) ∷ "type" ≔ (str "object") ∷ [])) ∷ (obj ("additionalProperties" ≔ no ∷ "properties" ≔ (obj ("n" ≔ (obj ("type" ≔ (str "integer") ∷ [])) ∷ "t" ≔ (obj ("const" ≔ (str "b") ∷ [])) ∷ [])) ∷ "required" ≔ (arr ((str "t") ∷ [])) ∷ "type" ≔ (str "object") ∷ [])) ∷ [])) ∷ [])) ((obj ("n" ≔ (num 1) ∷ "t" ≔ (str "a") ∷ [])) ∷ (obj ("n" ≔ (str "x") ∷ "t" ≔ (str "b") ∷ [])) ∷ [])
      ≡ Some (page 1 ([]) (false ∷ false ∷ []))
  pub internal_mixed : answered 8 (obj ("oneOf" ≔ (arr ((obj ("properties" ≔ (obj ("n" ≔ (obj ("type" ≔ (str "integer") ∷ [])) ∷ "t" ≔ (obj ("const" ≔ (str "a") ∷ [])) ∷ [])) ∷ "required" ≔ (arr ((str "t") ∷ [])) ∷ "type" ≔ (str "object") ∷ [])) ∷ (obj ("additionalProperties" ≔ no ∷ "properties" ≔ (obj ("t" ≔ (obj ("const" ≔ (str "b") ∷ [])) ∷ [])) ∷ "required" ≔ (arr ((str "t") ∷ [])) ∷ "type" ≔ (str "object") ∷ [])) ∷ [])) ∷ [])) ((obj ("t" ≔ (str "a") ∷ "z" ≔ (num 1) ∷ [])) ∷ [])
      ≡ Some (page 1 ((narrowed, mixed_branches_note, codes "#") ∷ []) (false ∷ []))
  pub untagged_exclusive_by_a_required_member : answered 8 (obj ("oneOf" ≔ (arr ((obj ("additionalProperties" ≔ no ∷ "properties" ≔ (obj ("a" ≔ (obj ("type" ≔ (str "integer") ∷ [])) ∷ [])) ∷ "type" ≔ (str "object") ∷ [])) ∷ (obj ("additionalProperties" ≔ no ∷ "properties" ≔ (obj ("b" ≔ (obj ("type" ≔ (str "integer") ∷ [])) ∷ "c" ≔ (obj ("type" ≔ (str "integer") ∷ [])) ∷ [])) ∷ "required" ≔ (arr ((str "b") ∷ [])) ∷ "type" ≔ (str "object") ∷ [])) ∷ [])) ∷ [])) ((obj ("a" ≔ (num 1) ∷ [])) ∷ (obj ("b" ≔ (num 1) ∷ [])) ∷ (obj ([])) ∷ [])
      ≡ Some (page 1 ([]) (true ∷ true ∷ true ∷ []))
  pub map_value_deeper : answered 8 (obj ("additionalProperties" ≔ (obj ("items" ≔ (obj ("type" ≔ (str "integer") ∷ [])) ∷ "type" ≔ (str "array") ∷ [])) ∷ "type" ≔ (str "object") ∷ [])) ((obj ("a" ≔ (arr ((num 1) ∷ (str "x") ∷ [])) ∷ [])) ∷ [])
      ≡ Some (page 0 ([]) (false ∷ []))
  pub map_name : answered 8 (obj ("propertyNames" ≔ (obj ("format" ≔ (str "ipv4") ∷ "type" ≔ (str "string") ∷ [])) ∷ "type" ≔ (str "object") ∷ [])) ((obj ("1.2.3.4" ≔ (num 1) ∷ "x" ≔ (num 1) ∷ [])) ∷ [])
      ≡ Some (page 0 ([]) (false ∷ []))
  pub struct_closed_before_missing : answered 8 (obj ("additionalProperties" ≔ no ∷ "properties" ≔ (obj ("a" ≔ (obj ("type" ≔ (str "integer") ∷ [])) ∷ [])) ∷ "required" ≔ (arr ((str "a") ∷ [])) ∷ "type" ≔ (str "object") ∷ [])) ((obj ("b" ≔ (num 1) ∷ "c" ≔ (num 2) ∷ [])) ∷ [])
      ≡ Some (page 1 ([]) (false ∷ []))
  pub struct_fields_in_key_order : answered 8 (obj ("properties" ≔ (obj ("a" ≔ (obj ("type" ≔ (str "integer") ∷ [])) ∷ "b" ≔ (obj ("type" ≔ (str "integer") ∷ [])) ∷ [])) ∷ "required" ≔ (arr ((str "a") ∷ (str "b") ∷ [])) ∷ "type" ≔ (str "object") ∷ [])) ((obj ("b" ≔ (str "x") ∷ [])) ∷ (obj ("a" ≔ (str "y") ∷ "b" ≔ (str "x") ∷ [])) ∷ [])
      ≡ Some (page 1 ([]) (false ∷ false ∷ []))
  pub required_outside_a_closed_one : answered 8 (obj ("additionalProperties" ≔ no ∷ "required" ≔ (arr ((str "a") ∷ [])) ∷ "type" ≔ (str "object") ∷ [])) ((obj ("a" ≔ (num 1) ∷ [])) ∷ (obj ([])) ∷ [])
      ≡ Some (page 2 ([]) (false ∷ false ∷ []))
  pub set_of_objects : answered 8 (obj ("items" ≔ (obj ("properties" ≔ (obj ("a" ≔ (obj ("type" ≔ (str "array") ∷ [])) ∷ [])) ∷ "type" ≔ (str "object") ∷ [])) ∷ "type" ≔ (str "array") ∷ "uniqueItems" ≔ yes ∷ [])) ((arr ((obj ([])) ∷ (obj ("a" ≔ (arr ([])) ∷ [])) ∷ (obj ("b" ≔ (num 1) ∷ [])) ∷ [])) ∷ [])
      ≡ Some (page 1 ((widened, array_note, codes "#") ∷ []) (true ∷ []))
  pub merge_oneof_one_left : answered 8 (obj ("oneOf" ≔ (arr ((obj ("type" ≔ (str "integer") ∷ [])) ∷ (obj ("minLength" ≔ (num 1) ∷ [])) ∷ [])) ∷ "type" ≔ (str "string") ∷ [])) ((str "a") ∷ (str "") ∷ [])
      ≡ Some (page 2 ((widened, type_note, codes "#") ∷ (widened, overlap_note, codes "#") ∷ (narrowed, untyped_note, codes "#/oneOf/1") ∷ []) (true ∷ false ∷ []))
  pub depth_of_plain_nesting : answered 1 (obj ("items" ≔ (obj ("items" ≔ yes ∷ "type" ≔ (str "array") ∷ [])) ∷ "type" ≔ (str "array") ∷ [])) ([])
      ≡ Some (fault (codes "#/items/items") too_deep)
  pub depth_of_a_boolean : answered 1 (obj ("properties" ≔ (obj ("a" ≔ (obj ("properties" ≔ (obj ("b" ≔ yes ∷ [])) ∷ "type" ≔ (str "object") ∷ [])) ∷ [])) ∷ "type" ≔ (str "object") ∷ [])) ([])
      ≡ Some (fault (codes "#/properties/a/properties/b") too_deep)
  pub depth_of_a_branch : answered 1 (obj ("oneOf" ≔ (arr ((obj ("additionalProperties" ≔ no ∷ "properties" ≔ (obj ("a" ≔ (obj ("type" ≔ (str "integer") ∷ [])) ∷ [])) ∷ "required" ≔ (arr ((str "a") ∷ [])) ∷ "type" ≔ (str "object") ∷ [])) ∷ [])) ∷ [])) ((obj ("a" ≔ (num 1) ∷ [])) ∷ [])
      ≡ Some (fault (codes "#/oneOf/0/properties/a") too_deep)
  pub definitions_first : answered 8 (obj ("definitions" ≔ (obj ("A" ≔ (obj ("enum" ≔ (arr ((num 1) ∷ [])) ∷ "type" ≔ (str "string") ∷ [])) ∷ [])) ∷ "properties" ≔ (obj ("a" ≔ (obj ("if" ≔ yes ∷ [])) ∷ [])) ∷ "type" ≔ (str "object") ∷ [])) ([])
      ≡ Some (fault (codes "#/definitions/A") bad_value)
  pub reference_escapes : answered 8 (obj ("$ref" ≔ (str "#/definitions/a~1b~01") ∷ "definitions" ≔ (obj ("a/b~1" ≔ (obj ("type" ≔ (str "string") ∷ [])) ∷ [])) ∷ [])) ((str "a") ∷ [])
      ≡ Some (page 1 ([]) (true ∷ []))
  pub reference_with_a_raw_slash : answered 8 (obj ("$ref" ≔ (str "#/definitions/a/b") ∷ "definitions" ≔ (obj ("a/b" ≔ (obj ("type" ≔ (str "string") ∷ [])) ∷ [])) ∷ [])) ((str "a") ∷ [])
      ≡ Some (page 1 ([]) (true ∷ []))
