-- Worked documents whose rows merge: the number of items, the notes, and which values the root's entry takes; or the place of the first fault.
use Rattle.std.specs.Prelude.{◌≡◌, ℕ, List, [], ◌∷◌, length, map, Bool, true, false, Option, Some, None, option_map, codes}
use Prim.Native.String.{String}
use Rattle.json_value.specs.Value.{Value, null}
use Rattle.schema_defs.specs.declared.Setting.{Setting}
use Rattle.schema_defs.specs.declared.Setting.TheVariants.{Strict, NullAbsent}
use Rattle.schema_defs.specs.Location.{Location, location_text}
use Rattle.schema_defs.specs.Schema.{Document}
use Rattle.schema_defs.specs.Read.{document_of}
use Rattle.schema_defs.specs.Build.{◌≔◌, str, num, yes, no, obj, arr, sample}
use Rattle.entry_defs.specs.Entry.{Entry, item, struct_shape, enum_shape, fields_of, variants_of}
use Rattle.entry_defs.specs.Table.{items_of, root_of}
use Rattle.convert_defs.specs.Row.{Way, narrowed, widened, const_note, integer_note, untyped_note, array_note, counts_note, open_branch_note}
use Rattle.convert_defs.specs.Worked.{verdicts_of}
use Rattle.convert_walks.specs.Tree.{table_of}
use Rattle.convert_walks.specs.Told.{NoteName, row_note, absent_note, clash_note, members_note, reference_note, subtract_note, Reason, too_deep, notes_of, faults_of}

pub data Answer : Type 0 where
  page_of : ℕ → List (Way × NoteName × List ℕ) → List Bool → Answer
  deep_at : List ℕ → Answer
  refused_at : List ℕ → Answer

abbrev pub page : ℕ → List (Way × NoteName × List ℕ) → List Bool → Answer
page = page_of

abbrev pub deep : String → Answer
deep l = deep_at (codes l)

abbrev pub refused : String → Answer
refused l = refused_at (codes l)

-- no example needs more levels
abbrev pub levels : ℕ
levels = 24

abbrev pub fault_at : List ℕ → Reason → Answer
fault_at l (too_deep w) = deep_at l
fault_at l _ = refused_at l

abbrev pub answer_of : ℕ → Document → List Value → List (Location × Reason) → Answer
answer_of most d vs [] =
    page_of (length (items_of (table_of sample d most levels))) (map (λ m. (m.way, m.name, location_text m.place)) (notes_of sample d most levels)) (verdicts_of (table_of sample d most levels) vs)
answer_of most d vs (f ∷ fs) = fault_at (location_text f.0) f.1

abbrev pub answered_under : Setting → ℕ → Value → List Value → Option Answer
answered_under setting most s vs = option_map (λ d. answer_of most d vs (faults_of sample d most levels)) (document_of setting s)

pub record FirstMergePages : Type 0 where
  pub row_16a : answered_under Strict 8 (obj ("allOf" ≔ (arr ((obj ("$ref" ≔ (str "#/definitions/A") ∷ [])) ∷ (obj ("$ref" ≔ (str "#/definitions/B") ∷ [])) ∷ [])) ∷ "definitions" ≔ (obj ("A" ≔ (obj ("properties" ≔ (obj ("next" ≔ (obj ("$ref" ≔ (str "#/definitions/A") ∷ [])) ∷ [])) ∷ "type" ≔ (str "object") ∷ [])) ∷ "B" ≔ (obj ("properties" ≔ (obj ("next" ≔ (obj ("$ref" ≔ (str "#/definitions/B") ∷ [])) ∷ [])) ∷ "type" ≔ (str "object") ∷ [])) ∷ [])) ∷ [])) ([]) ≡ Some (deep "#/definitions/A/properties/next")
  pub row_21k : answered_under Strict 8 (obj ("if" ≔ yes ∷ [])) ([]) ≡ Some (refused "#")
  pub h1 : answered_under Strict 1 (obj ("allOf" ≔ (arr ((obj ("$ref" ≔ (str "#/definitions/A") ∷ [])) ∷ (obj ("$ref" ≔ (str "#/definitions/B") ∷ [])) ∷ [])) ∷ "definitions" ≔ (obj ("A" ≔ (obj ("properties" ≔ (obj ("next" ≔ (obj ("$ref" ≔ (str "#/definitions/A") ∷ [])) ∷ [])) ∷ "type" ≔ (str "object") ∷ [])) ∷ "B" ≔ (obj ("properties" ≔ (obj ("next" ≔ (obj ("$ref" ≔ (str "#/definitions/B") ∷ [])) ∷ [])) ∷ "type" ≔ (str "object") ∷ [])) ∷ [])) ∷ [])) ([]) ≡ Some (deep "#/definitions/A")
  pub h2a : answered_under Strict 8 (obj ("allOf" ≔ (arr ((obj ("$ref" ≔ (str "#/definitions/A") ∷ [])) ∷ (obj ("type" ≔ (str "object") ∷ [])) ∷ [])) ∷ "definitions" ≔ (obj ("A" ≔ (obj ("properties" ≔ (obj ("next" ≔ (obj ("$ref" ≔ (str "#/definitions/A") ∷ [])) ∷ [])) ∷ "type" ≔ (str "object") ∷ [])) ∷ [])) ∷ [])) ((obj ("next" ≔ (obj ([])) ∷ [])) ∷ []) ≡ Some (page 1 ([]) (true ∷ []))
  pub h2b : answered_under Strict 1 (obj ("allOf" ≔ (arr ((obj ("$ref" ≔ (str "#/definitions/A") ∷ [])) ∷ (obj ("type" ≔ (str "object") ∷ [])) ∷ [])) ∷ "definitions" ≔ (obj ("A" ≔ (obj ("properties" ≔ (obj ("next" ≔ (obj ("$ref" ≔ (str "#/definitions/A") ∷ [])) ∷ [])) ∷ "type" ≔ (str "object") ∷ [])) ∷ [])) ∷ [])) ((obj ("next" ≔ (obj ([])) ∷ [])) ∷ []) ≡ Some (deep "#/definitions/A")
  pub h3 : answered_under Strict 8 (obj ("allOf" ≔ (arr ((obj ("$ref" ≔ (str "#/definitions/A") ∷ [])) ∷ (obj ("properties" ≔ (obj ("id" ≔ (obj ("type" ≔ (str "integer") ∷ [])) ∷ [])) ∷ "type" ≔ (str "object") ∷ [])) ∷ [])) ∷ "definitions" ≔ (obj ("A" ≔ (obj ("properties" ≔ (obj ("next" ≔ (obj ("$ref" ≔ (str "#/definitions/A") ∷ [])) ∷ [])) ∷ "type" ≔ (str "object") ∷ [])) ∷ [])) ∷ [])) ((obj ("id" ≔ (num 1) ∷ "next" ≔ (obj ("next" ≔ (obj ([])) ∷ [])) ∷ [])) ∷ (obj ("id" ≔ (str "x") ∷ [])) ∷ []) ≡ Some (page 2 ([]) (true ∷ false ∷ []))
  pub h4 : answered_under Strict 8 (obj ("allOf" ≔ (arr ((obj ("$ref" ≔ (str "#/definitions/A") ∷ [])) ∷ (obj ("$ref" ≔ (str "#/definitions/B") ∷ [])) ∷ [])) ∷ "definitions" ≔ (obj ("A" ≔ (obj ("properties" ≔ (obj ("next" ≔ (obj ("$ref" ≔ (str "#/definitions/A") ∷ [])) ∷ [])) ∷ "type" ≔ (str "object") ∷ [])) ∷ "B" ≔ (obj ("properties" ≔ (obj ("next" ≔ (obj ("type" ≔ (str "object") ∷ [])) ∷ [])) ∷ "type" ≔ (str "object") ∷ [])) ∷ [])) ∷ [])) ((obj ("next" ≔ (obj ("next" ≔ (obj ([])) ∷ [])) ∷ [])) ∷ (obj ("next" ≔ (num 1) ∷ [])) ∷ []) ≡ Some (page 2 ([]) (true ∷ false ∷ []))

pub record MergePages : Type 0 where
  pub row_same_type_list_at_reference : answered_under Strict 8 (obj ("$ref" ≔ (str "#/definitions/A") ∷ "definitions" ≔ (obj ("A" ≔ (obj ("type" ≔ (arr ((str "integer") ∷ (str "string") ∷ [])) ∷ [])) ∷ [])) ∷ "type" ≔ (arr ((str "string") ∷ (str "integer") ∷ [])) ∷ [])) ((str "a") ∷ (num 1) ∷ []) ≡ Some (page 2 ([]) (true ∷ true ∷ []))
  pub external_content_by_a_merge : answered_under Strict 8 (obj ("oneOf" ≔ (arr ((obj ("type" ≔ (str "string") ∷ [])) ∷ (obj ("allOf" ≔ (arr ((obj ("properties" ≔ (obj ("a" ≔ (obj ("type" ≔ (str "integer") ∷ [])) ∷ [])) ∷ "type" ≔ (str "object") ∷ [])) ∷ (obj ("properties" ≔ (obj ("b" ≔ (obj ("type" ≔ (str "integer") ∷ [])) ∷ [])) ∷ "type" ≔ (str "object") ∷ [])) ∷ [])) ∷ [])) ∷ [])) ∷ [])) ((obj ("a" ≔ (num 1) ∷ [])) ∷ (obj ("a" ≔ (str "x") ∷ [])) ∷ []) ≡ Some (page 1 ([]) (true ∷ false ∷ []))
  pub path_of_a_property_taken_over : answered_under Strict 8 (obj ("allOf" ≔ (arr ((obj ("properties" ≔ (obj ("p" ≔ (obj ("maximum" ≔ (num 5) ∷ "type" ≔ (str "integer") ∷ [])) ∷ [])) ∷ "type" ≔ (str "object") ∷ [])) ∷ (obj ("properties" ≔ (obj ("q" ≔ (obj ("type" ≔ (str "string") ∷ [])) ∷ [])) ∷ "type" ≔ (str "object") ∷ [])) ∷ [])) ∷ [])) ((obj ("p" ≔ (num 6) ∷ [])) ∷ []) ≡ Some (page 1 ((widened, row_note integer_note, codes "#/allOf/0/properties/p") ∷ []) (true ∷ []))
  pub path_of_a_property_of_both : answered_under Strict 8 (obj ("allOf" ≔ (arr ((obj ("properties" ≔ (obj ("p" ≔ (obj ("maximum" ≔ (num 5) ∷ "type" ≔ (str "integer") ∷ [])) ∷ [])) ∷ "type" ≔ (str "object") ∷ [])) ∷ (obj ("properties" ≔ (obj ("p" ≔ (obj ("maximum" ≔ (num 7) ∷ "type" ≔ (str "integer") ∷ [])) ∷ [])) ∷ "type" ≔ (str "object") ∷ [])) ∷ [])) ∷ [])) ((obj ("p" ≔ (num 6) ∷ [])) ∷ []) ≡ Some (page 1 ((widened, row_note integer_note, codes "#") ∷ []) (true ∷ []))
  pub types_before_formats : answered_under Strict 8 (obj ("allOf" ≔ (arr ((obj ("format" ≔ (str "uuid") ∷ "type" ≔ (str "string") ∷ [])) ∷ (obj ("format" ≔ (str "int8") ∷ "type" ≔ (str "integer") ∷ [])) ∷ [])) ∷ [])) ([]) ≡ Some (page 1 ([]) ([]))
  pub types_before_unsupported : answered_under Strict 8 (obj ("allOf" ≔ (arr ((obj ("type" ≔ (str "string") ∷ [])) ∷ (obj ("anyOf" ≔ (arr ((obj ("type" ≔ (str "integer") ∷ [])) ∷ [])) ∷ "oneOf" ≔ (arr ((obj ("type" ≔ (str "integer") ∷ [])) ∷ [])) ∷ "type" ≔ (str "integer") ∷ [])) ∷ [])) ∷ [])) ([]) ≡ Some (refused "#")
  pub names_before_types : answered_under Strict 8 (obj ("allOf" ≔ (arr ((obj ("propertyNames" ≔ (obj ([])) ∷ "type" ≔ (str "string") ∷ [])) ∷ (obj ("properties" ≔ (obj ("a" ≔ (obj ("type" ≔ (str "integer") ∷ [])) ∷ [])) ∷ "type" ≔ (str "integer") ∷ [])) ∷ [])) ∷ [])) ([]) ≡ Some (refused "#")
  pub false_with_unsupported : answered_under Strict 8 (obj ("allOf" ≔ (arr (no ∷ (obj ("anyOf" ≔ (arr ((obj ("type" ≔ (str "integer") ∷ [])) ∷ [])) ∷ "oneOf" ≔ (arr ((obj ("type" ≔ (str "integer") ∷ [])) ∷ [])) ∷ [])) ∷ [])) ∷ [])) ([]) ≡ Some (page 1 ([]) ([]))
  pub true_with_a_default : answered_under Strict 8 (obj ("allOf" ≔ (arr ((obj ("properties" ≔ (obj ("p" ≔ yes ∷ [])) ∷ "type" ≔ (str "object") ∷ [])) ∷ (obj ("properties" ≔ (obj ("p" ≔ (obj ("default" ≔ (num 7) ∷ "type" ≔ (str "integer") ∷ [])) ∷ [])) ∷ "type" ≔ (str "object") ∷ [])) ∷ [])) ∷ [])) ((obj ([])) ∷ []) ≡ Some (page 1 ([]) (true ∷ []))
  pub of_both_drops_a_default : answered_under Strict 8 (obj ("allOf" ≔ (arr ((obj ("properties" ≔ (obj ("p" ≔ (obj ("type" ≔ (str "integer") ∷ [])) ∷ [])) ∷ "type" ≔ (str "object") ∷ [])) ∷ (obj ("properties" ≔ (obj ("p" ≔ (obj ("default" ≔ (num 7) ∷ "type" ≔ (str "integer") ∷ [])) ∷ [])) ∷ "type" ≔ (str "object") ∷ [])) ∷ [])) ∷ [])) ((obj ([])) ∷ []) ≡ Some (page 1 ([]) (true ∷ []))
  pub roughly_the_target : answered_under Strict 8 (obj ("allOf" ≔ (arr ((obj ("$ref" ≔ (str "#/definitions/A") ∷ [])) ∷ (obj ("minItems" ≔ (num 1) ∷ [])) ∷ [])) ∷ "definitions" ≔ (obj ("A" ≔ (obj ("items" ≔ (obj ("type" ≔ (str "integer") ∷ [])) ∷ "type" ≔ (str "array") ∷ [])) ∷ [])) ∷ [])) ((arr ([])) ∷ (arr ((num 1) ∷ [])) ∷ []) ≡ Some (page 1 ((widened, reference_note, codes "#") ∷ []) (true ∷ true ∷ []))
  pub array_keywords_of_one_side : answered_under Strict 8 (obj ("allOf" ≔ (arr ((obj ("$ref" ≔ (str "#/definitions/A") ∷ [])) ∷ (obj ("type" ≔ (str "array") ∷ [])) ∷ [])) ∷ "definitions" ≔ (obj ("A" ≔ (obj ("items" ≔ (obj ("type" ≔ (str "integer") ∷ [])) ∷ "type" ≔ (str "array") ∷ [])) ∷ [])) ∷ [])) ((arr ((num 1) ∷ [])) ∷ []) ≡ Some (page 1 ([]) (true ∷ []))
  pub siblings_of_a_reference : answered_under Strict 8 (obj ("allOf" ≔ (arr ((obj ("$ref" ≔ (str "#/definitions/A") ∷ "minLength" ≔ (num 2) ∷ [])) ∷ (obj ("type" ≔ (str "string") ∷ [])) ∷ [])) ∷ "definitions" ≔ (obj ("A" ≔ (obj ("type" ≔ (str "string") ∷ [])) ∷ [])) ∷ [])) ((str "a") ∷ []) ≡ Some (page 1 ((widened, reference_note, codes "#") ∷ []) (true ∷ []))
  pub equal_references_with_siblings : answered_under Strict 8 (obj ("allOf" ≔ (arr ((obj ("$ref" ≔ (str "#/definitions/A") ∷ "minLength" ≔ (num 2) ∷ [])) ∷ (obj ("$ref" ≔ (str "#/definitions/A") ∷ [])) ∷ [])) ∷ "definitions" ≔ (obj ("A" ≔ (obj ("type" ≔ (str "string") ∷ [])) ∷ [])) ∷ [])) ((str "a") ∷ []) ≡ Some (page 1 ((widened, reference_note, codes "#") ∷ []) (true ∷ []))
  pub required_false : answered_under Strict 8 (obj ("allOf" ≔ (arr ((obj ("properties" ≔ (obj ("a" ≔ (obj ("type" ≔ (str "integer") ∷ [])) ∷ [])) ∷ "required" ≔ (arr ((str "a") ∷ [])) ∷ [])) ∷ (obj ("additionalProperties" ≔ no ∷ [])) ∷ [])) ∷ [])) ((obj ([])) ∷ (num 1) ∷ []) ≡ Some (page 1 ((narrowed, clash_note, codes "#") ∷ []) (false ∷ false ∷ []))

pub record FurtherMergePages : Type 0 where
  pub required_false_with_type : answered_under Strict 8 (obj ("allOf" ≔ (arr ((obj ("properties" ≔ (obj ("a" ≔ (obj ("type" ≔ (str "integer") ∷ [])) ∷ [])) ∷ "required" ≔ (arr ((str "a") ∷ [])) ∷ "type" ≔ (str "object") ∷ [])) ∷ (obj ("additionalProperties" ≔ no ∷ [])) ∷ [])) ∷ [])) ((obj ([])) ∷ []) ≡ Some (page 1 ([]) (false ∷ []))
  pub property_beside_additional : answered_under Strict 8 (obj ("allOf" ≔ (arr ((obj ("properties" ≔ (obj ("a" ≔ (obj ("minimum" ≔ (num 0) ∷ "type" ≔ (str "integer") ∷ [])) ∷ [])) ∷ "type" ≔ (str "object") ∷ [])) ∷ (obj ("additionalProperties" ≔ (obj ("maximum" ≔ (num 127) ∷ "type" ≔ (str "integer") ∷ [])) ∷ "type" ≔ (str "object") ∷ [])) ∷ [])) ∷ [])) ((obj ("a" ≔ (num 5) ∷ [])) ∷ (obj ("a" ≔ (num 200) ∷ [])) ∷ (obj ("b" ≔ (num 200) ∷ [])) ∷ []) ≡ Some (page 1 ((widened, row_note integer_note, codes "#") ∷ (narrowed, row_note integer_note, codes "#/allOf/1/additionalProperties") ∷ []) (true ∷ true ∷ false ∷ []))
  pub one_item_never : answered_under Strict 8 (obj ("allOf" ≔ (arr ((obj ("items" ≔ (obj ("type" ≔ (str "integer") ∷ [])) ∷ "type" ≔ (str "array") ∷ [])) ∷ (obj ("items" ≔ (obj ("type" ≔ (str "string") ∷ [])) ∷ [])) ∷ [])) ∷ [])) ((arr ([])) ∷ (arr ((num 1) ∷ [])) ∷ []) ≡ Some (page 1 ((narrowed, clash_note, codes "#") ∷ []) (false ∷ false ∷ []))
  pub list_cut_by_never : answered_under Strict 8 (obj ("allOf" ≔ (arr ((obj ("items" ≔ (arr ((obj ("type" ≔ (str "integer") ∷ [])) ∷ (obj ("type" ≔ (str "string") ∷ [])) ∷ [])) ∷ "minItems" ≔ (num 1) ∷ "type" ≔ (str "array") ∷ [])) ∷ (obj ("items" ≔ (arr ((obj ("type" ≔ (str "integer") ∷ [])) ∷ (obj ("type" ≔ (str "integer") ∷ [])) ∷ [])) ∷ [])) ∷ [])) ∷ [])) ((arr ((num 1) ∷ [])) ∷ []) ≡ Some (page 0 ([]) (true ∷ []))
  pub not_with_required : answered_under Strict 8 (obj ("not" ≔ (obj ("required" ≔ (arr ((str "a") ∷ [])) ∷ [])) ∷ "properties" ≔ (obj ("a" ≔ (obj ("type" ≔ (str "integer") ∷ [])) ∷ "b" ≔ (obj ("type" ≔ (str "integer") ∷ [])) ∷ [])) ∷ "type" ≔ (str "object") ∷ [])) ((obj ("a" ≔ (num 1) ∷ [])) ∷ (obj ("b" ≔ (num 1) ∷ [])) ∷ []) ≡ Some (page 2 ([]) (false ∷ true ∷ []))
  pub not_with_two_required : answered_under Strict 8 (obj ("not" ≔ (obj ("required" ≔ (arr ((str "a") ∷ (str "b") ∷ [])) ∷ [])) ∷ "properties" ≔ (obj ("a" ≔ (obj ("type" ≔ (str "integer") ∷ [])) ∷ [])) ∷ "type" ≔ (str "object") ∷ [])) ((obj ("a" ≔ (num 1) ∷ [])) ∷ []) ≡ Some (page 3 ((narrowed, subtract_note, codes "#") ∷ (widened, subtract_note, codes "#") ∷ []) (false ∷ []))
  pub not_of_a_reference_that_meets : answered_under Strict 8 (obj ("definitions" ≔ (obj ("A" ≔ (obj ("enum" ≔ (arr ((str "a") ∷ [])) ∷ "type" ≔ (str "string") ∷ [])) ∷ [])) ∷ "minLength" ≔ (num 1) ∷ "not" ≔ (obj ("$ref" ≔ (str "#/definitions/A") ∷ [])) ∷ "type" ≔ (str "string") ∷ [])) ((str "a") ∷ []) ≡ Some (page 2 ((narrowed, subtract_note, codes "#") ∷ (widened, subtract_note, codes "#") ∷ []) (true ∷ []))
  pub anyof_with_a_body : answered_under Strict 8 (obj ("anyOf" ≔ (arr ((obj ("required" ≔ (arr ((str "a") ∷ [])) ∷ [])) ∷ (obj ("required" ≔ (arr ((str "b") ∷ [])) ∷ [])) ∷ [])) ∷ "properties" ≔ (obj ("id" ≔ (obj ("type" ≔ (str "integer") ∷ [])) ∷ [])) ∷ "type" ≔ (str "object") ∷ [])) ((obj ("a" ≔ (num 1) ∷ [])) ∷ (obj ("a" ≔ (num 1) ∷ "b" ≔ (num 1) ∷ [])) ∷ (obj ([])) ∷ []) ≡ Some (page 3 ((narrowed, members_note, codes "#") ∷ []) (true ∷ false ∷ false ∷ []))
  pub anyof_answered_as_body : answered_under Strict 8 (obj ("anyOf" ≔ (arr ((obj ("type" ≔ (str "string") ∷ [])) ∷ (obj ("minLength" ≔ (num 1) ∷ [])) ∷ [])) ∷ "minLength" ≔ (num 1) ∷ "type" ≔ (str "string") ∷ [])) ((str "a") ∷ (str "") ∷ []) ≡ Some (page 3 ([]) (true ∷ false ∷ []))
  pub left_subschemas_first : answered_under Strict 8 (obj ("allOf" ≔ (arr ((obj ("anyOf" ≔ (arr ((obj ("type" ≔ (str "string") ∷ [])) ∷ (obj ("type" ≔ (str "integer") ∷ [])) ∷ [])) ∷ [])) ∷ (obj ("oneOf" ≔ (arr ((obj ("type" ≔ (str "string") ∷ [])) ∷ (obj ("type" ≔ (str "null") ∷ [])) ∷ [])) ∷ [])) ∷ [])) ∷ [])) ((str "a") ∷ (num 1) ∷ null ∷ []) ≡ Some (page 0 ([]) (true ∷ false ∷ false ∷ []))
  pub enum_with_const : answered_under Strict 8 (obj ("allOf" ≔ (arr ((obj ("const" ≔ (str "c") ∷ "enum" ≔ (arr ((str "a") ∷ (str "b") ∷ [])) ∷ [])) ∷ (obj ("type" ≔ (str "string") ∷ [])) ∷ [])) ∷ [])) ((str "a") ∷ (str "c") ∷ []) ≡ Some (page 1 ([]) (false ∷ false ∷ []))
  pub multiples_past_u64 : answered_under Strict 8 (obj ("allOf" ≔ (arr ((obj ("multipleOf" ≔ (num 4611686018427387904) ∷ "type" ≔ (str "integer") ∷ [])) ∷ (obj ("multipleOf" ≔ (num 3) ∷ [])) ∷ (obj ("multipleOf" ≔ (num 5) ∷ [])) ∷ [])) ∷ [])) ((num 1) ∷ []) ≡ Some (page 0 ((widened, row_note integer_note, codes "#") ∷ []) (true ∷ []))
  pub depth_through_c16 : answered_under Strict 1 (obj ("$ref" ≔ (str "#/definitions/A") ∷ "definitions" ≔ (obj ("A" ≔ (obj ("type" ≔ (str "string") ∷ [])) ∷ [])) ∷ "minLength" ≔ (num 1) ∷ [])) ((str "a") ∷ []) ≡ Some (page 2 ([]) (true ∷ []))
  pub depth_of_two_references : answered_under Strict 2 (obj ("$ref" ≔ (str "#/definitions/A") ∷ "definitions" ≔ (obj ("A" ≔ (obj ("$ref" ≔ (str "#/definitions/B") ∷ "maxLength" ≔ (num 3) ∷ [])) ∷ "B" ≔ (obj ("type" ≔ (str "string") ∷ [])) ∷ [])) ∷ "minLength" ≔ (num 1) ∷ [])) ((str "a") ∷ []) ≡ Some (page 3 ((widened, reference_note, codes "#") ∷ []) (true ∷ []))
  pub depth_ends_a_cycle : answered_under Strict 3 (obj ("allOf" ≔ (arr ((obj ("$ref" ≔ (str "#/definitions/A") ∷ [])) ∷ (obj ("$ref" ≔ (str "#/definitions/B") ∷ [])) ∷ [])) ∷ "definitions" ≔ (obj ("A" ≔ (obj ("properties" ≔ (obj ("n" ≔ (obj ("$ref" ≔ (str "#/definitions/A") ∷ [])) ∷ [])) ∷ "type" ≔ (str "object") ∷ [])) ∷ "B" ≔ (obj ("properties" ≔ (obj ("n" ≔ (obj ("$ref" ≔ (str "#/definitions/B") ∷ [])) ∷ [])) ∷ "type" ≔ (str "object") ∷ [])) ∷ [])) ∷ [])) ([]) ≡ Some (deep "#/definitions/B")

pub record ConstantPages : Type 0 where
  pub l : answered_under Strict 8 (obj ("const" ≔ (str "x") ∷ [])) ((str "x") ∷ (str "y") ∷ (num 1) ∷ []) ≡ Some (page 1 ([]) (true ∷ false ∷ false ∷ []))
  pub m : answered_under Strict 8 (obj ("allOf" ≔ (arr ((obj ("const" ≔ (str "a") ∷ "enum" ≔ (arr ((str "a") ∷ (str "b") ∷ [])) ∷ "type" ≔ (str "string") ∷ [])) ∷ (obj ("type" ≔ (str "string") ∷ [])) ∷ [])) ∷ [])) ((str "a") ∷ (str "b") ∷ []) ≡ Some (page 1 ([]) (true ∷ false ∷ []))
  pub n : answered_under Strict 8 (obj ("const" ≔ (num 5) ∷ "type" ≔ (str "integer") ∷ [])) ((num 5) ∷ (num 6) ∷ []) ≡ Some (page 0 ((widened, row_note const_note, codes "#") ∷ []) (true ∷ true ∷ []))

pub record AbsentPages : Type 0 where
  pub j : answered_under NullAbsent 8 (obj ("properties" ≔ (obj ("s" ≔ (obj ("type" ≔ (str "string") ∷ [])) ∷ [])) ∷ "type" ≔ (str "object") ∷ [])) ((obj ([])) ∷ (obj ("s" ≔ null ∷ [])) ∷ (obj ("s" ≔ (str "x") ∷ [])) ∷ []) ≡ Some (page 1 ([]) (true ∷ true ∷ true ∷ []))
  pub k : answered_under NullAbsent 8 (obj ("allOf" ≔ (arr ((obj ("properties" ≔ (obj ("p" ≔ (obj ("type" ≔ (arr ((str "string") ∷ (str "null") ∷ [])) ∷ [])) ∷ [])) ∷ "required" ≔ (arr ((str "p") ∷ [])) ∷ "type" ≔ (str "object") ∷ [])) ∷ (obj ("properties" ≔ (obj ("p" ≔ (obj ("type" ≔ (str "string") ∷ [])) ∷ [])) ∷ "type" ≔ (str "object") ∷ [])) ∷ [])) ∷ [])) ((obj ("p" ≔ null ∷ [])) ∷ []) ≡ Some (page 1 ((narrowed, absent_note, codes "#") ∷ []) (false ∷ []))
  pub not_with_required_null_absent : answered_under NullAbsent 8 (obj ("not" ≔ (obj ("required" ≔ (arr ((str "a") ∷ [])) ∷ [])) ∷ "properties" ≔ (obj ("a" ≔ (obj ("type" ≔ (str "integer") ∷ [])) ∷ "b" ≔ (obj ("type" ≔ (str "integer") ∷ [])) ∷ [])) ∷ "type" ≔ (str "object") ∷ [])) ((obj ("a" ≔ (num 1) ∷ [])) ∷ (obj ("b" ≔ (num 1) ∷ [])) ∷ (obj ("a" ≔ null ∷ [])) ∷ []) ≡ Some (page 2 ((narrowed, subtract_note, codes "#") ∷ (widened, subtract_note, codes "#") ∷ []) (false ∷ true ∷ true ∷ []))
  pub absent_left_out : answered_under NullAbsent 8 (obj ("allOf" ≔ (arr ((obj ("additionalProperties" ≔ no ∷ "properties" ≔ (obj ("a" ≔ (obj ("type" ≔ (str "integer") ∷ [])) ∷ [])) ∷ "type" ≔ (str "object") ∷ [])) ∷ (obj ("additionalProperties" ≔ no ∷ "properties" ≔ (obj ("a" ≔ (obj ("type" ≔ (str "string") ∷ [])) ∷ [])) ∷ "type" ≔ (str "object") ∷ [])) ∷ [])) ∷ [])) ((obj ([])) ∷ (obj ("a" ≔ null ∷ [])) ∷ []) ≡ Some (page 1 ((narrowed, absent_note, codes "#") ∷ []) (true ∷ false ∷ []))
  pub absent_one_side_alone : answered_under NullAbsent 8 (obj ("allOf" ≔ (arr ((obj ("properties" ≔ (obj ("a" ≔ (obj ("type" ≔ (str "integer") ∷ [])) ∷ [])) ∷ "type" ≔ (str "object") ∷ [])) ∷ (obj ("additionalProperties" ≔ (obj ("type" ≔ (str "integer") ∷ [])) ∷ "properties" ≔ (obj ("b" ≔ (obj ("type" ≔ (str "integer") ∷ [])) ∷ [])) ∷ "type" ≔ (str "object") ∷ [])) ∷ [])) ∷ [])) ((obj ("a" ≔ null ∷ [])) ∷ (obj ("a" ≔ (num 1) ∷ [])) ∷ []) ≡ Some (page 1 ((widened, absent_note, codes "#") ∷ []) (true ∷ true ∷ []))

-- schemas inside one that a merge made or took over
pub record PlacePages : Type 0 where
  pub k0 : answered_under Strict 8 (obj ("allOf" ≔ (arr ((obj ("properties" ≔ (obj ("p" ≔ (obj ("type" ≔ (arr ((str "string") ∷ (str "null") ∷ [])) ∷ [])) ∷ [])) ∷ "required" ≔ (arr ((str "p") ∷ [])) ∷ "type" ≔ (str "object") ∷ [])) ∷ (obj ("properties" ≔ (obj ("p" ≔ (obj ("type" ≔ (str "string") ∷ [])) ∷ [])) ∷ "type" ≔ (str "object") ∷ [])) ∷ [])) ∷ [])) ((obj ("p" ≔ null ∷ [])) ∷ []) ≡ Some (page 1 ([]) (false ∷ []))
  pub inside_a_member : answered_under Strict 8 (obj ("anyOf" ≔ (arr ((obj ("minProperties" ≔ (num 1) ∷ "properties" ≔ (obj ("p" ≔ (obj ("maximum" ≔ (num 5) ∷ "type" ≔ (str "integer") ∷ [])) ∷ [])) ∷ "type" ≔ (str "object") ∷ [])) ∷ [])) ∷ "minProperties" ≔ (num 1) ∷ [])) ([]) ≡ Some (page 1 ((widened, row_note counts_note, codes "#") ∷ (widened, row_note integer_note, codes "#/anyOf/0/properties/p") ∷ []) ([]))
  pub inside_a_body : answered_under Strict 8 (obj ("anyOf" ≔ (arr ((obj ("type" ≔ (str "object") ∷ [])) ∷ [])) ∷ "properties" ≔ (obj ("p" ≔ (obj ("maximum" ≔ (num 5) ∷ "type" ≔ (str "integer") ∷ [])) ∷ [])) ∷ "type" ≔ (str "object") ∷ [])) ([]) ≡ Some (page 1 ((widened, row_note integer_note, codes "#/properties/p") ∷ []) ([]))
  pub beside_true : answered_under Strict 8 (obj ("allOf" ≔ (arr (yes ∷ (obj ("properties" ≔ (obj ("p" ≔ (obj ("maximum" ≔ (num 5) ∷ "type" ≔ (str "integer") ∷ [])) ∷ [])) ∷ "type" ≔ (str "object") ∷ [])) ∷ [])) ∷ [])) ([]) ≡ Some (page 1 ((widened, row_note integer_note, codes "#/allOf/1/properties/p") ∷ []) ([]))
  pub inside_a_property_of_both : answered_under Strict 8 (obj ("allOf" ≔ (arr ((obj ("properties" ≔ (obj ("p" ≔ (obj ("properties" ≔ (obj ("q" ≔ (obj ("maximum" ≔ (num 5) ∷ "type" ≔ (str "integer") ∷ [])) ∷ [])) ∷ "type" ≔ (str "object") ∷ [])) ∷ [])) ∷ "type" ≔ (str "object") ∷ [])) ∷ (obj ("properties" ≔ (obj ("p" ≔ (obj ("type" ≔ (str "object") ∷ [])) ∷ [])) ∷ "type" ≔ (str "object") ∷ [])) ∷ [])) ∷ [])) ([]) ≡ Some (page 2 ((widened, row_note integer_note, codes "#/allOf/0/properties/p/properties/q") ∷ []) ([]))
  pub merge_in_a_property_taken_over : answered_under Strict 8 (obj ("allOf" ≔ (arr ((obj ("properties" ≔ (obj ("p" ≔ (obj ("allOf" ≔ (arr ((obj ("type" ≔ (str "integer") ∷ [])) ∷ (obj ("maximum" ≔ (num 5) ∷ [])) ∷ [])) ∷ [])) ∷ [])) ∷ "type" ≔ (str "object") ∷ [])) ∷ (obj ("type" ≔ (str "object") ∷ [])) ∷ [])) ∷ [])) ([]) ≡ Some (page 1 ((widened, row_note integer_note, codes "#/allOf/0/properties/p") ∷ []) ([]))
  pub merge_in_a_property_of_both : answered_under Strict 8 (obj ("allOf" ≔ (arr ((obj ("properties" ≔ (obj ("p" ≔ (obj ("allOf" ≔ (arr ((obj ("type" ≔ (str "integer") ∷ [])) ∷ (obj ("maximum" ≔ (num 5) ∷ [])) ∷ [])) ∷ [])) ∷ [])) ∷ "type" ≔ (str "object") ∷ [])) ∷ (obj ("properties" ≔ (obj ("p" ≔ (obj ("minimum" ≔ (num 0) ∷ [])) ∷ [])) ∷ "type" ≔ (str "object") ∷ [])) ∷ [])) ∷ [])) ([]) ≡ Some (page 1 ((widened, row_note integer_note, codes "#") ∷ []) ([]))
  pub branch_taken_over : answered_under Strict 8 (obj ("allOf" ≔ (arr (yes ∷ (obj ("oneOf" ≔ (arr ((obj ("properties" ≔ (obj ("A" ≔ (obj ("type" ≔ (str "integer") ∷ [])) ∷ [])) ∷ "required" ≔ (arr ((str "A") ∷ [])) ∷ "type" ≔ (str "object") ∷ [])) ∷ (obj ("enum" ≔ (arr ((str "B") ∷ [])) ∷ "type" ≔ (str "string") ∷ [])) ∷ [])) ∷ [])) ∷ [])) ∷ [])) ((obj ("A" ≔ (num 1) ∷ [])) ∷ (str "B") ∷ []) ≡ Some (page 1 ((narrowed, row_note open_branch_note, codes "#/allOf/1/oneOf/0") ∷ []) (true ∷ true ∷ []))
  pub lone_member : answered_under Strict 8 (obj ("allOf" ≔ (arr ((obj ("allOf" ≔ (arr ((obj ("type" ≔ (str "integer") ∷ [])) ∷ (obj ("maximum" ≔ (num 5) ∷ [])) ∷ [])) ∷ [])) ∷ [])) ∷ [])) ((num 6) ∷ []) ≡ Some (page 0 ((widened, row_note integer_note, codes "#/allOf/0") ∷ []) (true ∷ []))
  pub constant_beside_any_of : answered_under Strict 8 (obj ("anyOf" ≔ (arr ((obj ("type" ≔ (str "string") ∷ [])) ∷ (obj ("type" ≔ (str "integer") ∷ [])) ∷ [])) ∷ "const" ≔ (str "a") ∷ [])) ((str "a") ∷ (str "b") ∷ (num 1) ∷ []) ≡ Some (page 3 ([]) (true ∷ false ∷ false ∷ []))
  pub beside_what_is_taken_away : answered_under Strict 8 (obj ("not" ≔ (obj ("required" ≔ (arr ((str "b") ∷ [])) ∷ [])) ∷ "properties" ≔ (obj ("a" ≔ (obj ("maximum" ≔ (num 5) ∷ "type" ≔ (str "integer") ∷ [])) ∷ "b" ≔ (obj ("type" ≔ (str "integer") ∷ [])) ∷ [])) ∷ "type" ≔ (str "object") ∷ [])) ((obj ("a" ≔ (num 6) ∷ [])) ∷ (obj ("b" ≔ (num 1) ∷ [])) ∷ []) ≡ Some (page 2 ((widened, row_note integer_note, codes "#/properties/a") ∷ []) (true ∷ false ∷ []))
  pub items_taken_over : answered_under Strict 8 (obj ("allOf" ≔ (arr ((obj ("items" ≔ (obj ("maximum" ≔ (num 5) ∷ "type" ≔ (str "integer") ∷ [])) ∷ "type" ≔ (str "array") ∷ [])) ∷ (obj ("maxItems" ≔ (num 3) ∷ [])) ∷ [])) ∷ [])) ((arr ((num 6) ∷ [])) ∷ []) ≡ Some (page 0 ((widened, row_note array_note, codes "#") ∷ (widened, row_note integer_note, codes "#/allOf/0/items") ∷ []) (true ∷ []))
  pub property_of_a_target : answered_under Strict 8 (obj ("allOf" ≔ (arr ((obj ("$ref" ≔ (str "#/definitions/A") ∷ [])) ∷ (obj ("properties" ≔ (obj ("q" ≔ (obj ("type" ≔ (str "integer") ∷ [])) ∷ [])) ∷ "type" ≔ (str "object") ∷ [])) ∷ [])) ∷ "definitions" ≔ (obj ("A" ≔ (obj ("properties" ≔ (obj ("p" ≔ (obj ("maximum" ≔ (num 5) ∷ "type" ≔ (str "integer") ∷ [])) ∷ [])) ∷ "type" ≔ (str "object") ∷ [])) ∷ [])) ∷ [])) ((obj ("p" ≔ (num 6) ∷ "q" ≔ (num 1) ∷ [])) ∷ []) ≡ Some (page 2 ((widened, row_note integer_note, codes "#/definitions/A/properties/p") ∷ []) (true ∷ []))
  pub refused_in_a_property_taken_over : answered_under Strict 8 (obj ("allOf" ≔ (arr ((obj ("properties" ≔ (obj ("p" ≔ (obj ("allOf" ≔ (arr ((obj ("type" ≔ (str "string") ∷ [])) ∷ (obj ("anyOf" ≔ (arr (yes ∷ [])) ∷ "oneOf" ≔ (arr (yes ∷ [])) ∷ [])) ∷ [])) ∷ [])) ∷ [])) ∷ "type" ≔ (str "object") ∷ [])) ∷ (obj ("type" ≔ (str "object") ∷ [])) ∷ [])) ∷ [])) ([]) ≡ Some (refused "#/allOf/0/properties/p")
  pub refused_in_a_property_of_both : answered_under Strict 8 (obj ("allOf" ≔ (arr ((obj ("properties" ≔ (obj ("p" ≔ (obj ("if" ≔ yes ∷ [])) ∷ [])) ∷ "type" ≔ (str "object") ∷ [])) ∷ (obj ("properties" ≔ (obj ("p" ≔ (obj ("type" ≔ (str "string") ∷ [])) ∷ [])) ∷ "type" ≔ (str "object") ∷ [])) ∷ [])) ∷ [])) ([]) ≡ Some (refused "#")
  pub condition_taken_over : answered_under Strict 8 (obj ("allOf" ≔ (arr ((obj ("properties" ≔ (obj ("p" ≔ (obj ("if" ≔ yes ∷ [])) ∷ [])) ∷ "type" ≔ (str "object") ∷ [])) ∷ (obj ("type" ≔ (str "object") ∷ [])) ∷ [])) ∷ [])) ([]) ≡ Some (refused "#/allOf/0/properties/p")
  pub target_false : answered_under Strict 8 (obj ("$ref" ≔ (str "#/definitions/F") ∷ "definitions" ≔ (obj ("F" ≔ no ∷ [])) ∷ "minLength" ≔ (num 1) ∷ [])) ((str "a") ∷ []) ≡ Some (page 2 ([]) (false ∷ []))
  pub target_true : answered_under Strict 8 (obj ("$ref" ≔ (str "#/definitions/T") ∷ "definitions" ≔ (obj ("T" ≔ yes ∷ [])) ∷ "minLength" ≔ (num 1) ∷ [])) ((str "a") ∷ (num 1) ∷ []) ≡ Some (page 2 ((narrowed, row_note untyped_note, codes "#") ∷ []) (true ∷ false ∷ []))
  pub one_reference_twice : answered_under Strict 8 (obj ("allOf" ≔ (arr ((obj ("$ref" ≔ (str "#/definitions/A") ∷ [])) ∷ (obj ("$ref" ≔ (str "#/definitions/A") ∷ [])) ∷ [])) ∷ "definitions" ≔ (obj ("A" ≔ (obj ("properties" ≔ (obj ("a" ≔ (obj ("type" ≔ (str "integer") ∷ [])) ∷ [])) ∷ "type" ≔ (str "object") ∷ [])) ∷ [])) ∷ [])) ((obj ("a" ≔ (num 1) ∷ [])) ∷ (obj ("a" ≔ (str "x") ∷ [])) ∷ []) ≡ Some (page 1 ([]) (true ∷ false ∷ []))
  pub lists_without_sizes : answered_under Strict 8 (obj ("allOf" ≔ (arr ((obj ("items" ≔ (arr ((obj ("type" ≔ (str "integer") ∷ [])) ∷ [])) ∷ "type" ≔ (str "array") ∷ [])) ∷ (obj ("items" ≔ (arr ((obj ("type" ≔ (str "integer") ∷ [])) ∷ [])) ∷ [])) ∷ [])) ∷ [])) ([]) ≡ Some (refused "#")
  pub list_taken_over : answered_under Strict 8 (obj ("allOf" ≔ (arr ((obj ("properties" ≔ (obj ("p" ≔ (obj ("items" ≔ (arr (yes ∷ [])) ∷ "type" ≔ (str "array") ∷ [])) ∷ [])) ∷ "type" ≔ (str "object") ∷ [])) ∷ (obj ("type" ≔ (str "object") ∷ [])) ∷ [])) ∷ [])) ([]) ≡ Some (refused "#/allOf/0/properties/p")
  pub merge_in_a_definition : answered_under Strict 8 (obj ("$ref" ≔ (str "#/definitions/D") ∷ "definitions" ≔ (obj ("D" ≔ (obj ("allOf" ≔ (arr ((obj ("type" ≔ (str "integer") ∷ [])) ∷ (obj ("maximum" ≔ (num 5) ∷ [])) ∷ [])) ∷ [])) ∷ [])) ∷ [])) ((num 6) ∷ []) ≡ Some (page 1 ((widened, row_note integer_note, codes "#/definitions/D") ∷ []) (true ∷ []))

-- walks that have too many steps
pub record DepthPages : Type 0 where
  pub answered_reference : answered_under Strict 8 (obj ("definitions" ≔ (obj ("B" ≔ (obj ("properties" ≔ (obj ("k" ≔ (obj ("allOf" ≔ (arr ((obj ("$ref" ≔ (str "#/definitions/B") ∷ [])) ∷ (obj ("type" ≔ (str "object") ∷ [])) ∷ [])) ∷ "not" ≔ (obj ([])) ∷ [])) ∷ [])) ∷ [])) ∷ [])) ∷ [])) ([]) ≡ Some (deep "#/definitions/B")
  pub inside_what_is_taken_over : answered_under Strict 2 (obj ("allOf" ≔ (arr ((obj ("properties" ≔ (obj ("p" ≔ (obj ("properties" ≔ (obj ("q" ≔ (obj ("type" ≔ (str "string") ∷ [])) ∷ [])) ∷ "type" ≔ (str "object") ∷ [])) ∷ [])) ∷ "type" ≔ (str "object") ∷ [])) ∷ (obj ("type" ≔ (str "object") ∷ [])) ∷ [])) ∷ [])) ([]) ≡ Some (deep "#/allOf/0/properties/p/properties/q")
  pub root_in_itself : answered_under Strict 8 (obj ("properties" ≔ (obj ("p" ≔ (obj ("$ref" ≔ (str "#") ∷ "minProperties" ≔ (num 1) ∷ [])) ∷ [])) ∷ "type" ≔ (str "object") ∷ [])) ([]) ≡ Some (deep "#/properties/p")
  pub branch : answered_under Strict 0 (obj ("oneOf" ≔ (arr ((obj ("enum" ≔ (arr ((str "a") ∷ [])) ∷ "type" ≔ (str "string") ∷ [])) ∷ (obj ("enum" ≔ (arr ((str "b") ∷ [])) ∷ "type" ≔ (str "string") ∷ [])) ∷ [])) ∷ [])) ([]) ≡ Some (deep "#/oneOf/0")
  pub boolean_in_what_was_made : answered_under Strict 1 (obj ("allOf" ≔ (arr ((obj ("properties" ≔ (obj ("p" ≔ yes ∷ [])) ∷ "type" ≔ (str "object") ∷ [])) ∷ (obj ("type" ≔ (str "object") ∷ [])) ∷ [])) ∷ [])) ((obj ("p" ≔ (num 1) ∷ [])) ∷ []) ≡ Some (page 1 ([]) (true ∷ []))

-- ---- the root's item, with the names of its fields or variants

abbrev pub names_within : Entry → Option (List ℕ × List (List ℕ))
names_within (item l (struct_shape c fs)) = Some (l, map (λ f. f.name) (fields_of fs))
names_within (item l (enum_shape c tag ws)) = Some (l, map (λ w. w.name) (variants_of ws))
names_within e = None

abbrev pub root_names : Value → Option (Option (List ℕ × List (List ℕ)))
root_names s = option_map (λ d. names_within (root_of (table_of sample d 8 levels))) (document_of Strict s)

pub record NamePages : Type 0 where
  pub reference_on_the_right_first : root_names (obj ("allOf" ≔ (arr ((obj ("enum" ≔ (arr ((str "a") ∷ (str "b") ∷ [])) ∷ [])) ∷ (obj ("$ref" ≔ (str "#/definitions/A") ∷ [])) ∷ [])) ∷ "definitions" ≔ (obj ("A" ≔ (obj ("enum" ≔ (arr ((str "b") ∷ (str "a") ∷ (str "c") ∷ [])) ∷ [])) ∷ [])) ∷ [])) ≡ Some (Some (codes "Root", codes "b" ∷ codes "a" ∷ []))
  pub enum_order : root_names (obj ("allOf" ≔ (arr ((obj ("enum" ≔ (arr ((str "a") ∷ (str "b") ∷ [])) ∷ "type" ≔ (str "string") ∷ [])) ∷ (obj ("enum" ≔ (arr ((str "b") ∷ (str "a") ∷ [])) ∷ [])) ∷ [])) ∷ [])) ≡ Some (Some (codes "Root", codes "a" ∷ codes "b" ∷ []))
  pub title_of_the_outer : root_names (obj ("allOf" ≔ (arr ((obj ("properties" ≔ (obj ("a" ≔ (obj ("type" ≔ (str "integer") ∷ [])) ∷ [])) ∷ "title" ≔ (str "One") ∷ "type" ≔ (str "object") ∷ [])) ∷ (obj ("properties" ≔ (obj ("b" ≔ (obj ("type" ≔ (str "integer") ∷ [])) ∷ [])) ∷ "title" ≔ (str "Two") ∷ "type" ≔ (str "object") ∷ [])) ∷ [])) ∷ "title" ≔ (str "Outer") ∷ [])) ≡ Some (Some (codes "Outer", codes "a" ∷ codes "b" ∷ []))
