-- Worked documents: which of the values their entries take, and the notes.
use Rattle.std.specs.Prelude.{◌≡◌, ℕ, List, [], ◌∷◌, map, Bool, true, false, Option, Some, option_map, codes}
use Rattle.json_value.specs.Value.{Value, null}
use Rattle.schema_defs.specs.declared.Setting.{Setting}
use Rattle.schema_defs.specs.declared.Setting.TheVariants.{Strict, NullAbsent}
use Rattle.schema_defs.specs.Location.{location_text}
use Rattle.schema_defs.specs.Schema.{Document}
use Rattle.schema_defs.specs.Read.{document_of}
use Rattle.schema_defs.specs.Build.{◌≔◌, str, num, minus, yes, no, obj, arr, sample}
use Rattle.entry_defs.specs.Table.{Table, root_of}
use Rattle.entry_defs.specs.Takes.{takes}
use Rattle.convert_defs.specs.Row.{Way, narrowed, widened, NoteKind, null_note, const_note, integer_note, string_note, tag_alone_note, names_note, array_note, open_branch_note, overlap_note}
use Rattle.convert_defs.specs.Convert.{table_of, notes_of}

abbrev pub table : Document → Table
table d = table_of sample d 8

abbrev pub verdicts_of : Table → List Value → List Bool
verdicts_of t vs = map (λ v. takes t sample (root_of t) v) vs

abbrev pub verdicts_under : Setting → Value → List Value → Option (List Bool)
verdicts_under setting s vs = option_map (λ d. verdicts_of (table d) vs) (document_of setting s)

abbrev pub verdicts : Value → List Value → Option (List Bool)
verdicts s vs = verdicts_under Strict s vs

abbrev pub noted : Value → Option (List (Way × NoteKind × List ℕ))
noted s = option_map (λ d. map (λ n. (n.way, n.kind, location_text n.place)) (notes_of sample d 8)) (document_of Strict s)

abbrev pub closed_object_schema : Value
closed_object_schema = obj ("additionalProperties" ≔ no ∷ "properties" ≔ (obj ("id" ≔ (obj ("type" ≔ (str "integer") ∷ [])) ∷ "name" ≔ (obj ("type" ≔ (str "string") ∷ [])) ∷ [])) ∷ "required" ≔ (arr ((str "id") ∷ (str "name") ∷ [])) ∷ "type" ≔ (str "object") ∷ [])

abbrev pub true_schema : Value
true_schema = yes

abbrev pub set_schema : Value
set_schema = obj ("items" ≔ (obj ("type" ≔ (str "integer") ∷ [])) ∷ "type" ≔ (str "array") ∷ "uniqueItems" ≔ yes ∷ [])

abbrev pub no_members_schema : Value
no_members_schema = obj ("additionalProperties" ≔ no ∷ "type" ≔ (str "object") ∷ [])

abbrev pub optional_text_schema : Value
optional_text_schema = obj ("properties" ≔ (obj ("s" ≔ (obj ("type" ≔ (str "string") ∷ [])) ∷ [])) ∷ "type" ≔ (str "object") ∷ [])

abbrev pub rest_schema : Value
rest_schema = obj ("additionalProperties" ≔ (obj ("type" ≔ (str "integer") ∷ [])) ∷ "properties" ≔ (obj ("a" ≔ (obj ("type" ≔ (str "boolean") ∷ [])) ∷ [])) ∷ "type" ≔ (str "object") ∷ [])

abbrev pub nullable_schema : Value
nullable_schema = obj ("properties" ≔ (obj ("s" ≔ (obj ("type" ≔ (arr ((str "string") ∷ (str "null") ∷ [])) ∷ [])) ∷ [])) ∷ "required" ≔ (arr ((str "s") ∷ [])) ∷ "type" ≔ (str "object") ∷ [])

abbrev pub pair_schema : Value
pair_schema = obj ("items" ≔ (arr ((obj ("format" ≔ (str "int64") ∷ "type" ≔ (str "integer") ∷ [])) ∷ (obj ("format" ≔ (str "uint8") ∷ "type" ≔ (str "integer") ∷ [])) ∷ [])) ∷ "maxItems" ≔ (num 2) ∷ "minItems" ≔ (num 2) ∷ "type" ≔ (str "array") ∷ [])

abbrev pub word_schema : Value
word_schema = obj ("format" ≔ (str "uint32") ∷ "minimum" ≔ (num 0) ∷ "type" ≔ (str "integer") ∷ [])

abbrev pub nonzero_schema : Value
nonzero_schema = obj ("format" ≔ (str "int8") ∷ "minimum" ≔ (num 1) ∷ "type" ≔ (str "integer") ∷ [])

abbrev pub greatest_schema : Value
greatest_schema = obj ("maximum" ≔ (num 255) ∷ "type" ≔ (str "integer") ∷ [])

abbrev pub ruled_text_schema : Value
ruled_text_schema = obj ("maxLength" ≔ (num 1) ∷ "pattern" ≔ (str "a") ∷ "type" ≔ (str "string") ∷ [])

abbrev pub external_schema : Value
external_schema = obj ("oneOf" ≔ (arr ((obj ("enum" ≔ (arr ((str "Alpha") ∷ [])) ∷ "type" ≔ (str "string") ∷ [])) ∷ (obj ("additionalProperties" ≔ no ∷ "properties" ≔ (obj ("Bravo" ≔ (obj ("additionalProperties" ≔ no ∷ "properties" ≔ (obj ("beeBee" ≔ (obj ("type" ≔ (str "string") ∷ [])) ∷ "fooFoo" ≔ (obj ("type" ≔ (str "string") ∷ [])) ∷ [])) ∷ "required" ≔ (arr ((str "beeBee") ∷ (str "fooFoo") ∷ [])) ∷ "type" ≔ (str "object") ∷ [])) ∷ [])) ∷ "required" ≔ (arr ((str "Bravo") ∷ [])) ∷ "type" ≔ (str "object") ∷ [])) ∷ (obj ("additionalProperties" ≔ no ∷ "properties" ≔ (obj ("Charlie" ≔ (obj ("items" ≔ (obj ("format" ≔ (str "uint32") ∷ "minimum" ≔ (num 0) ∷ "type" ≔ (str "integer") ∷ [])) ∷ "type" ≔ (str "array") ∷ [])) ∷ [])) ∷ "required" ≔ (arr ((str "Charlie") ∷ [])) ∷ "type" ≔ (str "object") ∷ [])) ∷ (obj ("additionalProperties" ≔ no ∷ "properties" ≔ (obj ("Delta" ≔ (obj ("items" ≔ (arr ((obj ("format" ≔ (str "uint32") ∷ "minimum" ≔ (num 0) ∷ "type" ≔ (str "integer") ∷ [])) ∷ (obj ("type" ≔ (str "string") ∷ [])) ∷ [])) ∷ "maxItems" ≔ (num 2) ∷ "minItems" ≔ (num 2) ∷ "type" ≔ (str "array") ∷ [])) ∷ [])) ∷ "required" ≔ (arr ((str "Delta") ∷ [])) ∷ "type" ≔ (str "object") ∷ [])) ∷ (obj ("additionalProperties" ≔ no ∷ "properties" ≔ (obj ("Echo" ≔ (obj ("items" ≔ (arr ((obj ("type" ≔ (arr ((str "string") ∷ (str "null") ∷ [])) ∷ [])) ∷ (obj ("type" ≔ (str "string") ∷ [])) ∷ (obj ("type" ≔ (str "string") ∷ [])) ∷ [])) ∷ "maxItems" ≔ (num 3) ∷ "minItems" ≔ (num 3) ∷ "type" ≔ (str "array") ∷ [])) ∷ [])) ∷ "required" ≔ (arr ((str "Echo") ∷ [])) ∷ "type" ≔ (str "object") ∷ [])) ∷ [])) ∷ [])

abbrev pub open_external_schema : Value
open_external_schema = obj ("oneOf" ≔ (arr ((obj ("properties" ≔ (obj ("A" ≔ (obj ("type" ≔ (str "integer") ∷ [])) ∷ [])) ∷ "required" ≔ (arr ((str "A") ∷ [])) ∷ "type" ≔ (str "object") ∷ [])) ∷ (obj ("enum" ≔ (arr ((str "B") ∷ [])) ∷ "type" ≔ (str "string") ∷ [])) ∷ [])) ∷ [])

abbrev pub adjacent_schema : Value
adjacent_schema = obj ("oneOf" ≔ (arr ((obj ("additionalProperties" ≔ no ∷ "properties" ≔ (obj ("c" ≔ (obj ("type" ≔ (str "integer") ∷ [])) ∷ "t" ≔ (obj ("enum" ≔ (arr ((str "k") ∷ [])) ∷ "type" ≔ (str "string") ∷ [])) ∷ [])) ∷ "required" ≔ (arr ((str "t") ∷ (str "c") ∷ [])) ∷ "type" ≔ (str "object") ∷ [])) ∷ (obj ("additionalProperties" ≔ no ∷ "properties" ≔ (obj ("c" ≔ (obj ("format" ≔ (str "uint8") ∷ "type" ≔ (str "integer") ∷ [])) ∷ "t" ≔ (obj ("enum" ≔ (arr ((str "k") ∷ [])) ∷ "type" ≔ (str "string") ∷ [])) ∷ [])) ∷ "required" ≔ (arr ((str "t") ∷ (str "c") ∷ [])) ∷ "type" ≔ (str "object") ∷ [])) ∷ [])) ∷ [])

abbrev pub internal_schema : Value
internal_schema = obj ("oneOf" ≔ (arr ((obj ("additionalProperties" ≔ no ∷ "properties" ≔ (obj ("k" ≔ (obj ("enum" ≔ (arr ((str "a") ∷ [])) ∷ "type" ≔ (str "string") ∷ [])) ∷ [])) ∷ "required" ≔ (arr ((str "k") ∷ [])) ∷ "type" ≔ (str "object") ∷ [])) ∷ (obj ("additionalProperties" ≔ no ∷ "properties" ≔ (obj ("k" ≔ (obj ("enum" ≔ (arr ((str "b") ∷ [])) ∷ "type" ≔ (str "string") ∷ [])) ∷ [])) ∷ "required" ≔ (arr ((str "k") ∷ [])) ∷ "type" ≔ (str "object") ∷ [])) ∷ [])) ∷ [])

abbrev pub branches_schema : Value
branches_schema = obj ("definitions" ≔ (obj ("team" ≔ (obj ("type" ≔ (str "string") ∷ [])) ∷ "user" ≔ (obj ("type" ≔ (str "string") ∷ [])) ∷ [])) ∷ "oneOf" ≔ (arr ((obj ("additionalProperties" ≔ no ∷ "properties" ≔ (obj ("action" ≔ (obj ("enum" ≔ (arr ((str "r") ∷ [])) ∷ "type" ≔ (str "string") ∷ [])) ∷ "organization" ≔ (obj ("$ref" ≔ (str "#/definitions/user") ∷ [])) ∷ "requested_reviewer" ≔ (obj ("$ref" ≔ (str "#/definitions/user") ∷ [])) ∷ [])) ∷ "required" ≔ (arr ((str "action") ∷ (str "requested_reviewer") ∷ [])) ∷ "type" ≔ (str "object") ∷ [])) ∷ (obj ("additionalProperties" ≔ no ∷ "properties" ≔ (obj ("action" ≔ (obj ("enum" ≔ (arr ((str "r") ∷ [])) ∷ "type" ≔ (str "string") ∷ [])) ∷ "organization" ≔ (obj ("$ref" ≔ (str "#/definitions/user") ∷ [])) ∷ "requested_team" ≔ (obj ("$ref" ≔ (str "#/definitions/team") ∷ [])) ∷ [])) ∷ "required" ≔ (arr ((str "action") ∷ (str "requested_team") ∷ [])) ∷ "type" ≔ (str "object") ∷ [])) ∷ [])) ∷ [])

abbrev pub recursive_schema : Value
recursive_schema = obj ("$ref" ≔ (str "#/definitions/A") ∷ "definitions" ≔ (obj ("A" ≔ (obj ("properties" ≔ (obj ("next" ≔ (obj ("$ref" ≔ (str "#/definitions/A") ∷ [])) ∷ [])) ∷ "type" ≔ (str "object") ∷ [])) ∷ [])) ∷ [])

abbrev pub renamed_schema : Value
renamed_schema = obj ("definitions" ≔ (obj ("PhantomData" ≔ (obj ("type" ≔ (str "string") ∷ [])) ∷ "X" ≔ (obj ("$ref" ≔ (str "#/definitions/PhantomData") ∷ [])) ∷ "i64" ≔ (obj ("type" ≔ (str "integer") ∷ [])) ∷ [])) ∷ "properties" ≔ (obj ("a b" ≔ (obj ("$ref" ≔ (str "#/definitions/X") ∷ [])) ∷ "type" ≔ (obj ("$ref" ≔ (str "#/definitions/i64") ∷ [])) ∷ [])) ∷ "required" ≔ (arr ((str "type") ∷ (str "a b") ∷ [])) ∷ "type" ≔ (str "object") ∷ [])

abbrev pub config_schema : Value
config_schema = obj ("$schema" ≔ (str "http://json-schema.org/draft-07/schema#") ∷ "definitions" ≔ (obj ("Job" ≔ (obj ("oneOf" ≔ (arr ((obj ("properties" ≔ (obj ("kind" ≔ (obj ("enum" ≔ (arr ((str "idle") ∷ [])) ∷ "type" ≔ (str "string") ∷ [])) ∷ [])) ∷ "required" ≔ (arr ((str "kind") ∷ [])) ∷ "type" ≔ (str "object") ∷ [])) ∷ (obj ("properties" ≔ (obj ("from" ≔ (obj ("type" ≔ (str "string") ∷ [])) ∷ "kind" ≔ (obj ("enum" ≔ (arr ((str "copy") ∷ [])) ∷ "type" ≔ (str "string") ∷ [])) ∷ "to" ≔ (obj ("type" ≔ (str "string") ∷ [])) ∷ [])) ∷ "required" ≔ (arr ((str "from") ∷ (str "kind") ∷ (str "to") ∷ [])) ∷ "type" ≔ (str "object") ∷ [])) ∷ [])) ∷ [])) ∷ "Owner" ≔ (obj ("properties" ≔ (obj ("id" ≔ (obj ("format" ≔ (str "uuid") ∷ "type" ≔ (str "string") ∷ [])) ∷ [])) ∷ "required" ≔ (arr ((str "id") ∷ [])) ∷ "type" ≔ (str "object") ∷ [])) ∷ [])) ∷ "properties" ≔ (obj ("jobs" ≔ (obj ("items" ≔ (obj ("$ref" ≔ (str "#/definitions/Job") ∷ [])) ∷ "type" ≔ (str "array") ∷ [])) ∷ "limit" ≔ (obj ("description" ≔ (str "at most") ∷ "format" ≔ (str "uint32") ∷ "minimum" ≔ (num 0) ∷ "type" ≔ (arr ((str "integer") ∷ (str "null") ∷ [])) ∷ [])) ∷ "name" ≔ (obj ("type" ≔ (str "string") ∷ [])) ∷ "owner" ≔ (obj ("anyOf" ≔ (arr ((obj ("$ref" ≔ (str "#/definitions/Owner") ∷ [])) ∷ (obj ("type" ≔ (str "null") ∷ [])) ∷ [])) ∷ [])) ∷ [])) ∷ "required" ≔ (arr ((str "jobs") ∷ (str "name") ∷ [])) ∷ "title" ≔ (str "Config") ∷ "type" ≔ (str "object") ∷ [])

abbrev pub null_alone_schema : Value
null_alone_schema = obj ("enum" ≔ (arr (null ∷ [])) ∷ "title" ≔ (str "Null") ∷ "type" ≔ (str "string") ∷ [])

abbrev pub never_schema : Value
never_schema = obj ("anyOf" ≔ (arr []) ∷ "title" ≔ (str "EmptyAnyOf") ∷ [])

abbrev pub stated_default_schema : Value
stated_default_schema = obj ("properties" ≔ (obj ("n" ≔ (obj ("default" ≔ (num 7) ∷ "type" ≔ (str "integer") ∷ [])) ∷ "t" ≔ (obj ("items" ≔ (obj ("type" ≔ (str "string") ∷ [])) ∷ "type" ≔ (str "array") ∷ [])) ∷ [])) ∷ "type" ≔ (str "object") ∷ [])

abbrev pub constant_schema : Value
constant_schema = obj ("const" ≔ (num 5) ∷ "type" ≔ (str "integer") ∷ [])

-- texts that are constant, listed texts beside a length, and a tag that stands alone in an open branch
abbrev pub constant_text : Value
constant_text = obj ("const" ≔ str "a" ∷ "type" ≔ str "string" ∷ [])

abbrev pub unlisted_constant : Value
unlisted_constant = obj ("const" ≔ str "a" ∷ "enum" ≔ arr (str "b" ∷ []) ∷ [])

abbrev pub ruled_branch : Value
ruled_branch = obj ("oneOf" ≔ arr (obj ("enum" ≔ arr (str "A" ∷ []) ∷ "minLength" ≔ num 2 ∷ []) ∷ obj ("enum" ≔ arr (str "B" ∷ []) ∷ []) ∷ []) ∷ [])

abbrev pub tag_alone : Value
tag_alone = obj ("oneOf" ≔ arr (
    obj ("properties" ≔ obj ("c" ≔ obj ("type" ≔ str "integer" ∷ []) ∷ "t" ≔ obj ("const" ≔ str "x" ∷ []) ∷ []) ∷ "required" ≔ arr (str "c" ∷ str "t" ∷ []) ∷ "type" ≔ str "object" ∷ [])
    ∷ obj ("properties" ≔ obj ("t" ≔ obj ("const" ≔ str "y" ∷ []) ∷ []) ∷ "required" ≔ arr (str "t" ∷ []) ∷ "type" ≔ str "object" ∷ []) ∷ []) ∷ [])

-- members by patterns
abbrev pub by_patterns : Value
by_patterns = obj ("additionalProperties" ≔ no ∷ "patternProperties" ≔ obj ("a" ≔ obj ("type" ≔ str "integer" ∷ []) ∷ []) ∷ "type" ≔ str "object" ∷ [])

abbrev pub open_patterns : Value
open_patterns = obj ("patternProperties" ≔ obj ("a" ≔ obj ("type" ≔ str "integer" ∷ []) ∷ []) ∷ "type" ≔ str "object" ∷ [])

pub record WorkedVerdicts : Type 0 where
  pub null_for_absent : verdicts_under NullAbsent optional_text_schema (obj [] ∷ obj ("s" ≔ null ∷ []) ∷ obj ("s" ≔ str "x" ∷ []) ∷ []) ≡ Some (true ∷ true ∷ true ∷ [])
  pub by_patterns : verdicts by_patterns (obj ("a" ≔ num 1 ∷ []) ∷ obj ("a" ≔ str "x" ∷ []) ∷ obj ("b" ≔ num 1 ∷ []) ∷ obj [] ∷ []) ≡ Some (true ∷ false ∷ false ∷ true ∷ [])
  pub constant_text : verdicts constant_text (str "a" ∷ str "b" ∷ num 1 ∷ []) ≡ Some (true ∷ false ∷ false ∷ [])
  pub unlisted_constant : verdicts unlisted_constant (str "a" ∷ str "b" ∷ []) ≡ Some (false ∷ false ∷ [])
  pub tag_alone : verdicts tag_alone (obj ("c" ≔ num 1 ∷ "t" ≔ str "x" ∷ []) ∷ obj ("t" ≔ str "y" ∷ []) ∷ obj ("c" ≔ num 1 ∷ "t" ≔ str "y" ∷ []) ∷ obj ("t" ≔ str "x" ∷ []) ∷ []) ≡ Some (true ∷ true ∷ false ∷ false ∷ [])
  pub closed_object_schema : verdicts closed_object_schema ((obj ("id" ≔ (num 1) ∷ "name" ≔ (str "a") ∷ [])) ∷ (obj ("id" ≔ (num 1) ∷ "name" ≔ (str "a") ∷ "x" ≔ (num 0) ∷ [])) ∷ (obj ("id" ≔ (num 1) ∷ [])) ∷ []) ≡ Some (true ∷ false ∷ false ∷ [])
  pub true_schema : verdicts true_schema ((arr (null ∷ [])) ∷ []) ≡ Some (true ∷ [])
  pub set_schema : verdicts set_schema ((arr ((num 1) ∷ (num 1) ∷ (num 2) ∷ [])) ∷ []) ≡ Some (true ∷ [])
  pub no_members_schema : verdicts no_members_schema ((obj []) ∷ (obj ("a" ≔ (num 1) ∷ [])) ∷ []) ≡ Some (true ∷ false ∷ [])
  pub optional_text_schema : verdicts optional_text_schema ((obj []) ∷ (obj ("s" ≔ null ∷ [])) ∷ (obj ("s" ≔ (str "x") ∷ [])) ∷ (obj ("s" ≔ (str "x") ∷ "t" ≔ (num 1) ∷ [])) ∷ []) ≡ Some (true ∷ false ∷ true ∷ true ∷ [])
  pub rest_schema : verdicts rest_schema ((obj ("a" ≔ yes ∷ "b" ≔ (num 2) ∷ [])) ∷ (obj ("b" ≔ (str "x") ∷ [])) ∷ (obj ("extra" ≔ (num 5) ∷ [])) ∷ []) ≡ Some (true ∷ false ∷ true ∷ [])
  pub nullable_schema : verdicts nullable_schema ((obj []) ∷ (obj ("s" ≔ null ∷ [])) ∷ (obj ("s" ≔ (str "x") ∷ [])) ∷ []) ≡ Some (false ∷ true ∷ true ∷ [])
  pub pair_schema : verdicts pair_schema ((arr ((minus 9223372036854775808) ∷ (num 255) ∷ [])) ∷ (arr ((num 9223372036854775807) ∷ (num 256) ∷ [])) ∷ (arr ((num 0) ∷ (minus 1) ∷ [])) ∷ []) ≡ Some (true ∷ false ∷ false ∷ [])
  pub word_schema : verdicts word_schema ((num 1) ∷ (num 4294967295) ∷ (minus 1) ∷ []) ≡ Some (true ∷ true ∷ false ∷ [])
  pub nonzero_schema : verdicts nonzero_schema ((num 200) ∷ (num 0) ∷ []) ≡ Some (true ∷ false ∷ [])
  pub greatest_schema : verdicts greatest_schema ((minus 1) ∷ (num 255) ∷ (num 256) ∷ []) ≡ Some (false ∷ true ∷ false ∷ [])
  pub ruled_text_schema : verdicts ruled_text_schema ((str "a") ∷ (str "ab") ∷ (str "b") ∷ []) ≡ Some (true ∷ false ∷ false ∷ [])
  pub external_schema : verdicts external_schema ((str "Alpha") ∷ (obj ("Bravo" ≔ (obj ("beeBee" ≔ (str "a") ∷ "fooFoo" ≔ (str "b") ∷ [])) ∷ [])) ∷ (obj ("Charlie" ≔ (arr ((num 1) ∷ (num 2) ∷ [])) ∷ [])) ∷ (obj ("Delta" ≔ (arr ((num 7) ∷ (str "x") ∷ [])) ∷ [])) ∷ (obj ("Echo" ≔ (arr (null ∷ (str "y") ∷ (str "z") ∷ [])) ∷ [])) ∷ (obj ("Alpha" ≔ null ∷ [])) ∷ (obj ("Delta" ≔ (arr ((num 7) ∷ [])) ∷ [])) ∷ []) ≡ Some (true ∷ true ∷ true ∷ true ∷ true ∷ false ∷ false ∷ [])
  pub open_external_schema : verdicts open_external_schema ((obj ("A" ≔ (num 1) ∷ [])) ∷ (obj ("A" ≔ (num 1) ∷ "x" ≔ (num 2) ∷ [])) ∷ (str "B") ∷ []) ≡ Some (true ∷ false ∷ true ∷ [])
  pub adjacent_schema : verdicts adjacent_schema ((obj ("c" ≔ (num 300) ∷ "t" ≔ (str "k") ∷ [])) ∷ (obj ("c" ≔ (num 5) ∷ "t" ≔ (str "k") ∷ [])) ∷ []) ≡ Some (true ∷ true ∷ [])
  pub internal_schema : verdicts internal_schema ((obj ("k" ≔ (str "a") ∷ [])) ∷ (obj ("k" ≔ (str "a") ∷ "x" ≔ (num 1) ∷ [])) ∷ []) ≡ Some (true ∷ false ∷ [])
  pub branches_schema : verdicts branches_schema ((obj ("action" ≔ (str "r") ∷ "requested_team" ≔ (str "t") ∷ [])) ∷ (obj ("action" ≔ (str "r") ∷ [])) ∷ []) ≡ Some (true ∷ false ∷ [])
  pub recursive_schema : verdicts recursive_schema ((obj ("next" ≔ (obj []) ∷ [])) ∷ []) ≡ Some (true ∷ [])
  pub renamed_schema : verdicts renamed_schema ((obj ("a b" ≔ (str "s") ∷ "type" ≔ (num 1) ∷ [])) ∷ []) ≡ Some (true ∷ [])
  pub config_schema : verdicts config_schema ((obj ("jobs" ≔ (arr ((obj ("kind" ≔ (str "idle") ∷ [])) ∷ (obj ("from" ≔ (str "a") ∷ "kind" ≔ (str "copy") ∷ "to" ≔ (str "b") ∷ [])) ∷ [])) ∷ "limit" ≔ null ∷ "name" ≔ (str "n") ∷ "owner" ≔ (obj ("id" ≔ (str "67e55044-10b1-426f-9247-bb680e5fe0c8") ∷ [])) ∷ [])) ∷ (obj ("jobs" ≔ (arr ((obj ("kind" ≔ (str "move") ∷ [])) ∷ [])) ∷ "name" ≔ (str "n") ∷ [])) ∷ []) ≡ Some (true ∷ false ∷ [])
  pub null_alone_schema : verdicts null_alone_schema [] ≡ Some []
  pub never_schema : verdicts never_schema [] ≡ Some []
  pub stated_default_schema : verdicts stated_default_schema ((obj []) ∷ (obj ("n" ≔ (num 3) ∷ "t" ≔ (arr []) ∷ "u" ≔ (num 1) ∷ [])) ∷ []) ≡ Some (true ∷ true ∷ [])
  pub constant_schema : verdicts constant_schema ((num 5) ∷ (num 6) ∷ []) ≡ Some (true ∷ true ∷ [])

pub record WorkedNotes : Type 0 where
  pub by_patterns : noted by_patterns ≡ Some []
  pub open_patterns : noted open_patterns ≡ Some ((narrowed, names_note, codes "#") ∷ [])
  pub constant_text : noted constant_text ≡ Some []
  pub ruled_branch : noted ruled_branch ≡ Some ((widened, string_note, codes "#/oneOf/0") ∷ [])
  pub tag_alone : noted tag_alone ≡ Some ((narrowed, tag_alone_note, codes "#") ∷ [])
  pub closed_object_schema : noted closed_object_schema ≡ Some []
  pub true_schema : noted true_schema ≡ Some []
  pub set_schema : noted set_schema ≡ Some ((widened, array_note, codes "#") ∷ [])
  pub no_members_schema : noted no_members_schema ≡ Some []
  pub optional_text_schema : noted optional_text_schema ≡ Some []
  pub rest_schema : noted rest_schema ≡ Some []
  pub nullable_schema : noted nullable_schema ≡ Some []
  pub pair_schema : noted pair_schema ≡ Some []
  pub word_schema : noted word_schema ≡ Some []
  pub nonzero_schema : noted nonzero_schema ≡ Some ((widened, integer_note, codes "#") ∷ [])
  pub greatest_schema : noted greatest_schema ≡ Some ((narrowed, integer_note, codes "#") ∷ [])
  pub ruled_text_schema : noted ruled_text_schema ≡ Some []
  pub external_schema : noted external_schema ≡ Some []
  pub open_external_schema : noted open_external_schema ≡ Some ((narrowed, open_branch_note, codes "#/oneOf/0") ∷ [])
  pub adjacent_schema : noted adjacent_schema ≡ Some ((widened, overlap_note, codes "#") ∷ [])
  pub internal_schema : noted internal_schema ≡ Some []
  pub branches_schema : noted branches_schema ≡ Some []
  pub recursive_schema : noted recursive_schema ≡ Some []
  pub renamed_schema : noted renamed_schema ≡ Some []
  pub config_schema : noted config_schema ≡ Some []
  pub null_alone_schema : noted null_alone_schema ≡ Some ((widened, null_note, codes "#") ∷ [])
  pub never_schema : noted never_schema ≡ Some []
  pub stated_default_schema : noted stated_default_schema ≡ Some []
  pub constant_schema : noted constant_schema ≡ Some ((widened, const_note, codes "#") ∷ [])
