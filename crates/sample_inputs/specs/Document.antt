-- The document that the value of a sample is read as.
use Rattle.std.specs.Prelude.{◌≡◌, ℕ, ◌+◌, ◌%◌, ◌==◌, ◌<◌, ◌≤◌, ◌^◌, List, [], ◌∷◌, ◌++◌, map, Bool, true, false, Some, codes, if◌then◌else◌}
use Prim.Native.String.{String}
use Rattle.json_value.specs.Value.{text}
use Rattle.schema_defs.specs.declared.InstanceType.TheVariants.{Text, Integer}
use Rattle.schema_defs.specs.declared.Setting.TheVariants.{Strict}
use Rattle.schema_defs.specs.Schema.{Schema, schema, no_more, Document}
use Rattle.schema_defs.specs.Read.{document_of}
use Rattle.plain_defs.specs.Plain.{IsPlain}
use Rattle.describe_defs.specs.Description.{EntryD, alone, of_kind, refers, nullable, list_of, places_of, object_of, never, in_order, definition_of}
use Rattle.sample_inputs.specs.Sample.{numbers_from, sample_name, sample_schema, sample_depth}

abbrev pub required : String → Schema → EntryD
required n s = record { name = codes n; body = s; required = true }

abbrev pub optional : String → Schema → EntryD
optional n s = record { name = codes n; body = s; required = false }

abbrev pub reference_schema : ℕ → Schema
reference_schema i = refers (codes "#/definitions/" ++ sample_name i)

abbrev pub kind_schema : Schema
kind_schema = alone (record (of_kind Text) { enum_values = Some (text (codes "a") ∷ text (codes "b") ∷ []) })

abbrev pub pair_schema : Schema
pair_schema = places_of 2 (schema (alone (record (of_kind Integer) { format = Some (codes "uint8") })) (schema (alone (of_kind Text)) no_more))

-- the property more
abbrev pub extra_entry : Bool → Bool → EntryD
extra_entry is_first is_second = if is_first then optional "kind" kind_schema else (if is_second then optional "owner" (nullable (reference_schema 0)) else optional "pair" pair_schema)

abbrev pub entries_of : Bool → Bool → ℕ → List EntryD
entries_of is_first is_second next =
    required "id" (alone (of_kind Integer)) ∷ optional "next" (reference_schema next) ∷ optional "tags" (list_of (alone (of_kind Text))) ∷ extra_entry is_first is_second ∷ []

-- by the rest of the number by 3
abbrev pub entries_by : ℕ → ℕ → List EntryD
entries_by r next = entries_of (r == 0) (r == 1) next

abbrev pub definition_schema : ℕ → ℕ → Schema
definition_schema n i = object_of (entries_by (i % 3) ((i + 1) % n)) never

abbrev pub schema_entry : ℕ → ℕ → List ℕ × Schema
schema_entry n i = (sample_name i, definition_schema n i)

abbrev pub sample_document : ℕ → Document
sample_document n = record { setting = Strict; root = reference_schema 0; definitions = map definition_of (in_order (map (schema_entry n) (numbers_from 0 n))) }

-- it is read as that document, which is plain at its depth
abbrev pub SamplesArePlain : Type 0
SamplesArePlain = (n : ℕ) → 1 ≤ n → n < 2 ^ 32 → (document_of Strict (sample_schema n) ≡ Some (sample_document n)) × IsPlain (sample_document n) (sample_depth n)
