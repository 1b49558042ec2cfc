-- A value that is read as a plain document has no fault of reading: no bad reference, no float, no walk round. And no more schemas stand in one another than
-- lists and objects do in the value, and one more, so that a document that is read from a text needs no more than 256 levels.
use Rattle.std.specs.Prelude.{◌≡◌, ◌≤◌, ◌*◌, ℕ, suc, List, [], Some}
use Rattle.serde_json.specs.Data.{Data}
use Rattle.serde_json.specs.Read.{read as read_text}
use Rattle.json_value.specs.Value.{Value}
use Rattle.json_value.specs.View.{value_of}
use Rattle.schema_defs.specs.declared.Setting.{Setting}
use Rattle.schema_defs.specs.Texts.{Relations}
use Rattle.schema_defs.specs.Schema.{Document}
use Rattle.schema_defs.specs.Read.{document_of}
use Rattle.schema_tree.specs.Document.{IsAccepted, IsReadAs}
use Rattle.distinct_names.specs.Names.{NamesDiffer}
use Rattle.convert_walks.specs.Told.{faults_of}
use Rattle.plain_defs.specs.Plain.{IsPlain}
use Rattle.plain_laws.specs.Height.{document_height}
use Rattle.plain_reading.specs.Nesting.{nesting}

abbrev pub PlainIsReadable : Type 0
PlainIsReadable = (setting : Setting) (v : Value) (d : Document) (depth : ℕ) → NamesDiffer v → document_of setting v ≡ Some d → IsPlain d depth → IsReadAs setting v d

abbrev pub PlainIsAccepted : Type 0
PlainIsAccepted = (setting : Setting) (v : Value) (d : Document) (depth : ℕ) → NamesDiffer v → document_of setting v ≡ Some d → IsPlain d depth → IsAccepted v

-- in what is read from a text the names of an object differ
abbrev pub TextNamesDiffer : Type 0
TextNamesDiffer = (bytes : List ℕ) (v : Data) → read_text bytes ≡ Some v → NamesDiffer (value_of v)

-- ---- levels

-- of any document
abbrev pub HeightByNesting : Type 0
HeightByNesting = (setting : Setting) (v : Value) (d : Document) → document_of setting v ≡ Some d → document_height d ≤ suc (nesting v)

-- twice as many levels are enough for a plain one
abbrev pub PlainByNesting : Type 0
PlainByNesting = (r : Relations) (setting : Setting) (v : Value) (d : Document) (depth most n : ℕ) → document_of setting v ≡ Some d → IsPlain d depth → depth ≤ most → 2 * suc (nesting v) ≤ n → faults_of r d most n ≡ []

-- serde_json reads 127 lists and objects in one another at most
abbrev pub PlainTextsAreConverted : Type 0
PlainTextsAreConverted =
    (r : Relations) (setting : Setting) (bytes : List ℕ) (v : Data) (d : Document) (depth most n : ℕ) → read_text bytes ≡ Some v → document_of setting (value_of v) ≡ Some d → IsPlain d depth → depth ≤ most → 256 ≤ n
    → faults_of r d most n ≡ []
