-- What is examined, why a schema and values are refused, and what a report is made of.
use Rattle.std.specs.Prelude.{◌≡◌, ◌&&◌, ◌⊎◌, ℕ, List, [], ◌∷◌, map, Bool, true, false, Option, Some, None}
use Rattle.serde_json.specs.Data.{Data}
use Rattle.json_value.specs.Value.{Value}
use Rattle.model_defs.specs.Reach.{NoneReachesItself}
use Rattle.attr_defs.specs.Texts.{lexed}
use Rattle.container_defs.specs.Forms.{is_known, names_of, are_inside}
use Rattle.schema_defs.specs.declared.Setting.{Setting}
use Rattle.schema_defs.specs.Texts.{Relations}
use Rattle.schema_defs.specs.Schema.{Document}
use Rattle.schema_defs.specs.Read.{document_of}
use Rattle.schema_tree.specs.Numbers.{are_i64, HasWideNumber}
use Rattle.schema_tree.specs.Document.{IsReadAs, HasFault}
use Rattle.schema_tree.specs.Fault.{FaultD, memory}
use Rattle.convert_walks.specs.Told.{faults_of, notes_of}
use Rattle.convert_document.specs.Levels.{most_levels}
use Rattle.convert_document.specs.Note.{note_of}
use Rattle.convert_document.specs.Emitted.{emission_of}
use Rattle.convert_document.specs.Unread.{unread_in_document}
use Rattle.typed_defs.specs.Typed.{Typed}
use Rattle.reading_defs.specs.Proper.{has_json_numbers}
use Rattle.reading_defs.specs.Reading.{Read, reading}
use Rattle.writing_laws.specs.Kinds.{untagged_are_apart}
use Rattle.writing_laws.specs.Tables.{IsOrdered, AllOrdered}
use Rattle.derive_model.specs.Judging.{AreSound}
use Rattle.convert_document.specs.Refused as convert
use Rattle.schema_tree.specs.Conversions.{conversions_view}
use Rattle.attr_parts.specs.declared.derive.Derive.TheVariants.{Deserialize}
use Rattle.derive_model.specs.Items.{private}
use Rattle.derive_model.specs.VerdictView.{verdict_view}
use Rattle.typify_run.specs.Verdicts.{AreVerdicts}
use Rattle.typify_run.specs.Headline.{Deriving, read_of, items_of, models_of, root_of, emission_in, report_reads, report_settles}
use Rattle.typify_run.specs.declared.report.Report.{Report}

abbrev pub is_none_of : {A : Type 0} → List A → Bool
is_none_of [] = true
is_none_of (x ∷ xs) = false

-- no schema of the document has a fault, and each value that one states, listed or as its default, is read
abbrev pub is_converted : Relations → ℕ → Option Document → Bool
is_converted r depth None = false
is_converted r depth (Some d) = is_none_of (faults_of r d depth most_levels) && is_none_of (unread_in_document r d depth most_levels)

-- the values' numbers are i64, and the schema is a document, under the setting, that is converted
abbrev pub is_examined : Setting → Relations → ℕ → Value → List Data → Bool
is_examined setting r depth schema values = are_i64 values && is_converted r depth (document_of setting schema)

-- why the document that the schema is isn't converted
abbrev pub IsUnconverted : Setting → Relations → ℕ → Value → FaultD → Type 0
IsUnconverted setting r depth schema f = (d : Document) × IsReadAs setting schema d × convert.IsCause r d depth most_levels f

-- the cause of a fault: the first number of the values that is no i64; else the first fault of the document, whatever the setting; else why it isn't converted
abbrev pub IsCause : Setting → Relations → ℕ → Value → List Data → FaultD → Type 0
IsCause setting r depth schema values f = HasWideNumber values f ⊎ ((are_i64 values ≡ true) × (HasFault schema f ⊎ IsUnconverted setting r depth schema f))

-- a failure of the judge of texts, whose count rose, told at the place of a schema of the document; the values' numbers are i64
abbrev pub IsTextsFault : Setting → Relations → ℕ → ℕ → ℕ → Value → List Data → FaultD → Type 0
IsTextsFault setting r depth before after schema values f = (are_i64 values ≡ true) × ((d : Document) × IsReadAs setting schema d × convert.IsFailure r d depth most_levels before after f)

-- want of memory, a failure of the judge of texts, or a fault with its cause
abbrev pub IsRefusal : Setting → Relations → ℕ → ℕ → ℕ → Value → List Data → FaultD → Type 0
IsRefusal setting r depth before after schema values f = (f ≡ memory) ⊎ (IsTextsFault setting r depth before after schema values f ⊎ IsCause setting r depth schema values f)

-- ---- reports

-- as `Deserialize` reads items, where no rule changes a name
abbrev pub as_it_stands : Deriving
as_it_stands = record { variant_name = λ r n. n; field_name = λ r n. n; private = private; derive = Deserialize }

-- of a document that was read: what is emitted for it, its notes, and the verdicts of the items as they are read back
pub record IsMadeOf (r : Relations) (d : Document) (depth : ℕ) (values : List Data) (report : Report) : Type 0 where
  pub emission : emission_in report ≡ emission_of r d depth most_levels
  pub notes : report.notes.items ≡ map note_of (notes_of r d depth most_levels)
  pub faultless : faults_of r d depth most_levels ≡ []
  pub read : unread_in_document r d depth most_levels ≡ []
  pub sound : AreSound (read_of as_it_stands (items_of report)) (conversions_view report.conversions) r
  pub ordered : AllOrdered (conversions_view report.conversions).defaults
  pub verdicts : AreVerdicts (read_of as_it_stands (items_of report)) (conversions_view report.conversions) r (root_of report) values (map verdict_view report.verdicts.items)

-- why there is no report of a document that was read: why it isn't converted, or the judge of texts failed at a value, which is told at the root
abbrev pub IsUnreported : Relations → Document → ℕ → ℕ → ℕ → FaultD → Type 0
IsUnreported r d depth before after f = convert.IsRefusal r d depth most_levels before after f

-- The report is of what is emitted for the document that the schema is under the setting: the items, the table of conversions and the root's type are the emission of the
-- table of its entries, and the notes are its notes, in their order. Its schemas have no fault, and each value that they state is read.
pub record IsEmission (setting : Setting) (r : Relations) (depth : ℕ) (schema : Value) (report : Report) : Type 0 where
  pub document : Document
  pub is_read : IsReadAs setting schema document
  pub emission : emission_in report ≡ emission_of r document depth most_levels
  pub notes : report.notes.items ≡ map note_of (notes_of r document depth most_levels)
  pub faultless : faults_of r document depth most_levels ≡ []
  pub read : unread_in_document r document depth most_levels ≡ []

-- A report's items and its table may be handed on: the stated defaults are sound, and no item reaches itself by value; however the items are read, their containers are
-- the same, and they are within the forms of the reader; the root's type is built of types that are known and of items.
pub record CanJudge (r : Relations) (report : Report) : Type 0 where
  pub sound : AreSound (read_of as_it_stands (items_of report)) (conversions_view report.conversions) r
  pub ends : NoneReachesItself (read_of as_it_stands (items_of report))
  pub alike : (how : Deriving) → models_of how report ≡ read_of as_it_stands (items_of report)
  pub inside : (how : Deriving) → are_inside lexed how.variant_name how.field_name how.private how.derive (conversions_view report.conversions) (items_of report) ≡ true
  pub known : is_known (names_of (items_of report)) (root_of report) ≡ true

-- a value is read and becomes itself
abbrev pub IsSettledBy : (Value → Bool) → (Value → Value) → Value → Type 0
IsSettledBy takes settles v = (takes v ≡ true) × (settles v ≡ v)

-- what reading a value by the report's items gives: a typed value, or the place where it stops
abbrev pub report_reading : Relations → Report → Deriving → Value → Read Typed
report_reading texts r how v = reading (models_of how r) (conversions_view r.conversions) texts (root_of r) v

-- However the items are read: what a value that is read becomes is read too, becomes itself, and is the typed value that the value is, where no two variants of an untagged
-- enum may read one kind of value. The value's numbers are those that JSON values have, and its names rise at each level.
abbrev pub SettlesOnce : Relations → Report → Type 0
SettlesOnce r report =
    (how : Deriving) → untagged_are_apart (models_of how report) ≡ true → (v : Value) → has_json_numbers v ≡ true → IsOrdered v → report_reads r report how v ≡ true
    → IsSettledBy (report_reads r report how) (report_settles r report how) (report_settles r report how v)
    × (report_reading r report how (report_settles r report how v) ≡ report_reading r report how v)
