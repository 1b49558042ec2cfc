-- What the examination of a description says of the items that it describes, and why there is none.
use Rattle.std.specs.Prelude.{◌≡◌, ◌⊎◌, ℕ, List, [], ◌∷◌, map, Bool, true, false, Some, ⊤}
use Rattle.serde_json.specs.Data.{Data}
use Rattle.json_value.specs.Value.{Value, IsSmall}
use Rattle.json_value.specs.View.{value_of}
use Rattle.syntax_trees.specs.Item.{ItemD}
use Rattle.schema_defs.specs.declared.Setting.TheVariants.{Strict}
use Rattle.schema_defs.specs.Faults.{Rises}
use Rattle.schema_defs.specs.Location.{Location}
use Rattle.schema_defs.specs.Texts.{Relations, IsLawful}
use Rattle.schema_defs.specs.Schema.{Document}
use Rattle.schema_defs.specs.Read.{document_of}
use Rattle.schema_defs.specs.Counts.{nodes}
use Rattle.schema_tree.specs.Fault.{FaultD, memory, texts, fault_view}
use Rattle.schema_tree.specs.Numbers.{HasWideNumber}
use Rattle.model_defs.specs.Types.{TypeModel}
use Rattle.model_defs.specs.Model.{ConversionsD}
use Rattle.model_defs.specs.Reads.{reads}
use Rattle.plain_defs.specs.Plain.{IsPlain}
use Rattle.describe_defs.specs.Written.{description_value}
use Rattle.derive_model.specs.VerdictView.{VerdictD, taken, refused, verdict_view}
use Rattle.model_describe.specs.Described.{models_in, IsPlainItems, IsRefused}
use Rattle.model_describe.specs.declared.errors.DescribeError.TheVariants.{Memory, NotPlain}
use Rattle.typify_run.specs.Headline.{IsReportOf, Deriving, report_reads}
use Rattle.typify_run.specs.declared.report.Report.{Report}
use Rattle.model_redescribe.specs.declared.errors.RedescribeError.{RedescribeError}
use Rattle.model_redescribe.specs.declared.errors.RedescribeError.TheVariants.{Describe, Examine}

-- ---- verdicts

-- a small value is taken exactly where it is read
abbrev pub IsToldBy : (Value → Bool) → Data → VerdictD → Type 0
IsToldBy reads d (taken w) = IsSmall (value_of d) → reads (value_of d) ≡ true
IsToldBy reads d (refused l) = IsSmall (value_of d) → reads (value_of d) ≡ false

-- a verdict for each value
abbrev pub AreToldBy : (Value → Bool) → List Data → List VerdictD → Type 0
AreToldBy reads [] [] = ⊤
AreToldBy reads (d ∷ ds) (v ∷ vs) = IsToldBy reads d v × AreToldBy reads ds vs
AreToldBy reads [] (v ∷ vs) = ⊥
AreToldBy reads (d ∷ ds) [] = ⊥

-- ---- reports

-- the containers that the report's items are read back as, however they are read, read exactly the small values that a test says
abbrev pub ReadsAlike : Relations → Report → (Value → Bool) → Type 0
ReadsAlike r report reads = (how : Deriving) (v : Value) → IsSmall v → report_reads r report how v ≡ reads v

-- The report is one of what is written for the items, as `describe` writes it, and no note is left. By lawful texts its items, read back, read exactly the small values that
-- the items that were handed in read, listed or not, and each verdict says whether these read the value.
pub record IsRedescribed (conversions : ConversionsD) (is : List ItemD) (root : TypeModel) (r : Relations) (values : List Data) (report : Report) : Type 0 where
  pub examined : IsReportOf Strict r (description_value (models_in is) conversions root) values report
  pub unnoted : report.notes.items ≡ []
  pub alike : IsLawful r → ReadsAlike r report (reads (models_in is) conversions r root)
  pub verdicts : IsLawful r → AreToldBy (reads (models_in is) conversions r root) values (map verdict_view report.verdicts.items)

-- ---- refusals

-- a failure of the judge of texts, whose count rose
abbrev pub IsTextsFault : ℕ → ℕ → FaultD → Type 0
IsTextsFault before after f = (l : Location) × (f ≡ texts l) × Rises before after

-- want of memory, a failure of the judge of texts, or the first number of the values that is no i64
abbrev pub IsUntold : ℕ → ℕ → List Data → FaultD → Type 0
IsUntold before after values f = (f ≡ memory) ⊎ (IsTextsFault before after f ⊎ HasWideNumber values f)

-- why the items have no description, or why that isn't examined
abbrev pub IsUnredescribed : ConversionsD → List ItemD → TypeModel → ℕ → ℕ → List Data → RedescribeError → Type 0
IsUnredescribed conversions is root before after values (Describe error) = IsRefused conversions is root error
IsUnredescribed conversions is root before after values (Examine fault) = IsPlainItems conversions is root × IsUntold before after values (fault_view fault)

-- ---- of any value that is read as a document plain at its own count of schemas

abbrev pub IsPlainly : Value → Type 0
IsPlainly v = (d : Document) × (document_of Strict v ≡ Some d) × IsPlain d (nodes d)

abbrev pub IsExamined : Relations → Value → List Data → Report → Type 0
IsExamined r v values report = IsReportOf Strict r v values report × (IsPlainly v → report.notes.items ≡ [])

abbrev pub IsUnexamined : ℕ → ℕ → Value → List Data → RedescribeError → Type 0
IsUnexamined before after v values (Describe Memory) = Unit {0}
IsUnexamined before after v values (Describe (NotPlain o)) = ⊥
IsUnexamined before after v values (Examine fault) = IsPlainly v → IsUntold before after values (fault_view fault)
