-- How a word ends whose schema is plain.
use Rattle.std.specs.Prelude.{◌≡◌, ℕ, List, [], Option, ⊤}
use Rattle.run_io.specs.Bytes.{Appends}
use Rattle.serde_json.specs.Data.{Data}
use Rattle.json_value.specs.View.{value_of}
use Rattle.schema_tree.specs.Fault.{fault_view}
use Rattle.schema_tree.specs.declared.fault.Fault.{Fault}
use Rattle.typify_run.specs.declared.report.Report.{Report}
use Rattle.schema_words.specs.Words.{Asking}
use Rattle.schema_words.specs.Said.{Said, page, no}
use Rattle.schema_words.specs.Outcome.{IsReportOn, IsFailureAt}
use Rattle.schema_words.specs.declared.ended.Ended.{Ended}
use Rattle.schema_words.specs.declared.ended.Ended.TheVariants as ended

module _ (answers : Data → Report → Said → Type 0) (tells : Data → Fault → List ℕ → Type 0) where
  -- what may be told of a failure of the judge of texts, whose count rose, was written whole
  abbrev pub IsFailureTold : Asking → Data → Option (List ℕ) → Option (List ℕ) → Type 0
  IsFailureTold c d before after = (text : List ℕ) × (f : Fault) × IsFailureAt c (value_of d) (fault_view f) × tells d f text × Appends before after text

  -- what may be answered of a report on the schema that has no notes was written whole
  abbrev pub IsUnnotedAnswer : Asking → Data → Option (List ℕ) → Option (List ℕ) → (List ℕ → Said) → Type 0
  IsUnnotedAnswer c d before after said = (text : List ℕ) × (r : Report) × IsReportOn c (value_of d) r × (r.notes.items ≡ []) × answers d r (said text) × Appends before after text

  -- a page, or the line that says that there is none, of such a report; or the judge of texts failed, or reading or writing, or memory ran out
  abbrev pub EndsPlainly : Asking → Data → Option (List ℕ) → Option (List ℕ) → Ended → Type 0
  EndsPlainly c d before after ended.Page = IsUnnotedAnswer c d before after page
  EndsPlainly c d before after ended.Fault = IsFailureTold c d before after
  EndsPlainly c d before after ended.OtherWords = ⊥
  EndsPlainly c d before after ended.NoInput = ⊥
  EndsPlainly c d before after ended.ReadFault = ⊤
  EndsPlainly c d before after ended.WriteFault = ⊤
  EndsPlainly c d before after ended.Memory = ⊤
  EndsPlainly c d before after ended.No = IsUnnotedAnswer c d before after no
