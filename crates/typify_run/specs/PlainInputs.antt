-- Inputs whose schema is plain: their reports have no notes, and no fault refuses them but a failure of the judge of texts.
use Rattle.std.specs.Prelude.{◌≡◌, ◌⊎◌, ℕ, List, [], true, Option, Some, None}
use Rattle.serde_json.specs.Data.{Data}
use Rattle.run_io.specs.Bytes.{Appends}
use Rattle.json_value.specs.Value.{Value}
use Rattle.json_value.specs.View.{value_of}
use Rattle.schema_defs.specs.declared.Setting.{Setting}
use Rattle.schema_defs.specs.Texts.{Relations}
use Rattle.schema_defs.specs.Schema.{Document}
use Rattle.schema_defs.specs.Read.{document_of}
use Rattle.schema_tree.specs.Numbers.{are_i64}
use Rattle.schema_tree.specs.Fault.{FaultD, memory, fault_view}
use Rattle.schema_tree.specs.declared.fault.Fault.{Fault}
use Rattle.run_input.specs.Input.{Parts}
use Rattle.plain_defs.specs.Plain.{IsPlain}
use Rattle.typify_run.specs.Call.{Call}
use Rattle.typify_run.specs.Examine.{IsTextsFault}
use Rattle.typify_run.specs.Outcome.{IsCauseIn, IsCutShort, values_of}
use Rattle.typify_run.specs.Page.{page_of}
use Rattle.typify_run.specs.declared.report.Report.{Report}

-- the schema is read, under the setting, as a document that is plain at the depth, and the values' numbers are i64
pub record IsPlainInput (setting : Setting) (depth : ℕ) (schema : Value) (values : List Data) : Type 0 where
  pub document : Document
  pub read : document_of setting schema ≡ Some document
  pub plain : IsPlain document depth
  pub small : are_i64 values ≡ true

-- what refuses one: want of memory, or a failure of the judge of texts, whose count rose
abbrev pub IsRefusedPlainly : Setting → Relations → ℕ → ℕ → ℕ → Value → List Data → FaultD → Type 0
IsRefusedPlainly setting r depth before after schema values f = IsPlainInput setting depth schema values → (f ≡ memory) ⊎ IsTextsFault setting r depth before after schema values f

-- ---- runs

abbrev pub IsPlainCall : Call → Parts → Type 0
IsPlainCall c parts = IsPlainInput c.setting c.depth (value_of parts.schema) (values_of c.command parts)

-- the page of a report without notes was written whole
abbrev pub IsUnnotedPage : Call → Option (List ℕ) → Option (List ℕ) → Option Report → Option Fault → Type 0
IsUnnotedPage c before after report fault = (r : Report) × (report ≡ Some r) × (fault ≡ None) × (r.notes.items ≡ []) × Appends before after (page_of c.command r)

-- a failure of the judge of texts is carried, whose count rose
abbrev pub IsTextsTold : Call → Parts → Option Report → Option Fault → Type 0
IsTextsTold c parts report fault =
    (f : Fault) × (report ≡ None) × (fault ≡ Some f) × IsTextsFault c.setting c.texts c.depth c.before c.after (value_of parts.schema) (values_of c.command parts) (fault_view f)

-- 0, and no note stands on the page; or 1, and the judge of texts failed; or 4, 5 or 6
abbrev pub EndsPlainly : Call → Parts → Option (List ℕ) → Option (List ℕ) → ℕ → Option Report → Option Fault → Type 0
EndsPlainly c parts before after status report fault =
    ((status ≡ 0) × IsUnnotedPage c before after report fault) ⊎ (((status ≡ 1) × IsTextsTold c parts report fault) ⊎ IsCutShort status)

-- ---- where nothing disturbs a run

-- no fault has its cause in the input
abbrev pub IsFaultless : Call → Parts → Type 0
IsFaultless c parts = (f : FaultD) → IsCauseIn c parts f → ⊥

-- a page was printed, or memory ran out
abbrev pub IsPrintedOrSpent : ℕ → Type 0
IsPrintedOrSpent status = (status ≡ 0) ⊎ (status ≡ 6)
