-- What each status of a run says: of the input, of the bytes that were written, and of what is carried.
use Rattle.std.specs.Prelude.{◌≡◌, ◌≢◌, ◌⊎◌, ℕ, zero, suc, List, [], Bool, true, Option, Some, None}
use Rattle.serde_json.specs.Data.{Data}
use Rattle.run_io.specs.Bytes.{Appends, AppendsPrefix}
use Rattle.json_value.specs.View.{value_of}
use Rattle.schema_tree.specs.Document.{IsAccepted}
use Rattle.schema_tree.specs.Fault.{FaultD, memory, fault_view, fault_line}
use Rattle.schema_tree.specs.declared.fault.Fault.{Fault}
use Rattle.run_input.specs.Input.{Parts, IsInput, IsNoInput, data_of}
use Rattle.typify_run.specs.Headline.{IsReportOf}
use Rattle.typify_run.specs.Examine.{is_examined, IsCause, IsTextsFault, IsEmission}
use Rattle.typify_run.specs.Call.{Call}
use Rattle.typify_run.specs.Page.{page_of}
use Rattle.typify_run.specs.declared.report.Report.{Report}
use Rattle.typify_run.specs.declared.words.Command.{Command}
use Rattle.typify_run.specs.declared.words.Command.TheVariants.{Check, Items}

-- the values that are examined: where items are asked for, none
abbrev pub examined : Command → List Data → List Data
examined Check ds = ds
examined Items ds = []

abbrev pub values_of : Command → Parts → List Data
values_of command parts = examined command (data_of parts.values)

-- the schema is a document, under the setting, that is converted, and the values' numbers are i64
abbrev pub is_built : Call → Parts → Bool
is_built c parts = is_examined c.setting c.texts c.depth (value_of parts.schema) (values_of c.command parts)

-- the report is one of the input's schema and values, the schema has no fault, and the items and the notes are those of its document
abbrev pub IsReported : Call → Parts → Report → Type 0
IsReported c parts r = IsReportOf c.setting c.texts (value_of parts.schema) (values_of c.command parts) r × (is_built c parts ≡ true) × IsAccepted (value_of parts.schema) × IsEmission c.setting c.texts c.depth (value_of parts.schema) r

-- what a fault tells has its cause in the input
abbrev pub IsCauseIn : Call → Parts → FaultD → Type 0
IsCauseIn c parts f = IsCause c.setting c.texts c.depth (value_of parts.schema) (values_of c.command parts) f

-- or the judge of texts failed, whose count rose, at a schema of the input's document; want of memory is told by its own status
abbrev pub IsCaused : Call → Parts → Fault → Type 0
IsCaused c parts f = (fault_view f ≢ memory) × (IsTextsFault c.setting c.texts c.depth c.before c.after (value_of parts.schema) (values_of c.command parts) (fault_view f) ⊎ IsCauseIn c parts (fault_view f))

abbrev pub line_of : Fault → List ℕ
line_of f = fault_line (fault_view f)

-- want of memory: nothing was printed yet, or a front of what was to be printed
abbrev pub IsCutOff : Call → Parts → Option (List ℕ) → Option (List ℕ) → Type 0
IsCutOff c parts before after = (after ≡ before) ⊎ (((r : Report) × IsReported c parts r × AppendsPrefix before after (page_of c.command r)) ⊎ ((f : Fault) × IsCaused c parts f × AppendsPrefix before after (line_of f)))

-- by status, and what is carried, for an input of these parts: the bytes written before and after
abbrev pub Answers : Call → Parts → Option (List ℕ) → Option (List ℕ) → ℕ → Option Report → Option Fault → Type 0
Answers c parts before after zero (Some r) None = IsReported c parts r × Appends before after (page_of c.command r)
Answers c parts before after (suc zero) None (Some f) = IsCaused c parts f × Appends before after (line_of f)
Answers c parts before after (suc (suc (suc (suc (suc zero))))) (Some r) None = IsReported c parts r × AppendsPrefix before after (page_of c.command r)
Answers c parts before after (suc (suc (suc (suc (suc zero))))) None (Some f) = IsCaused c parts f × AppendsPrefix before after (line_of f)
Answers c parts before after (suc (suc (suc (suc (suc (suc zero)))))) None None = IsCutOff c parts before after
Answers _ _ _ _ _ _ _ = ⊥

-- nothing is carried, and nothing was written
abbrev pub IsBare : Option (List ℕ) → Option (List ℕ) → Option Report → Option Fault → Type 0
IsBare before after report fault = (after ≡ before) × (report ≡ None) × (fault ≡ None)

-- how a run on these bytes ends: they are no input, or memory ran out, or by what the input's parts say
abbrev pub Ends : Call → List ℕ → Option (List ℕ) → Option (List ℕ) → ℕ → Option Report → Option Fault → Type 0
Ends c bytes before after status report fault =
    ((status ≡ 3) × IsNoInput bytes × IsBare before after report fault)
    ⊎ (((status ≡ 6) × IsBare before after report fault)
    ⊎ ((parts : Parts) × IsInput bytes parts × Answers c parts before after status report fault))

-- the same, where reading may have failed
abbrev pub EndsReading : Call → List ℕ → Option (List ℕ) → Option (List ℕ) → ℕ → Option Report → Option Fault → Type 0
EndsReading c bytes before after status report fault = ((status ≡ 4) × IsBare before after report fault) ⊎ Ends c bytes before after status report fault

-- statuses at which nothing is carried and nothing was written
abbrev pub IsQuiet : ℕ → Type 0
IsQuiet status = (status ≡ 2) ⊎ ((status ≡ 3) ⊎ ((status ≡ 4) ⊎ (status ≡ 6)))

-- whatever the source tells of its bytes: nothing is carried or written, or what the parts of some input say
abbrev pub IsCarried : Call → Option (List ℕ) → Option (List ℕ) → ℕ → Option Report → Option Fault → Type 0
IsCarried c before after status report fault =
    (IsQuiet status × IsBare before after report fault)
    ⊎ ((parts : Parts) × Answers c parts before after status report fault)

-- ---- what one status says of all the bytes of an input

-- 0: a report of the input is carried, and its page was written whole
abbrev pub IsReportPrinted : Call → List ℕ → Option (List ℕ) → Option (List ℕ) → Option Report → Option Fault → Type 0
IsReportPrinted c all before after report fault =
    (parts : Parts) × (r : Report) × IsInput all parts × (report ≡ Some r) × (fault ≡ None) × IsReported c parts r × Appends before after (page_of c.command r)

-- 1: a fault of the input is carried, and its line was written whole
abbrev pub IsFaultPrinted : Call → List ℕ → Option (List ℕ) → Option (List ℕ) → Option Report → Option Fault → Type 0
IsFaultPrinted c all before after report fault =
    (parts : Parts) × (f : Fault) × IsInput all parts × (report ≡ None) × (fault ≡ Some f) × IsCaused c parts f × Appends before after (line_of f)

-- 5: a report or a fault of the input is carried, and a front of its text was written
abbrev pub IsWritingCut : Call → List ℕ → Option (List ℕ) → Option (List ℕ) → Option Report → Option Fault → Type 0
IsWritingCut c all before after report fault =
    (parts : Parts) × IsInput all parts
    × (((r : Report) × (report ≡ Some r) × (fault ≡ None) × IsReported c parts r × AppendsPrefix before after (page_of c.command r))
    ⊎ ((f : Fault) × (report ≡ None) × (fault ≡ Some f) × IsCaused c parts f × AppendsPrefix before after (line_of f)))

-- 6: nothing is carried; nothing was written, or a front of the text of a report or a fault of the input
abbrev pub IsMemorySpent : Call → List ℕ → Option (List ℕ) → Option (List ℕ) → Option Report → Option Fault → Type 0
IsMemorySpent c all before after report fault =
    (report ≡ None) × (fault ≡ None) × ((after ≡ before) ⊎ ((parts : Parts) × IsInput all parts × IsCutOff c parts before after))

-- statuses at which the whole input was read
abbrev pub IsPrinting : ℕ → Type 0
IsPrinting status = (status ≡ 0) ⊎ ((status ≡ 1) ⊎ (status ≡ 5))

-- statuses that may stand in place of one that has its cause: reading failed, writing failed, memory ran out
abbrev pub IsCutShort : ℕ → Type 0
IsCutShort status = (status ≡ 4) ⊎ ((status ≡ 5) ⊎ (status ≡ 6))
