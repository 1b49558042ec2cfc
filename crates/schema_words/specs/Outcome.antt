-- What each end of a word says: of the input, and of the bytes that were written.
use Rattle.std.specs.Prelude.{◌≡◌, ◌≢◌, ◌≤◌, ◌⊎◌, ℕ, List, [], Bool, true, Option}
use Rattle.serde_json.specs.Data.{Data}
use Rattle.run_io.specs.Bytes.{Appends, AppendsPrefix}
use Rattle.json_value.specs.Value.{Value}
use Rattle.json_value.specs.View.{value_of}
use Rattle.schema_defs.specs.declared.Setting.{Setting}
use Rattle.schema_defs.specs.Texts.{Relations}
use Rattle.model_defs.specs.Reach.{NoneReachesItself}
use Rattle.schema_tree.specs.Document.{IsAccepted}
use Rattle.schema_tree.specs.Fault.{FaultD, memory, fault_line, fault_view}
use Rattle.schema_tree.specs.declared.fault.Fault.{Fault}
use Rattle.typify_run.specs.Headline.{IsReportOf, models_of}
use Rattle.typify_run.specs.Examine.{as_it_stands, is_examined, CanJudge, IsCause, IsTextsFault, IsEmission}
use Rattle.typify_run.specs.PlainInputs.{IsPlainInput}
use Rattle.typify_run.specs.declared.report.Report.{Report}
use Rattle.schema_words.specs.Input.{IsSchema, IsNoSchema}
use Rattle.schema_words.specs.Words.{Asking, asking}
use Rattle.schema_words.specs.Said.{Said, page, no}
use Rattle.schema_words.specs.declared.ended.Ended.{Ended}
use Rattle.schema_words.specs.declared.ended.Ended.TheVariants as ended

-- the status of the process
abbrev pub status_of : Ended → ℕ
status_of ended.Page = 0
status_of ended.Fault = 1
status_of ended.OtherWords = 2
status_of ended.NoInput = 3
status_of ended.ReadFault = 4
status_of ended.WriteFault = 5
status_of ended.Memory = 6
status_of ended.No = 8

-- ---- what comes of a schema

-- it is a document, under the setting, that is converted
abbrev pub is_built : Asking → Value → Bool
is_built c schema = is_examined c.setting c.texts c.depth schema []

-- it is a document, under the setting, that is plain at the depth
abbrev pub IsPlainSchema : Asking → Value → Type 0
IsPlainSchema c schema = IsPlainInput c.setting c.depth schema []

-- the report is one of the schema, which has no fault, the items and the notes are those of its document, and the items can judge further values; a plain schema has no notes
pub record IsReportOn (c : Asking) (schema : Value) (r : Report) : Type 0 where
  pub report : IsReportOf c.setting c.texts schema [] r
  pub built : is_built c schema ≡ true
  pub accepted : IsAccepted schema
  pub emission : IsEmission c.setting c.texts c.depth schema r
  pub judges : CanJudge c.texts r
  pub unnoted : IsPlainSchema c schema → r.notes.items ≡ []

-- what a fault tells has its cause in the schema
abbrev pub IsCauseIn : Asking → Value → FaultD → Type 0
IsCauseIn c schema f = IsCause c.setting c.texts c.depth schema [] f

-- the judge of texts failed at the schema, and its count rose
abbrev pub IsFailureAt : Asking → Value → FaultD → Type 0
IsFailureAt c schema f = IsTextsFault c.setting c.texts c.depth c.before c.after schema [] f

-- one or the other; of a plain schema only the judge's failure is told, and want of memory is an end of its own
abbrev pub IsCaused : Asking → Value → FaultD → Type 0
IsCaused c schema f = (f ≢ memory) × (IsFailureAt c schema f ⊎ IsCauseIn c schema f) × (IsPlainSchema c schema → IsFailureAt c schema f)

-- no fault has its cause in it
abbrev pub IsFaultless : Asking → Value → Type 0
IsFaultless c schema = (f : FaultD) → IsCauseIn c schema f → ⊥

-- ends at which nothing was written
abbrev pub IsQuiet : Ended → Type 0
IsQuiet end = (end ≡ ended.OtherWords) ⊎ ((end ≡ ended.NoInput) ⊎ ((end ≡ ended.ReadFault) ⊎ (end ≡ ended.Memory)))

-- ---- what is printed, by what may be answered of an input and by the lines that name a fault of it

-- a page, a line that says that there is none, or the line of a fault
abbrev pub IsTextIn : (List ℕ → Said → Type 0) → (List ℕ → List ℕ → Type 0) → List ℕ → List ℕ → Type 0
IsTextIn Answers Lines all text = Answers all (page text) ⊎ (Answers all (no text) ⊎ Lines all text)

-- and by which bytes are no input
module _ (Answers : List ℕ → Said → Type 0) (Lines : List ℕ → List ℕ → Type 0) (IsNone : List ℕ → Type 0) where
  -- how a word ends whose input is these bytes, by the bytes written before and after
  abbrev pub EndsIn : List ℕ → Option (List ℕ) → Option (List ℕ) → Ended → Type 0
  EndsIn all before after ended.Page = (text : List ℕ) × Answers all (page text) × Appends before after text
  EndsIn all before after ended.Fault = (text : List ℕ) × Lines all text × Appends before after text
  EndsIn all before after ended.OtherWords = ⊥
  EndsIn all before after ended.NoInput = IsNone all × (after ≡ before)
  EndsIn all before after ended.ReadFault = ⊥
  EndsIn all before after ended.WriteFault = (text : List ℕ) × IsTextIn Answers Lines all text × AppendsPrefix before after text
  EndsIn all before after ended.Memory = (after ≡ before) ⊎ ((text : List ℕ) × IsTextIn Answers Lines all text × AppendsPrefix before after text)
  EndsIn all before after ended.No = (text : List ℕ) × Answers all (no text) × Appends before after text

  -- the same, where the words may be others, or reading may have failed
  abbrev pub EndsWordIn : List ℕ → Option (List ℕ) → Option (List ℕ) → Ended → Type 0
  EndsWordIn all before after end = (((end ≡ ended.OtherWords) ⊎ (end ≡ ended.ReadFault)) × (after ≡ before)) ⊎ EndsIn all before after end

  -- whatever the source tells of its bytes: nothing was written, or what comes of some input
  abbrev pub IsCarriedIn : Option (List ℕ) → Option (List ℕ) → Ended → Type 0
  IsCarriedIn before after end = (IsQuiet end × (after ≡ before)) ⊎ ((all : List ℕ) × EndsIn all before after end)

-- ---- of one schema, for a kind of answers, and of what is told of a fault

-- what may be answered of the report on the input's schema
abbrev pub IsAnswerTo : (Data → Report → Said → Type 0) → Asking → List ℕ → Said → Type 0
IsAnswerTo answers c all said = (d : Data) × (r : Report) × IsSchema all d × IsReportOn c (value_of d) r × answers d r said

-- what may be told of a fault of the input's schema
abbrev pub IsToldOf : (Data → Fault → List ℕ → Type 0) → Asking → List ℕ → List ℕ → Type 0
IsToldOf tells c all text = (d : Data) × (f : Fault) × IsSchema all d × IsCaused c (value_of d) (fault_view f) × tells d f text

module _ (answers : Data → Report → Said → Type 0) (tells : Data → Fault → List ℕ → Type 0) where
  abbrev pub Ends : Asking → List ℕ → Option (List ℕ) → Option (List ℕ) → Ended → Type 0
  Ends c all before after end = EndsIn (IsAnswerTo answers c) (IsToldOf tells c) IsNoSchema all before after end

  abbrev pub EndsWord : Asking → List ℕ → Option (List ℕ) → Option (List ℕ) → Ended → Type 0
  EndsWord c all before after end = EndsWordIn (IsAnswerTo answers c) (IsToldOf tells c) IsNoSchema all before after end

  abbrev pub IsCarried : Asking → Option (List ℕ) → Option (List ℕ) → Ended → Type 0
  IsCarried c before after end = IsCarriedIn (IsAnswerTo answers c) (IsToldOf tells c) IsNoSchema before after end

-- the line of the fault, as most words tell it
abbrev pub tells_line : Data → Fault → List ℕ → Type 0
tells_line d f text = text ≡ fault_line (fault_view f)

-- ends at which the whole input was read
abbrev pub IsPrinting : Ended → Type 0
IsPrinting end = (end ≡ ended.Page) ⊎ ((end ≡ ended.Fault) ⊎ ((end ≡ ended.WriteFault) ⊎ (end ≡ ended.No)))

-- ends that may stand in place of one that has its cause in the input: other words, reading or writing that failed, want of memory
abbrev pub IsAside : Ended → Type 0
IsAside end = (end ≡ ended.OtherWords) ⊎ ((end ≡ ended.ReadFault) ⊎ ((end ≡ ended.WriteFault) ⊎ (end ≡ ended.Memory)))

-- a page, or the line that says that there is none, or want of memory
abbrev pub IsAnswered : Ended → Type 0
IsAnswered end = (end ≡ ended.Page) ⊎ ((end ≡ ended.No) ⊎ (end ≡ ended.Memory))

-- ---- steps

-- no item of the report reaches itself at one value
abbrev pub HasEnds : Report → Type 0
HasEnds r = NoneReachesItself (models_of as_it_stands r)

-- the report is one of the schema, whatever the judge's count
abbrev pub IsReported : ℕ → Setting → Relations → Value → Report → Type 0
IsReported depth setting texts schema r = (before after : ℕ) → IsReportOn (asking depth setting texts before after) schema r

-- but for want of memory the fault has its cause, by a judge whose count stood at no more when the run began
abbrev pub IsRefused : ℕ → Setting → Relations → ℕ → ℕ → Value → FaultD → Type 0
IsRefused depth setting texts now after schema f = f ≢ memory → (before : ℕ) → before ≤ now → IsCaused (asking depth setting texts before after) schema f

-- of a text whose printing ends as `whole`: it was written whole, or a front of it was
abbrev pub IsWritten : Option (List ℕ) → Option (List ℕ) → List ℕ → Ended → Ended → Type 0
IsWritten before after text whole end =
    ((end ≡ whole) × Appends before after text) ⊎ (((end ≡ ended.WriteFault) ⊎ (end ≡ ended.Memory)) × AppendsPrefix before after text)

-- of an answer
abbrev pub IsSaid : Option (List ℕ) → Option (List ℕ) → Said → Ended → Type 0
IsSaid before after (page text) end = IsWritten before after text ended.Page end
IsSaid before after (no text) end = IsWritten before after text ended.No end

-- of the line of a fault, for which memory may run out first
abbrev pub IsLinePrinted : Option (List ℕ) → Option (List ℕ) → List ℕ → Ended → Type 0
IsLinePrinted before after text end = ((end ≡ ended.Memory) × (after ≡ before)) ⊎ IsWritten before after text ended.Fault end

-- of a text of that kind which tells a fault, the same
abbrev pub IsToldPrinted : (List ℕ → Type 0) → Option (List ℕ) → Option (List ℕ) → Ended → Type 0
IsToldPrinted Tells before after end = ((end ≡ ended.Memory) × (after ≡ before)) ⊎ ((text : List ℕ) × Tells text × IsWritten before after text ended.Fault end)
