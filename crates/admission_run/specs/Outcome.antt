-- What each end of a run says: of the input, and of the bytes that were written.
use Rattle.std.specs.Prelude.{◌≡◌, ◌⊎◌, ℕ, List, Bool, Option}
use Rattle.run_io.specs.Bytes.{Appends, AppendsPrefix}
use Rattle.json_value.specs.View.{value_of}
use Rattle.schema_defs.specs.declared.Setting.{Setting}
use Rattle.schema_defs.specs.Texts.{Relations}
use Rattle.schema_tree.specs.Fault.{FaultD, fault_line}
use Rattle.run_input.specs.Input.{Parts, IsInput, IsNoInput, data_of}
use Rattle.admission_run.specs.Verdicts.{AreVerdicts, IsCause}
use Rattle.admission_run.specs.Page.{page}
use Rattle.admission_run.specs.declared.outcome.Outcome.{Outcome}
use Rattle.admission_run.specs.declared.outcome.Outcome.TheVariants as outcome

-- the status of the process
abbrev pub status_of : Outcome → ℕ
status_of outcome.Page = 0
status_of outcome.Fault = 1
status_of outcome.NoInput = 3
status_of outcome.ReadFault = 4
status_of outcome.WriteFault = 5
status_of outcome.Memory = 6

-- the text is the page of verdicts on the input under the setting
abbrev pub IsPageOf : Setting → Relations → List ℕ → List ℕ → Type 0
IsPageOf setting r all text =
    (parts : Parts) × (answers : List Bool) × IsInput all parts × AreVerdicts setting r (value_of parts.schema) (data_of parts.values) answers × (text ≡ page answers)

-- the text is the line of a fault that has its cause in the input, or in the counts of faults of the judge of texts
abbrev pub IsLineOf : ℕ → ℕ → List ℕ → List ℕ → Type 0
IsLineOf faults faults' all text =
    (parts : Parts) × (f : FaultD) × IsInput all parts × IsCause faults faults' (value_of parts.schema) (data_of parts.values) f × (text ≡ fault_line f)

-- one of the two
abbrev pub IsTextOf : Setting → Relations → ℕ → ℕ → List ℕ → List ℕ → Type 0
IsTextOf setting r faults faults' all text = IsPageOf setting r all text ⊎ IsLineOf faults faults' all text

-- how a run ends whose source gave all these bytes, by the bytes written before and after
abbrev pub Ends : Setting → Relations → ℕ → ℕ → List ℕ → Option (List ℕ) → Option (List ℕ) → Outcome → Type 0
Ends setting r faults faults' all before after outcome.Page = (text : List ℕ) × IsPageOf setting r all text × Appends before after text
Ends setting r faults faults' all before after outcome.Fault = (text : List ℕ) × IsLineOf faults faults' all text × Appends before after text
Ends setting r faults faults' all before after outcome.NoInput = IsNoInput all × (after ≡ before)
Ends setting r faults faults' all before after outcome.ReadFault = ⊥
Ends setting r faults faults' all before after outcome.WriteFault = (text : List ℕ) × IsTextOf setting r faults faults' all text × AppendsPrefix before after text
Ends setting r faults faults' all before after outcome.Memory = (after ≡ before) ⊎ ((text : List ℕ) × IsTextOf setting r faults faults' all text × AppendsPrefix before after text)

-- of a text whose printing ends as `whole`: it was written whole, or a front of it was
abbrev pub IsWritten : Option (List ℕ) → Option (List ℕ) → List ℕ → Outcome → Outcome → Type 0
IsWritten before after text whole end =
    ((end ≡ whole) × Appends before after text) ⊎ (((end ≡ outcome.WriteFault) ⊎ (end ≡ outcome.Memory)) × AppendsPrefix before after text)
