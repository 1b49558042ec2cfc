-- How a run ends that writes a piece.
use Rattle.std.specs.Prelude.{◌≡◌, ◌⊎◌, ℕ, List, [], Option, Some, None, codes}
use Rattle.schema_defs.specs.Faults.{Rises}
use Rattle.schema_defs.specs.Texts.{Relations}
use Rattle.schema_tree.specs.Fault as fault
use Rattle.schema_tree.specs.Fault.{fault_view}
use Rattle.schema_tree.specs.declared.fault.Fault.{Fault}
use Rattle.run_io.specs.Bytes.{Appends, AppendsPrefix}
use Rattle.typify_run.specs.Outcome.{line_of}
use Rattle.typify_run.specs.declared.report.Report.{Report}
use Rattle.model_lines.specs.declared.ending.Ending.{Ending}
use Rattle.model_lines.specs.Answers.{IsAnswerText}

-- a front of the piece was written, and no fault is carried
abbrev pub IsCut : Option (List ℕ) → Option (List ℕ) → List ℕ → Ending → Type 0
IsCut before after text e = ((e.status ≡ 5) ⊎ (e.status ≡ 6)) × (e.fault ≡ None) × AppendsPrefix before after text

-- `end` was written, or a front of it
abbrev pub IsEnd : Option (List ℕ) → Option (List ℕ) → Ending → Type 0
IsEnd before after e = ((e.status ≡ 0) × (e.fault ≡ None) × Appends before after (codes "end\n")) ⊎ IsCut before after (codes "end\n") e

-- the line of the fault was written, or a front of it, and the fault is carried; or there was no memory for the line
abbrev pub IsFaultEnd : Option (List ℕ) → Option (List ℕ) → Fault → Ending → Type 0
IsFaultEnd before after f e =
    ((e.status ≡ 1) × (e.fault ≡ Some f) × Appends before after (line_of f))
    ⊎ ((((e.status ≡ 5) ⊎ (e.status ≡ 6)) × (e.fault ≡ Some f) × AppendsPrefix before after (line_of f))
    ⊎ ((e.status ≡ 6) × (e.fault ≡ None) × (after ≡ before)))

-- the line's answer was written
abbrev pub IsLineAnswered : Relations → Report → ℕ → List ℕ → Option (List ℕ) → Option (List ℕ) → Type 0
IsLineAnswered texts r i line before after = (bytes : List ℕ) × IsAnswerText texts r line i bytes × Appends before after bytes

-- or a front of it; or memory ran out before; or the judge of texts failed, whose count rose, and the fault was told
abbrev pub IsAnswerCut : Relations → Report → ℕ → List ℕ → ℕ → ℕ → Option (List ℕ) → Option (List ℕ) → Ending → Type 0
IsAnswerCut texts r i line old new before after e =
    ((bytes : List ℕ) × IsAnswerText texts r line i bytes × IsCut before after bytes e)
    ⊎ (((e.status ≡ 6) × (e.fault ≡ None) × (after ≡ before))
    ⊎ ((f : Fault) × (fault_view f ≡ fault.texts []) × Rises old new × IsFaultEnd before after f e))

-- the last line's answer was written, and `end`
abbrev pub IsLastAnswered : Relations → Report → ℕ → List ℕ → ℕ → ℕ → Option (List ℕ) → Option (List ℕ) → Ending → Type 0
IsLastAnswered texts r i line old new before after e =
    ((mid : Option (List ℕ)) × IsLineAnswered texts r i line before mid × IsEnd mid after e) ⊎ IsAnswerCut texts r i line old new before after e
