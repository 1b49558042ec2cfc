-- What is promised of a run over lines by its input alone.
use Rattle.std.specs.Prelude.{◌≡◌, ◌≤◌, ◌⊎◌, ℕ, List, [], ◌∷◌, length, Option, Some}
use Rattle.serde_json.specs.Data.{Data}
use Rattle.json_value.specs.View.{value_of}
use Rattle.schema_defs.specs.Schema.{Document}
use Rattle.schema_defs.specs.Read.{document_of}
use Rattle.run_io.specs.Bytes.{Appends}
use Rattle.line_reader.specs.Lines.{bound, lines, most}
use Rattle.line_answers.specs.Answers.{AnswerD}
use Rattle.typify_run.specs.Call.{Call}
use Rattle.typify_run.specs.declared.report.Report.{Report}
use Rattle.model_lines.specs.Answers.{AreAdmitted, IsAnswered, IsJson, stream_page}
use Rattle.model_lines.specs.Outcome.{AreAll}

-- the first line is the JSON text of a value, and not too long
pub record BeginsWith (all : List ℕ) (d : Data) : Type 0 where
  pub first : List ℕ
  pub more : List (List ℕ)
  pub is_first : lines all ≡ first ∷ more
  pub short : length first ≤ bound
  pub json : IsJson first d

-- reading failed, or memory ran out
abbrev pub IsInterrupted : ℕ → Type 0
IsInterrupted status = (status ≡ 4) ⊎ (status ≡ 6)

-- all lines are answered; where no note stands a small value is taken exactly where the document admits it
abbrev pub IsAdmittedPage : Call → Option (List ℕ) → Option (List ℕ) → Option (List ℕ) → Option Report → Type 0
IsAdmittedPage c left before after report =
    (r : Report) × (first : List ℕ) × (ls : List (List ℕ)) × (answers : List AnswerD) × (d : Data) × (document : Document)
    × AreAll left (first ∷ ls) × IsJson first d × (document_of c.setting (value_of d) ≡ Some document) × IsAnswered c r first ls answers
    × (report ≡ Some r) × Appends before after (stream_page r answers) × (r.notes.items ≡ [] → AreAdmitted c.texts document ls answers)
