-- The answers of a stream: the first line is a schema document, and each further line is one value.
use Rattle.std.specs.Prelude.{◌≡◌, ◌<◌, ◌≤◌, ℕ, List, [], ◌∷◌, ◌++◌, length, true, false, Some, IsUtf8, codes, ⊤}
use Rattle.serde_json.specs.Data.{Data, no_items}
use Rattle.serde_json.specs.Read.{read as read_text}
use Rattle.json_value.specs.Value.{IsSmall}
use Rattle.json_value.specs.View.{value_of}
use Rattle.schema_defs.specs.Texts.{Relations}
use Rattle.schema_defs.specs.Schema.{Document}
use Rattle.schema_defs.specs.Read.{document_of}
use Rattle.schema_tree.specs.Numbers.{holds_i64_alone, wide_place}
use Rattle.whole_numbers.specs.Whole.{whole}
use Rattle.run_input.specs.Input.{Parts}
use Rattle.derive_model.specs.VerdictView as verdict
use Rattle.derive_model.specs.VerdictView.{VerdictD}
use Rattle.line_reader.specs.Lines.{bound}
use Rattle.line_answers.specs.Answers.{AnswerD, long, not_json, wide, taken, refused, answer_line, answer_lines}
use Rattle.typify_run.specs.Call.{Call}
use Rattle.typify_run.specs.Headline.{Deriving, IsJudged, document_admits, items_of, read_of, report_reads, report_refuses, report_settles}
use Rattle.schema_tree.specs.Conversions.{conversions_view}
use Rattle.derive_model.specs.ModuleView.{models_in, conversions_in}
use Rattle.derive_model.specs.declared.module.Module.{Module}
use Rattle.typify_run.specs.Examine.{as_it_stands}
use Rattle.typify_run.specs.Outcome.{IsReported}
use Rattle.typify_run.specs.Page.{head}
use Rattle.typify_run.specs.declared.report.Report.{Report}

-- the line's value (RFC 8259), once numbers that are whole are written as integers
abbrev pub IsJson : List ℕ → Data → Type 0
IsJson line d = IsUtf8 (whole line) × (read_text (whole line) ≡ Some d)

abbrev pub IsNotJson : List ℕ → Type 0
IsNotJson line = (d : Data) → IsJson line d → ⊥

-- a value whose numbers are i64 has that verdict by the report's containers, however they are read: taken exactly where they read it, and written as it settles; else
-- refused where reading stops
abbrev pub IsVerdictOn : Relations → Report → List ℕ → VerdictD → Type 0
IsVerdictOn texts r line v = (length line ≤ bound) × ((d : Data) × IsJson line d × (holds_i64_alone (value_of d) ≡ true)
    × ((how : Deriving) → IsJudged (report_reads texts r how) (report_settles texts r how) (report_refuses texts r how) d v))

-- the answer to a line
abbrev pub IsAnswer : Relations → Report → List ℕ → AnswerD → Type 0
IsAnswer texts r line long = bound < length line
IsAnswer texts r line not_json = (length line ≤ bound) × IsNotJson line
IsAnswer texts r line (wide l) = (length line ≤ bound) × ((d : Data) × IsJson line d × (wide_place (value_of d) ≡ Some l))
IsAnswer texts r line (taken w) = IsVerdictOn texts r line (verdict.taken w)
IsAnswer texts r line (refused l) = IsVerdictOn texts r line (verdict.refused l)

-- an answer to each line
abbrev pub AreAnswers : Relations → Report → List (List ℕ) → List AnswerD → Type 0
AreAnswers texts r [] [] = ⊤
AreAnswers texts r (l ∷ ls) (a ∷ more) = IsAnswer texts r l a × AreAnswers texts r ls more
AreAnswers texts r [] (a ∷ more) = ⊥
AreAnswers texts r (l ∷ ls) [] = ⊥

-- an input of a document alone, without values
abbrev pub parts_of : Data → Parts
parts_of d = record { schema = d; values = no_items }

-- the report is one of the first line's document, and these are the answers to the further lines
pub record IsAnswered (c : Call) (r : Report) (first : List ℕ) (ls : List (List ℕ)) (answers : List AnswerD) : Type 0 where
  pub value : Data
  pub short : length first ≤ bound
  pub json : IsJson first value
  pub reported : IsReported c (parts_of value) r
  pub answered : AreAnswers c.texts r ls answers

-- the number of items, the notes, and the answers, counted from 0
abbrev pub answers_text : Report → List AnswerD → List ℕ
answers_text r answers = head r ++ answer_lines 0 answers

-- the same, with `end`
abbrev pub stream_page : Report → List AnswerD → List ℕ
stream_page r answers = answers_text r answers ++ codes "end\n"

-- ---- where no note stands

-- taken exactly where the document admits the value, where that is small
abbrev pub IsAdmitted : Relations → Document → List ℕ → AnswerD → Type 0
IsAdmitted texts document line (taken w) = (d : Data) × IsJson line d × (IsSmall (value_of d) → document_admits texts document (value_of d) ≡ true)
IsAdmitted texts document line (refused l) = (d : Data) × IsJson line d × (IsSmall (value_of d) → document_admits texts document (value_of d) ≡ false)
IsAdmitted texts document line _ = ⊤

abbrev pub AreAdmitted : Relations → Document → List (List ℕ) → List AnswerD → Type 0
AreAdmitted texts document (l ∷ ls) (a ∷ more) = IsAdmitted texts document l a × AreAdmitted texts document ls more
AreAdmitted texts document _ _ = ⊤

-- ---- one answer, as text

abbrev pub answer_of : VerdictD → AnswerD
answer_of (verdict.taken w) = taken w
answer_of (verdict.refused l) = refused l

-- the bytes are the line of an answer to the line of that number
abbrev pub IsAnswerText : Relations → Report → List ℕ → ℕ → List ℕ → Type 0
IsAnswerText texts r line i bytes = (a : AnswerD) × IsAnswer texts r line a × (bytes ≡ answer_line i a)

-- the module holds the containers of the report's items, and its table of conversions
pub record IsModuleOf (m : Module) (r : Report) : Type 0 where
  pub models : models_in m ≡ read_of as_it_stands (items_of r)
  pub conversions : conversions_in m ≡ conversions_view r.conversions
