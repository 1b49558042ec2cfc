-- How far a run over lines has come.
use Rattle.std.specs.Prelude.{◌≡◌, ◌≤◌, ℕ, List, [], ◌∷◌, ◌++◌, length, Bool, true, false, Option, Some, None}
use Rattle.std.specs.List.{AllByRecursion}
use Rattle.schema_defs.specs.Texts.{Relations}
use Rattle.run_io.specs.Bytes.{Appends, Takes}
use Rattle.line_reader.specs.Lines.{feed, IsOpen}
use Rattle.line_reader.specs.Reading.{IsFound, IsTooLong}
use Rattle.line_reader.specs.declared.found.Found.{Found}
use Rattle.line_answers.specs.Answers.{AnswerD}
use Rattle.typify_run.specs.Call.{Call}
use Rattle.typify_run.specs.declared.report.Report.{Report}
use Rattle.model_lines.specs.Answers.{IsAnswered, answers_text}
use Rattle.model_lines.specs.Outcome.{AreAll, ended}

-- the call of a judge of texts that stands so now, and of which the run began no later and ends so
abbrev pub IsCallFrom : Call → Relations → ℕ → ℕ → Type 0
IsCallFrom c texts before after = (c.texts ≡ texts) × (c.before ≤ before) × (c.after ≡ after)

-- The first line and some more were read, each ended by a line feed, and beyond them what is held; n lines beyond the first are answered, and that is what was
-- written since the run began.
pub record IsGoing (c : Call) (left now : Option (List ℕ)) (held : List ℕ) (count : ℕ) (before after : Option (List ℕ)) (r : Report) (n : ℕ) : Type 0 where
  pub first : List ℕ
  pub ls : List (List ℕ)
  pub answers : List AnswerD
  pub taken : Takes left now (ended (first ∷ ls) ++ held)
  pub counted : count ≡ length (ended (first ∷ ls) ++ held)
  pub are_open : AllByRecursion IsOpen (first ∷ ls)
  pub answered : IsAnswered c r first ls answers
  pub numbered : n ≡ length answers
  pub printed : Appends before after (answers_text r answers)

-- the first line was read, and a line feed ends it where there may be more; else it is the only one
abbrev pub IsFirstRead : Bool → Option (List ℕ) → Option (List ℕ) → List ℕ → ℕ → List ℕ → Type 0
IsFirstRead true left now held count first = Takes left now (first ++ feed ∷ held) × (count ≡ length (first ++ feed ∷ held)) × IsOpen first
IsFirstRead false left now held count first = AreAll left (first ∷ [])

-- and its report is there
abbrev pub IsReady : Call → Bool → Option (List ℕ) → Option (List ℕ) → List ℕ → ℕ → Report → Type 0
IsReady c more left now held count r = (first : List ℕ) × IsFirstRead more left now held count first × IsAnswered c r first [] []

-- what was found at the beginning: a line longer than is kept, or what the reader says of it
abbrev pub IsFirstFound : Option (List ℕ) → Option (List ℕ) → List ℕ → ℕ → Option (List ℕ) → Option Found → Type 0
IsFirstFound left now held count line None = IsTooLong [] left now
IsFirstFound left now held count line (Some f) = IsFound [] held left now 0 count line f
