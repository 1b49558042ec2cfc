-- What each status of a run over lines says: of the lines that were read, of the bytes that were written, and of what is carried.
use Rattle.std.specs.Prelude.{◌≡◌, ◌≢◌, ◌<◌, ◌≤◌, ◌⊎◌, ℕ, suc, zero, List, [], ◌∷◌, ◌++◌, length, Option, Some, None, IfSome}
use Rattle.std.specs.List.{AllByRecursion, flat_map}
use Rattle.serde_json.specs.Data.{Data}
use Rattle.schema_defs.specs.Faults.{Rises}
use Rattle.schema_tree.specs.Fault.{fault_view, texts}
use Rattle.schema_tree.specs.declared.fault.Fault.{Fault}
use Rattle.run_io.specs.Bytes.{Appends, AppendsPrefix, Takes}
use Rattle.line_reader.specs.Lines.{feed, lines, bound, most, IsOpen}
use Rattle.line_answers.specs.Answers.{AnswerD}
use Rattle.typify_run.specs.Call.{Call}
use Rattle.typify_run.specs.Outcome.{IsBare, IsCaused, line_of}
use Rattle.typify_run.specs.declared.report.Report.{Report}
use Rattle.model_lines.specs.Answers.{IsJson, IsNotJson, IsAnswered, answers_text, parts_of, stream_page}

-- ---- what was read, where the source tells its bytes

-- these are all its lines, in at most 4,294,967,296 bytes
abbrev pub AreAll : Option (List ℕ) → List (List ℕ) → Type 0
AreAll left ls = IfSome left (λ all. (lines all ≡ ls) × (length all ≤ most))

-- these are the first of its lines
abbrev pub AreFirst : Option (List ℕ) → List (List ℕ) → Type 0
AreFirst left ls = IfSome left (λ all. (more : List (List ℕ)) × (lines all ≡ ls ++ more))

-- there is no first line, or one that is too long or isn't JSON
abbrev pub HasNoDocument : List ℕ → Type 0
HasNoDocument all = (lines all ≡ []) ⊎ ((first : List ℕ) × (more : List (List ℕ)) × (lines all ≡ first ∷ more) × ((bound < length first) ⊎ IsNotJson first))

-- ---- what was read, whatever the source tells

-- lines, each with the line feed that ends it
abbrev pub ended : List (List ℕ) → List ℕ
ended ls = flat_map (λ l. l ++ feed ∷ []) ls

-- these lines, each ended by a line feed, and then bytes without one
pub record HasRead (left left' : Option (List ℕ)) (ls : List (List ℕ)) (rest : List ℕ) : Type 0 where
  pub taken : Takes left left' (ended ls ++ rest)
  pub are_open : AllByRecursion IsOpen ls
  pub is_open : IsOpen rest

-- the same, of as many bytes as may be, and some more
pub record HasOverrun (left left' : Option (List ℕ)) (ls : List (List ℕ)) : Type 0 where
  pub rest : List ℕ
  pub more : List ℕ
  pub taken : Takes left left' ((ended ls ++ rest) ++ more)
  pub are_open : AllByRecursion IsOpen ls
  pub is_open : IsOpen rest
  pub full : length (ended ls ++ rest) ≡ most
  pub some : more ≢ []

-- ---- what is carried

abbrev pub Carries : Option Report → Option Fault → Report → Type 0
Carries report fault r = (report ≡ Some r) × (fault ≡ None)

-- a fault of the document in the first line, and no report
abbrev pub IsRefusedDocument : Call → Option (List ℕ) → Option Report → Option Fault → Fault → Type 0
IsRefusedDocument c left report fault f =
    (first : List ℕ) × (d : Data) × AreFirst left (first ∷ []) × (length first ≤ bound) × IsJson first d × IsCaused c (parts_of d) f × (report ≡ None) × (fault ≡ Some f)

-- the judge of texts failed at the line behind these, and its count rose
abbrev pub IsFailedJudge : Call → Option (List ℕ) → Report → List ℕ → List (List ℕ) → List AnswerD → Option Report → Option Fault → Fault → Type 0
IsFailedJudge c left r first ls answers report fault f =
    (line : List ℕ) × AreFirst left (first ∷ (ls ++ line ∷ [])) × IsAnswered c r first ls answers × (fault_view f ≡ texts []) × Rises c.before c.after × (report ≡ Some r) × (fault ≡ Some f)

-- ---- by status, with the bytes written before and after

-- 0: all lines are answered
abbrev pub IsAllAnswered : Call → Option (List ℕ) → Option (List ℕ) → Option (List ℕ) → Option Report → Option Fault → Type 0
IsAllAnswered c left before after report fault =
    (r : Report) × (first : List ℕ) × (ls : List (List ℕ)) × (answers : List AnswerD)
    × AreAll left (first ∷ ls) × IsAnswered c r first ls answers × Carries report fault r × Appends before after (stream_page r answers)

-- 1: the fault's line stands behind the answers so far
abbrev pub IsFaultTold : Call → Option (List ℕ) → Option (List ℕ) → Option (List ℕ) → Option Report → Option Fault → Type 0
IsFaultTold c left before after report fault =
    ((f : Fault) × IsRefusedDocument c left report fault f × Appends before after (line_of f))
    ⊎ ((f : Fault) × (r : Report) × (first : List ℕ) × (ls : List (List ℕ)) × (answers : List AnswerD)
    × IsFailedJudge c left r first ls answers report fault f × Appends before after (answers_text r answers ++ line_of f))

-- 4 and 7: the lines that a line feed ends are answered; nothing is said where none does
abbrev pub IsAnsweredSoFar : Call → (List (List ℕ) → Type 0) → Option (List ℕ) → Option (List ℕ) → Option Report → Option Fault → Type 0
IsAnsweredSoFar c Read before after report fault =
    (r : Report) × (first : List ℕ) × (ls : List (List ℕ)) × (answers : List AnswerD)
    × Read (first ∷ ls) × IsAnswered c r first ls answers × Carries report fault r × Appends before after (answers_text r answers)

abbrev pub IsReadingCut : Call → Option (List ℕ) → Option (List ℕ) → Option (List ℕ) → Option (List ℕ) → Option Report → Option Fault → Type 0
IsReadingCut c left left' before after report fault =
    (((rest : List ℕ) × HasRead left left' [] rest) × IsBare before after report fault)
    ⊎ IsAnsweredSoFar c (λ ls. (rest : List ℕ) × HasRead left left' ls rest) before after report fault

abbrev pub IsOverlong : Call → Option (List ℕ) → Option (List ℕ) → Option (List ℕ) → Option (List ℕ) → Option Report → Option Fault → Type 0
IsOverlong c left left' before after report fault = IsAnsweredSoFar c (HasOverrun left left') before after report fault

-- 5 and 6: a front of the page of the first lines, of the line of the document's fault, or of the answers so far and the line of the judge's failure
abbrev pub IsCutOff : Call → Option (List ℕ) → Option (List ℕ) → Option (List ℕ) → Option Report → Option Fault → Type 0
IsCutOff c left before after report fault =
    ((r : Report) × (first : List ℕ) × (ls : List (List ℕ)) × (answers : List AnswerD)
    × AreFirst left (first ∷ ls) × IsAnswered c r first ls answers × Carries report fault r × AppendsPrefix before after (stream_page r answers))
    ⊎ (((f : Fault) × IsRefusedDocument c left report fault f × AppendsPrefix before after (line_of f))
    ⊎ ((f : Fault) × (r : Report) × (first : List ℕ) × (ls : List (List ℕ)) × (answers : List AnswerD)
    × IsFailedJudge c left r first ls answers report fault f × AppendsPrefix before after (answers_text r answers ++ line_of f)))

-- 3: the first line is missing, too long or not JSON
abbrev pub IsNoDocument : Option (List ℕ) → Option (List ℕ) → Option (List ℕ) → Option Report → Option Fault → Type 0
IsNoDocument left before after report fault = IfSome left HasNoDocument × IsBare before after report fault

-- how a run ends
abbrev pub EndsLines : Call → Option (List ℕ) → Option (List ℕ) → Option (List ℕ) → Option (List ℕ) → ℕ → Option Report → Option Fault → Type 0
EndsLines c left left' before after zero report fault = IsAllAnswered c left before after report fault
EndsLines c left left' before after (suc zero) report fault = IsFaultTold c left before after report fault
EndsLines c left left' before after (suc (suc (suc zero))) report fault = IsNoDocument left before after report fault
EndsLines c left left' before after (suc (suc (suc (suc zero)))) report fault = IsReadingCut c left left' before after report fault
EndsLines c left left' before after (suc (suc (suc (suc (suc zero))))) report fault = IsCutOff c left before after report fault
EndsLines c left left' before after (suc (suc (suc (suc (suc (suc zero)))))) report fault = IsBare before after report fault ⊎ IsCutOff c left before after report fault
EndsLines c left left' before after (suc (suc (suc (suc (suc (suc (suc zero))))))) report fault = IsOverlong c left left' before after report fault
EndsLines _ _ _ _ _ _ _ _ = ⊥
