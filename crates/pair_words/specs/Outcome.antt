-- What each end of a word over two schemas says: of the input, and of the bytes that were written.
use Rattle.std.specs.Prelude.{◌≡◌, ◌⊎◌, ℕ, List, ◌++◌, true, false, Option, codes}
use Rattle.json_value.specs.View.{value_of}
use Rattle.container_defs.specs.Forms.{is_known, names_of}
use Rattle.model_defs.specs.Reach.{NoneReachesItself}
use Rattle.schema_tree.specs.Fault.{FaultD, fault_line}
use Rattle.typify_run.specs.Examine.{as_it_stands}
use Rattle.typify_run.specs.Headline.{items_of, models_of, root_of}
use Rattle.typify_run.specs.declared.report.Report.{Report}
use Rattle.schema_words.specs.Words.{Asking}
use Rattle.schema_words.specs.Said.{Said}
use Rattle.schema_words.specs.Outcome.{EndsIn, EndsWordIn, IsCarriedIn, IsCaused, IsCauseIn, IsFaultless, IsReportOn, is_built}
use Rattle.schema_words.specs.declared.ended.Ended.{Ended}
use Rattle.pair_words.specs.Input.{Pair, IsPair, IsNoPair}

-- what is asked of a report: no item reaches itself at one value, and the root's type names items and built-in types alone
pub record CanCompare (r : Report) : Type 0 where
  pub ends : NoneReachesItself (models_of as_it_stands r)
  pub known : is_known (names_of (items_of r)) (root_of r) ≡ true

-- the two reports are those on the two schemas, each examined by the same judge of texts at the same depth and under the same setting
pub record AreReportsOn (c : Asking) (p : Pair) (old new : Report) : Type 0 where
  pub old_report : IsReportOn c (value_of p.old) old
  pub new_report : IsReportOn c (value_of p.new) new

-- ---- lines

-- the line of a fault of the old schema, behind `old`; where no fault has its cause in that, of the new one, behind `new`
abbrev pub IsFirstLine : Asking → Pair → FaultD → List ℕ → Type 0
IsFirstLine c p f text = (IsCaused c (value_of p.old) f × (text ≡ codes "old " ++ fault_line f)) ⊎ (IsFaultless c (value_of p.old) × IsCaused c (value_of p.new) f × (text ≡ codes "new " ++ fault_line f))

abbrev pub IsLineOfPair : Asking → List ℕ → List ℕ → Type 0
IsLineOfPair c all text = (p : Pair) × (f : FaultD) × IsPair all p × IsFirstLine c p f text

-- ---- both schemas

-- one of them isn't converted
abbrev pub IsUnbuilt : Asking → Pair → Type 0
IsUnbuilt c p = (is_built c (value_of p.old) ≡ false) ⊎ (is_built c (value_of p.new) ≡ false)

-- a fault has its cause in one of them
abbrev pub IsCauseInPair : Asking → Pair → FaultD → Type 0
IsCauseInPair c p f = IsCauseIn c (value_of p.old) f ⊎ IsCauseIn c (value_of p.new) f

-- no fault has its cause in one of them
abbrev pub IsFaultlessPair : Asking → Pair → Type 0
IsFaultlessPair c p = IsFaultless c (value_of p.old) × IsFaultless c (value_of p.new)

-- ---- what is printed, for a kind of answers

module _ (answers : Report → Report → Said → Type 0) where
  -- what may be answered of the reports on the input's schemas
  abbrev pub IsAnswerToPair : Asking → List ℕ → Said → Type 0
  IsAnswerToPair c all said = (p : Pair) × (old : Report) × (new : Report) × IsPair all p × AreReportsOn c p old new × answers old new said

  abbrev pub Ends : Asking → List ℕ → Option (List ℕ) → Option (List ℕ) → Ended → Type 0
  Ends c all before after end = EndsIn (IsAnswerToPair c) (IsLineOfPair c) IsNoPair all before after end

  abbrev pub EndsWord : Asking → List ℕ → Option (List ℕ) → Option (List ℕ) → Ended → Type 0
  EndsWord c all before after end = EndsWordIn (IsAnswerToPair c) (IsLineOfPair c) IsNoPair all before after end

  abbrev pub IsCarried : Asking → Option (List ℕ) → Option (List ℕ) → Ended → Type 0
  IsCarried c before after end = IsCarriedIn (IsAnswerToPair c) (IsLineOfPair c) IsNoPair before after end
