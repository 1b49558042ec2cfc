-- What `run` of typify_run says of its words, its input and how it ends, in one record.
use Rattle.std.specs.Prelude.{◌≡◌, ◌≢◌, ◌⊎◌, ◌↔◌, ℕ, List, [], Option, Some, None, false}
use Rattle.schema_defs.specs.Faults.{Rises}
use Rattle.schema_defs.specs.Texts.{Relations}
use Rattle.schema_tree.specs.Fault.{FaultD}
use Rattle.schema_tree.specs.declared.fault.Fault.{Fault}
use Rattle.run_input.specs.Input.{Parts, IsInput, IsNoInput}
use Rattle.typify_run.specs.Words.{depth_said}
use Rattle.typify_run.specs.Call.{Call, call_of}
use Rattle.typify_run.specs.Outcome.{IsBare, IsCarried, IsCauseIn, IsCutShort, IsFaultPrinted, IsMemorySpent, IsPrinting, IsReportPrinted, IsWritingCut, is_built}
use Rattle.typify_run.specs.PlainInputs.{EndsPlainly, IsFaultless, IsPlainCall, IsPrintedOrSpent}
use Rattle.typify_run.specs.declared.report.Report.{Report}

-- what the judge of texts answers by; and before and after its failures, what the source holds and its failures, what the sink holds and its failures
pub record Around : Type 0 where
  pub texts : Relations
  pub judged : ℕ
  pub judged_after : ℕ
  pub left : Option (List ℕ)
  pub left_after : Option (List ℕ)
  pub reads : ℕ
  pub reads_after : ℕ
  pub written : Option (List ℕ)
  pub written_after : Option (List ℕ)
  pub writes : ℕ
  pub writes_after : ℕ

abbrev pub call_in : List (List ℕ) → Around → Call
call_in words a = call_of words a.texts a.judged a.judged_after

pub record EndsAsRun (words : List (List ℕ)) (a : Around) (status : ℕ) (report : Option Report) (fault : Option Fault) : Type 0 where
  pub carried : IsCarried (call_in words a) a.written a.written_after status report fault
  pub printed : (all : List ℕ) → a.left ≡ Some all → status ≡ 0 → IsReportPrinted (call_in words a) all a.written a.written_after report fault
  pub told : (all : List ℕ) → a.left ≡ Some all → status ≡ 1 → IsFaultPrinted (call_in words a) all a.written a.written_after report fault
  pub other_words : (status ≡ 2) ↔ (depth_said words ≡ None)
  pub untouched : status ≡ 2 → (a.left_after ≡ a.left) × IsBare a.written a.written_after report fault
  pub no_input : (all : List ℕ) → a.left ≡ Some all → status ≡ 3 → IsNoInput all × IsBare a.written a.written_after report fault
  pub read_fault : status ≡ 4 → Rises a.reads a.reads_after × IsBare a.written a.written_after report fault
  pub writing_cut : (all : List ℕ) → a.left ≡ Some all → status ≡ 5 → IsWritingCut (call_in words a) all a.written a.written_after report fault
  pub memory : (all : List ℕ) → a.left ≡ Some all → status ≡ 6 → IsMemorySpent (call_in words a) all a.written a.written_after report fault
  pub refused : (all : List ℕ) → a.left ≡ Some all → IsNoInput all → (status ≡ 2) ⊎ ((status ≡ 3) ⊎ IsCutShort status)
  pub not_built : (all : List ℕ) (parts : Parts) → a.left ≡ Some all → IsInput all parts → is_built (call_in words a) parts ≡ false → (status ≡ 1) ⊎ ((status ≡ 2) ⊎ IsCutShort status)
  pub faulty : (all : List ℕ) (parts : Parts) (f : FaultD) → a.left ≡ Some all → IsInput all parts → IsCauseIn (call_in words a) parts f → (status ≡ 1) ⊎ ((status ≡ 2) ⊎ IsCutShort status)
  pub plain : (all : List ℕ) (parts : Parts) → a.left ≡ Some all → IsInput all parts → IsPlainCall (call_in words a) parts → EndsPlainly (call_in words a) parts a.written a.written_after status report fault
  pub undisturbed : (all : List ℕ) (parts : Parts) → a.left ≡ Some all → IsInput all parts → depth_said words ≢ None → IsFaultless (call_in words a) parts
      → ¬ Rises a.reads a.reads_after → ¬ Rises a.writes a.writes_after → ¬ Rises a.judged a.judged_after → IsPrintedOrSpent status
  pub plain_undisturbed : (all : List ℕ) (parts : Parts) → a.left ≡ Some all → IsInput all parts → IsPlainCall (call_in words a) parts
      → ¬ Rises a.reads a.reads_after → ¬ Rises a.writes a.writes_after → ¬ Rises a.judged a.judged_after → IsPrintedOrSpent status
  pub spent : (all : List ℕ) → a.left ≡ Some all → IsPrinting status → a.left_after ≡ Some []
