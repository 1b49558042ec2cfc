-- What the parts of a run over two schemas say.
use Rattle.std.specs.Prelude.{◌≡◌, ◌≢◌, ◌⊎◌, ℕ, List, ◌++◌, Option}
use Rattle.schema_tree.specs.Fault.{FaultD, memory, fault_line}
use Rattle.schema_words.specs.Outcome.{IsWritten}
use Rattle.schema_words.specs.declared.ended.Ended.{Ended}
use Rattle.schema_words.specs.declared.ended.Ended.TheVariants as ended

-- nothing was written for want of memory; or the line of a fault that is another, behind a word
abbrev pub IsFaultPrinted : Option (List ℕ) → Option (List ℕ) → List ℕ → FaultD → Ended → Type 0
IsFaultPrinted before after front f end = ((end ≡ ended.Memory) × (after ≡ before)) ⊎ ((f ≢ memory) × IsWritten before after (front ++ fault_line f) ended.Fault end)
