-- Why a line has no answer, and what is known of the count of a judge of texts.
use Rattle.std.proofs.Common.{◌≡◌, ◌≢◌, ◌≤◌, ◌<◌, ◌⊎◌, inl, inr, ℕ, [], ◌∙◌, arith}
use Rattle.schema_defs.specs.Faults.{Rises}
use Rattle.schema_tree.specs.Fault.{FaultD, memory, texts}
use Rattle.typify_run.specs.Verdicts.{IsUnjudged}

pub not_memory : (before after : ℕ) (f : FaultD) → f ≢ memory → IsUnjudged before after f → (f ≡ texts []) × Rises before after
not_memory before after f other (inl e) = absurd (other e)
not_memory before after f other (inr h) = h

-- a count that rose had risen since earlier
pub rose_since : (early before after late : ℕ) → early ≤ before → late ≡ after → Rises before after → Rises early late
rose_since early before after late h e (inl k) = inl (omega arith)
rose_since early before after late h e (inr k) = inr (e ∙ k)
