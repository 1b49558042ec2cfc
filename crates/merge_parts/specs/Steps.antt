-- What a step of merging code does: it notes behind the notes before it, and answers something, or nothing for never; or it fails.
use Rattle.std.specs.Prelude.{◌≡◌, List, [], Option, Some, None}
use Rattle.std.specs.Option.{IfSome}
use Rattle.merge_defs.specs.Outcome.{Note, Outcome, fault, never, answer, noted}
use Rattle.merge_parts.specs.declared.fault.MergeFault.{MergeFault}
use Rattle.merge_parts.specs.View.{fault_view}

-- an answer, or never, with those notes
abbrev pub given : {A : Type 0} → List Note → Option A → Outcome A
given ns None = never ns
given ns (Some a) = answer ns a

-- from the notes before, the outcome leads to the notes after and the answer
pub record Steps {A : Type 0} (before after : List Note) (outcome : Outcome A) (found : Option A) : Type 0 where
  pub told : noted before outcome ≡ given after found

-- the outcome has no notes
pub record Quietly {A : Type 0} (outcome : Outcome A) (found : Option A) : Type 0 where
  pub told : outcome ≡ given [] found

-- the outcome is that fault, unless memory ran out
pub record Faults {A : Type 0} (e : MergeFault) (outcome : Outcome A) : Type 0 where
  pub told : IfSome (fault_view e) (λ f. outcome ≡ fault f)
