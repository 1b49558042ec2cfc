-- How a step ends, as the program answers it: it goes on with something, or stops. Want of memory says nothing.
use Rattle.std.specs.Prelude.{◌≡◌, List, Option, Some, None, option_map, Result, Ok, Err}
use Rattle.std.specs.Option.{IfSome}
use Rattle.merge_defs.specs.Outcome.{Note, Outcome, fault, never, answer, noted}
use Rattle.merge_parts.specs.declared.fault.MergeFault.{MergeFault}
use Rattle.merge_parts.specs.View.{fault_view}
use Rattle.merge_steps.specs.declared.stop.Stop.{Stop}
use Rattle.merge_steps.specs.declared.stop.Stop.TheVariants.{Never, Fault}

abbrev pub stopped : {A : Type 0} → List Note → Stop → Option (Outcome A)
stopped after Never = Some (never after)
stopped after (Fault f) = option_map fault (fault_view f)

-- what the notes before and the outcome have to be, where what is left is v of the answer
abbrev pub reached : {X A : Type 0} → (List Note → X → Outcome A) → List Note → Result X Stop → Option (Outcome A)
reached v after (Ok x) = Some (v after x)
reached v after (Err e) = stopped after e

-- the outcome is the answer
pub record Ends {X A : Type 0} (v : X → A) (before after : List Note) (o : Outcome A) (r : Result X Stop) : Type 0 where
  pub told : IfSome (reached (λ ns x. answer ns (v x)) after r) (λ p. noted before o ≡ p)

-- the outcome is what the answer stands for
pub record Goes {X A : Type 0} (v : X → Outcome A) (before after : List Note) (o : Outcome A) (r : Result X Stop) : Type 0 where
  pub told : IfSome (reached (λ ns x. noted ns (v x)) after r) (λ p. noted before o ≡ p)

-- from the notes before and an outcome to the notes after and what is left of it
pub record Leads {A : Type 0} (before after : List Note) (o left : Outcome A) : Type 0 where
  pub told : noted before o ≡ noted after left

-- ---- never as an answer

abbrev pub or_never_of : {X : Type 0} → Result X Stop → Result (Option X) Stop
or_never_of (Ok x) = Ok (Some x)
or_never_of (Err Never) = Ok None
or_never_of (Err (Fault f)) = Err (Fault f)

abbrev pub found_of : {X : Type 0} → Result X Stop → Result (Option X) MergeFault
found_of (Ok x) = Ok (Some x)
found_of (Err Never) = Ok None
found_of (Err (Fault f)) = Err f

abbrev pub answered_of : {X : Type 0} → Option X → Result X Stop
answered_of (Some x) = Ok x
answered_of None = Err Never
