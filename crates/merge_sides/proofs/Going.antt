-- Steps that leave something of an outcome, one after another.
use Rattle.std.proofs.Common.{◌≡◌, List, [], ap, append-nil}
use Rattle.std.specs.Prelude.{Option, option_map, Result, Ok, Err, IsErrAnd}
use Rattle.merge_defs.specs.Outcome.{Note, Outcome, never, noted, mapped}
use Rattle.merge_steps.specs.declared.stop.Stop.{Stop}
use Rattle.merge_steps.specs.declared.stop.Stop.TheVariants.{Never}
use Rattle.merge_parts.specs.Steps.{Quietly}
use Rattle.merge_parts.proofs.Steps.{quiet}
use Rattle.merge_steps.specs.Ends.{Ends, Goes, Leads, answered_of}
use Rattle.merge_steps.proofs.Ending.{answered_ends, same_error, maps_off}
use Rattle.merge_steps.proofs.Leading.{led_goes}

pub goes_here : {X A : Type 0} {v : X → Outcome A} {ns : List Note} {o : Outcome A} (x : X) → o ≡ v x → Goes v ns ns o (Ok x)
goes_here {X} {A} {v} {ns} x e = record { told = ap (noted ns) e }

pub goes_never : {X A : Type 0} {v : X → Outcome A} {ns : List Note} → Goes v ns ns (never []) (Err Never)
goes_never {X} {A} {v} {ns} = record { told = ap never (append-nil ns) }

-- a step that goes on
pub goes_leads : {X A : Type 0} {v : X → Outcome A} {before after : List Note} {o : Outcome A} (x : X) → Goes v before after o (Ok x) → Leads before after o (v x)
goes_leads x g = record { told = g.told }

-- a step that stops, whatever another would have answered
pub goes_off : {X Y A : Type 0} {v : X → Outcome A} {w : Y → Outcome A} {before after : List Note} {o : Outcome A} (e : Stop) → Goes v before after o (Err e) → Goes w before after o (Err e)
goes_off e g = record { told = g.told }

-- a step of the floors below that answers something or nothing for never, and notes nothing
pub quiet_ends : {X A : Type 0} {v : X → A} {ns : List Note} {o : Outcome A} (f : Option X) (r : Result X Stop) → r ≡ answered_of f → Quietly o (option_map v f) → Ends v ns ns o r
quiet_ends {X} {A} {v} {ns} {o} f r e q = answered_ends f r e (quiet ns o (option_map v f) q)

-- a step that answers nothing, and what comes after it
pub after_unit : {U X A : Type 0} {ns : List Note} (f : Outcome A → Outcome A) (u : U) (p : Outcome A) (r : Result X Stop) (v : X → Outcome A) → Goes (λ w. p) ns ns (f p) (Ok u) → Goes v ns ns p r → Goes v ns ns (f p) r
after_unit f u p r v g h = led_goes (goes_leads u g) h

-- its error, handed on
pub handed_on : {X A : Type 0} {v : X → Outcome A} {before after : List Note} {o : Outcome A} (e : Stop) (r : Result X Stop) → IsErrAnd r (λ f. f ≡ e) → Goes v before after o (Err e) → Goes v before after o r
handed_on {X} {A} {v} {before} {after} {o} e r h g = same_error (λ q. Goes v before after o q) r e h g

pub off_unit : {X Y A : Type 0} {v : X → Outcome A} {w : Y → Outcome A} {before after : List Note} {o : Outcome A} (e : Stop) (r : Result Y Stop) → IsErrAnd r (λ f. f ≡ e) → Goes v before after o (Err e) → Goes w before after o r
off_unit e r h g = handed_on e r h (goes_off e g)

pub off_mapped : {X Y A B : Type 0} {v : X → A} {w : Y → B} {before after : List Note} {o : Outcome A} (f : A → B) (e : Stop) (r : Result Y Stop) → IsErrAnd r (λ g. g ≡ e) → Ends v before after o (Err e) → Ends w before after (mapped f o) r
off_mapped {X} {Y} {A} {B} {v} {w} {before} {after} {o} f e r h s = same_error (λ q. Ends w before after (mapped f o) q) r e h (maps_off f e s)
