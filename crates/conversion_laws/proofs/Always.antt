-- What holds of each answer of an outcome, step by step.
use Rattle.std.proofs.Common.{List, Bool, true, false}
use Rattle.std.specs.Prelude.{if◌then◌else◌}
use Rattle.merge_defs.specs.Outcome.{Outcome, fault, never, answer, Note, Kind, noted, and_then, mapped, or_else, never_unless}
use Rattle.conversion_laws.specs.Keeping.{Always}

pub always-noted : {A : Type 0} (P : A → Type 0) (ns : List Note) (o : Outcome A) → Always P o → Always P (noted ns o)
always-noted P ns (fault f) h = tt
always-noted P ns (never ms) h = tt
always-noted P ns (answer ms a) h = h

pub always-then : {A B : Type 0} (P : A → Type 0) (Q : B → Type 0) (o : Outcome A) (k : A → Outcome B) → Always P o → ((a : A) → P a → Always Q (k a)) → Always Q (and_then o k)
always-then P Q (fault f) k h g = tt
always-then P Q (never ns) k h g = tt
always-then P Q (answer ns a) k h g = always-noted Q ns (k a) (g a h)

pub always-mapped : {A B : Type 0} (P : A → Type 0) (Q : B → Type 0) (f : A → B) (o : Outcome A) → Always P o → ((a : A) → P a → Q (f a)) → Always Q (mapped f o)
always-mapped P Q f (fault e) h g = tt
always-mapped P Q f (never ns) h g = tt
always-mapped P Q f (answer ns a) h g = g a h

pub always-or_else : {A : Type 0} (P : A → Type 0) (d : A) (o : Outcome A) → P d → Always P o → Always P (or_else d o)
always-or_else P d (fault f) p h = tt
always-or_else P d (never ns) p h = p
always-or_else P d (answer ns a) p h = h

pub always-if : {A : Type 0} (P : A → Type 0) (b : Bool) (o u : Outcome A) → Always P o → Always P u → Always P (if b then o else u)
always-if P true o u h g = h
always-if P false o u h g = g

pub always-never : {A : Type 0} (P : A → Type 0) (b : Bool) (k : Kind) → Always P (never_unless b k)
always-never P b k = tt

-- whatever it is
pub always-any : {A : Type 0} (o : Outcome A) → Always (λ a. Unit {0}) o
always-any (fault f) = tt
always-any (never ns) = tt
always-any (answer ns a) = tt
