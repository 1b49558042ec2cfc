-- Steps after one another.
use Rattle.std.proofs.Common.{◌≡◌, List, [], ◌∷◌, ◌++◌, Bool, Some, None, refl, sym, ap, ◌∙◌, append_assoc, append-nil}
use Rattle.std.specs.Prelude.{Option, if◌then◌else◌}
use Rattle.merge_defs.specs.Outcome.{Note, Kind, Outcome, fault, never, answer, noted, and_then, mapped, or_else, never_unless, turned, less_than}
use Rattle.merge_defs.specs.Less.{turned_outcome}
use Rattle.merge_parts.specs.Steps.{Steps, Quietly}

-- ---- one step

pub answers : {A : Type 0} → (ns : List Note) (a : A) → Steps ns ns (answer [] a) (Some a)
answers ns a = record { told = ap (λ ms. answer ms a) (append-nil ns) }

pub nevers : {A : Type 0} → (ns : List Note) → Steps {A = A} ns ns (never []) None
nevers ns = record { told = ap never (append-nil ns) }

-- what is due was noted before the answer
pub answers_noted : {A : Type 0} → (before after ms : List Note) (a : A) → after ≡ before ++ ms → Steps before after (answer ms a) (Some a)
answers_noted before after ms a e = record { told = ap (λ ns. answer ns a) (sym e) }

pub nevers_noted : {A : Type 0} → (before after ms : List Note) → after ≡ before ++ ms → Steps {A = A} before after (never ms) None
nevers_noted before after ms e = record { told = ap never (sym e) }

pub nevers_unless : {A : Type 0} → (before after : List Note) (b : Bool) (k : Kind) → after ≡ before ++ (if b then [] else less_than k ∷ []) → Steps {A = A} before after (never_unless b k) None
nevers_unless before after b k e = record { told = ap never (sym e) }

-- ---- notes before an outcome

noted_twice : {A : Type 0} → (ns ms : List Note) (o : Outcome A) → noted ns (noted ms o) ≡ noted (ns ++ ms) o
noted_twice ns ms (fault f) = refl
noted_twice ns ms (never ks) = ap never (sym (append_assoc ns ms ks))
noted_twice ns ms (answer ks a) = ap (λ ls. answer ls a) (sym (append_assoc ns ms ks))

noted_nothing : {A : Type 0} → (o : Outcome A) → noted [] o ≡ o
noted_nothing (fault f) = refl
noted_nothing (never ns) = refl
noted_nothing (answer ns a) = refl

pub after_notes : {A : Type 0} → (before mid after ms : List Note) (o : Outcome A) (found : Option A) → mid ≡ before ++ ms → Steps mid after o found → Steps before after (noted ms o) found
after_notes before mid after ms o found e s = record { told = noted_twice before ms o ∙ ap (λ ns. noted ns o) (sym e) ∙ s.told }

-- the notes of an outcome of its own are written behind those before it
pub behind : {A : Type 0} → (before after inner : List Note) (o : Outcome A) (found : Option A) → Steps [] inner o found → after ≡ before ++ inner → Steps before after o found
behind before after inner o None s e = record { told = ap (noted before) (sym (noted_nothing o) ∙ s.told) ∙ ap never (sym e) }
behind before after inner o (Some a) s e = record { told = ap (noted before) (sym (noted_nothing o) ∙ s.told) ∙ ap (λ ns. answer ns a) (sym e) }

-- the same, where they are turned
pub turns : {A : Type 0} → (before after inner : List Note) (o : Outcome A) (found : Option A) → Steps [] inner o found → after ≡ before ++ turned inner → Steps before after (turned_outcome o) found
turns before after inner o None s e = record { told = ap (λ p. noted before (turned_outcome p)) (sym (noted_nothing o) ∙ s.told) ∙ ap never (sym e) }
turns before after inner o (Some a) s e = record { told = ap (λ p. noted before (turned_outcome p)) (sym (noted_nothing o) ∙ s.told) ∙ ap (λ ns. answer ns a) (sym e) }

-- ---- one step after another

-- what a step that answers was, up to its notes
then_is : {A B : Type 0} → (before mid : List Note) (o : Outcome A) (k : A → Outcome B) (a : A) → noted before o ≡ answer mid a → noted before (and_then o k) ≡ noted mid (k a)
then_is before mid (fault f) k a e = cc
then_is before mid (never ns) k a e = cc
then_is before mid (answer ns b) k a e = noted_twice before ns (k b) ∙ (cc)

pub goes_on : {A B : Type 0} → (before mid after : List Note) (o : Outcome A) (k : A → Outcome B) (a : A) (found : Option B) → Steps before mid o (Some a) → Steps mid after (k a) found → Steps before after (and_then o k) found
goes_on before mid after o k a found s t = record { told = then_is before mid o k a s.told ∙ t.told }

stops_as : {A B : Type 0} → (before after : List Note) (o : Outcome A) (k : A → Outcome B) → noted before o ≡ never after → noted before (and_then o k) ≡ never after
stops_as before after (fault f) k e = cc
stops_as before after (never ns) k e = cc
stops_as before after (answer ns a) k e = cc

pub stops : {A B : Type 0} → (before after : List Note) (o : Outcome A) (k : A → Outcome B) → Steps before after o None → Steps {A = B} before after (and_then o k) None
stops before after o k s = record { told = stops_as before after o k s.told }

maps_as : {A B : Type 0} → (f : A → B) (before after : List Note) (o : Outcome A) (a : A) → noted before o ≡ answer after a → noted before (mapped f o) ≡ answer after (f a)
maps_as f before after (fault g) a e = cc
maps_as f before after (never ns) a e = cc
maps_as f before after (answer ns b) a e = cc

pub maps : {A B : Type 0} → (f : A → B) (before after : List Note) (o : Outcome A) (a : A) → Steps before after o (Some a) → Steps before after (mapped f o) (Some (f a))
maps f before after o a s = record { told = maps_as f before after o a s.told }

maps_none : {A B : Type 0} → (f : A → B) (before after : List Note) (o : Outcome A) → noted before o ≡ never after → noted before (mapped f o) ≡ never after
maps_none f before after (fault g) e = cc
maps_none f before after (never ns) e = cc
maps_none f before after (answer ns b) e = cc

pub maps_never : {A B : Type 0} → (f : A → B) (before after : List Note) (o : Outcome A) → Steps before after o None → Steps {A = B} before after (mapped f o) None
maps_never f before after o s = record { told = maps_none f before after o s.told }

else_as : {A : Type 0} → (d : A) (before after : List Note) (o : Outcome A) (a : A) → noted before o ≡ answer after a → noted before (or_else d o) ≡ answer after a
else_as d before after (fault f) a e = cc
else_as d before after (never ns) a e = cc
else_as d before after (answer ns b) a e = e

pub or_answer : {A : Type 0} → (d : A) (before after : List Note) (o : Outcome A) (a : A) → Steps before after o (Some a) → Steps before after (or_else d o) (Some a)
or_answer d before after o a s = record { told = else_as d before after o a s.told }

else_none : {A : Type 0} → (d : A) (before after : List Note) (o : Outcome A) → noted before o ≡ never after → noted before (or_else d o) ≡ answer after d
else_none d before after (fault f) e = cc
else_none d before after (never ns) e = cc
else_none d before after (answer ns b) e = cc

pub or_default : {A : Type 0} → (d : A) (before after : List Note) (o : Outcome A) → Steps before after o None → Steps before after (or_else d o) (Some d)
or_default d before after o s = record { told = else_none d before after o s.told }

-- ---- steps without notes

pub quiet : {A : Type 0} → (ns : List Note) (o : Outcome A) (found : Option A) → Quietly o found → Steps ns ns o found
quiet ns o None q = record { told = ap (noted ns) q.told ∙ ap never (append-nil ns) }
quiet ns o (Some a) q = record { told = ap (noted ns) q.told ∙ ap (λ ms. answer ms a) (append-nil ns) }

pub quietly_goes_on : {A B : Type 0} → (before after : List Note) (o : Outcome A) (k : A → Outcome B) (a : A) (found : Option B) → Quietly o (Some a) → Steps before after (k a) found → Steps before after (and_then o k) found
quietly_goes_on before after o k a found q t = goes_on before before after o k a found (quiet before o (Some a) q) t

pub quietly_stops : {A B : Type 0} → (ns : List Note) (o : Outcome A) (k : A → Outcome B) → Quietly o None → Steps {A = B} ns ns (and_then o k) None
quietly_stops ns o k q = stops ns ns o k (quiet ns o None q)

pub quietly_maps : {A B : Type 0} → (f : A → B) (ns : List Note) (o : Outcome A) (a : A) → Quietly o (Some a) → Steps ns ns (mapped f o) (Some (f a))
quietly_maps f ns o a q = maps f ns ns o a (quiet ns o (Some a) q)

pub quietly_maps_never : {A B : Type 0} → (f : A → B) (ns : List Note) (o : Outcome A) → Quietly o None → Steps {A = B} ns ns (mapped f o) None
quietly_maps_never f ns o q = maps_never f ns ns o (quiet ns o None q)
