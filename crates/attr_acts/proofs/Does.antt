-- The steps of a meta, one after the other.
use Rattle.std.proofs.Common.{◌≡◌, List, [], ◌∷◌, ◌++◌, Some, None, ap, sym, ◌∙◌, append_assoc, append-nil}
use Rattle.std.specs.Prelude.{Option}
use Rattle.attr_parts.specs.Diagnostics.{DiagnosticD}
use Rattle.attr_defs.specs.Acts.{ActD, tells}
use Rattle.attr_defs.specs.Steps.{Step, gives, does, notes, ends, and_then, ◌>>=◌}
use Rattle.attr_acts.specs.Does.{Does}

-- it is that, and nothing is done
pub does_nothing : {A : Type 0} → (old new : List ActD) (o : Option A) (a : A) → new ≡ old → o ≡ Some a → Does old new o (gives a)
does_nothing old new o a e h = record { acts = e ∙ sym (append-nil old); answer = h }

pub does_acts : {A : Type 0} → (old new acts : List ActD) (o : Option A) (a : A) → new ≡ old ++ acts → o ≡ Some a → Does old new o (does acts a)
does_acts old new acts o a e h = record { acts = e; answer = h }

pub does_note : {A : Type 0} → (old new : List ActD) (d : DiagnosticD) (o : Option A) (a : A) → new ≡ old ++ tells d ∷ [] → o ≡ Some a → Does old new o (notes d a)
does_note old new d o a e h = record { acts = e; answer = h }

pub does_end : {A : Type 0} → (old new : List ActD) (d : DiagnosticD) (o : Option A) → new ≡ old ++ tells d ∷ [] → o ≡ None → Does old new o (ends d)
does_end old new d o e h = record { acts = e; answer = h }

then_acts : {A B : Type 0} → (s : Step A) (f : A → Step B) (a : A) → Some a ≡ s.value → (s >>= f).acts ≡ s.acts ++ (f a).acts
then_acts s f a h = ap (λ o. (and_then s.acts o f).acts) (sym h)

then_value : {A B : Type 0} → (s : Step A) (f : A → Step B) (a : A) → Some a ≡ s.value → (s >>= f).value ≡ (f a).value
then_value s f a h = ap (λ o. (and_then s.acts o f).value) (sym h)

-- what follows is done after it
pub does_then : {A B : Type 0} → (old mid new : List ActD) (a : A) (o : Option B) (s : Step A) (f : A → Step B) → Does old mid (Some a) s → Does mid new o (f a) → Does old new o (s >>= f)
does_then old mid new a o s f d e = record {
  acts = e.acts ∙ ap (λ l. l ++ (f a).acts) d.acts ∙ append_assoc old s.acts (f a).acts ∙ ap (λ l. old ++ l) (sym (then_acts s f a d.answer));
  answer = e.answer ∙ sym (then_value s f a d.answer);
}

-- nothing follows where reading ends
pub does_last : {A B : Type 0} → (old new : List ActD) (s : Step A) (f : A → Step B) (o : Option B) → Does {A = A} old new None s → o ≡ None → Does old new o (s >>= f)
does_last old new s f o d h = record {
  acts = d.acts ∙ ap (λ l. old ++ l) (ap (λ x. (and_then s.acts x f).acts) d.answer);
  answer = h ∙ ap (λ x. (and_then s.acts x f).value) d.answer;
}
