-- How the parts of a meta are read, one after the other: what they do, and what they are, or that reading of the attribute
-- ends there.
use Rattle.std.specs.Prelude.{List, [], ◌∷◌, ◌++◌, Option, Some, None}
use Rattle.attr_parts.specs.Diagnostics.{DiagnosticD}
use Rattle.attr_defs.specs.Acts.{ActD, tells}

pub record Step (A : Type 0) : Type 0 where
  pub acts : List ActD
  pub value : Option A

-- it is that, and nothing is done
abbrev pub gives : {A : Type 0} → A → Step A
gives a = record { acts = []; value = Some a }

-- that is done
abbrev pub does : {A : Type 0} → List ActD → A → Step A
does acts a = record { acts = acts; value = Some a }

-- that is told, and reading goes on
abbrev pub notes : {A : Type 0} → DiagnosticD → A → Step A
notes d a = does (tells d ∷ []) a

-- that is told, and reading of the attribute ends
abbrev pub ends : {A : Type 0} → DiagnosticD → Step A
ends d = record { acts = tells d ∷ []; value = None }

abbrev pub and_then : {A B : Type 0} → List ActD → Option A → (A → Step B) → Step B
and_then acts None f = record { acts = acts; value = None }
and_then acts (Some a) f = record { acts = acts ++ (f a).acts; value = (f a).value }

infixl 10 ◌>>=◌
abbrev pub ◌>>=◌ : {A B : Type 0} → Step A → (A → Step B) → Step B
s >>= f = and_then s.acts s.value f
