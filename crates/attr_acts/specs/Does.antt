-- What a function that reads a part of a meta does: its acts stand after the old ones, and it answers what the part is.
use Rattle.std.specs.Prelude.{◌≡◌, List, ◌++◌, Bool, Option, Some, None, option_map, cond}
use Rattle.token_trees.specs.declared.token.Span.{Span}
use Rattle.attr_defs.specs.Acts.{ActD}
use Rattle.attr_defs.specs.Steps.{Step, ◌>>=◌}
use Rattle.attr_defs.specs.Halves.{Given, given, Halves, joined}

pub record Does {A : Type 0} (old new : List ActD) (found : Option A) (step : Step A) : Type 0 where
  pub acts : new ≡ old ++ step.acts
  pub answer : found ≡ step.value

-- A meta of a list: its acts, and its values after those before it; or reading ends.
pub record Joins {A : Type 0} (old new : List ActD) (before after : Halves A) (goes_on : Bool) (step : Step (Halves A)) : Type 0 where
  pub acts : new ≡ old ++ step.acts
  pub values : option_map (joined before) step.value ≡ cond goes_on (Some after) None

-- a value of a half: its acts, and the value after those before it; or reading ends
pub record Adds {A : Type 0} (old new : List ActD) (before after : List (Given A)) (at : Span) (goes_on : Bool) (step : Step (Option A)) : Type 0 where
  pub acts : new ≡ old ++ step.acts
  pub values : option_map (λ o. before ++ given at o) step.value ≡ cond goes_on (Some after) None

-- one part, and then the next
abbrev pub followed : {A B : Type 0} → Step A → (A → Step B) → Step B
followed s f = s >>= f
