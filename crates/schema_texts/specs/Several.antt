-- A text that a separator stands in.
use Rattle.std.specs.Prelude.{◌≡◌, ℕ, List, ◌∷◌}

-- two pieces or more
pub record HasSeveral (ps : List (List ℕ)) : Type 0 where
  pub first : List ℕ
  pub second : List ℕ
  pub others : List (List ℕ)
  pub whole : ps ≡ first ∷ second ∷ others
