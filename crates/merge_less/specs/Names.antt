-- The properties that are left, name by name.
use Rattle.std.specs.Prelude.{[], ◌∷◌, List, ℕ, true, false}
use Rattle.schema_defs.specs.Schema.{Schema, Properties, no_properties}
use Rattle.schema_defs.specs.Layer.{property_at}
use Rattle.enum_defs.specs.Words.{is_name}
use Rattle.merge_defs.specs.Outcome.{Outcome, answer, and_then}
use Rattle.merge_defs.specs.Objects.{put_property}
use Rattle.merge_defs.specs.Less.{less_name}

module _ (less : Schema → Schema → Outcome Schema) (ps qs : Properties) (required needed : List (List ℕ)) where
  -- a name, before others: where it is required and false, there is nothing but never
  abbrev pub left_then : List ℕ → Outcome Properties → Outcome Properties
  left_then n after = and_then (less_name less (is_name n needed) (property_at n ps) (property_at n qs)) (λ s. put_property true (is_name n required) false [] n s after)

  -- all names, one after another
  abbrev pub names_left : List (List ℕ) → Outcome Properties
  names_left [] = answer [] no_properties
  names_left (n ∷ ns) = left_then n (names_left ns)
