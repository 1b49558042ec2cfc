-- Where definitions stand.
use Rattle.std.specs.Prelude.{ℕ, List, [], ◌∷◌, Bool, false, is_some, Some, codes}
use Rattle.schema_defs.specs.Location.{Location}
use Rattle.schema_defs.specs.Schema.{Document}
use Rattle.schema_defs.specs.Admits.{definition_word}
use Rattle.schema_defs.specs.Children.{schema_at}
use Rattle.convert_defs.specs.Convert.{Handed}
use Rattle.convert_walks.specs.Spot.{Spot}

-- whether the definition of the name stands under `$defs`
abbrev pub is_under_defs : Document → List ℕ → Bool
is_under_defs d n = is_some (schema_at d (codes "$defs" ∷ n ∷ []))

-- where a tree begins at a place
abbrev pub begun_at : Location → Handed → Spot
begun_at l h = record { handed = h; path = l; walk = l ∷ []; in_made = false }

-- the spot of the definition of the name
abbrev pub named_spot : Document → List ℕ → Spot
named_spot d n = begun_at (definition_word (is_under_defs d n) ∷ n ∷ []) (Some n)
