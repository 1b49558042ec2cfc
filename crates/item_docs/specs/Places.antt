-- Names that are looked up, each with its place.
use Rattle.std.specs.Prelude.{ℕ, suc, List, [], ◌∷◌}
use Rattle.name_tables.specs.Names.{Names}

-- of each thing its name, from place i on
abbrev pub places_from : {A : Type 0} → (A → List ℕ) → ℕ → List A → Names
places_from name i [] = []
places_from name i (x ∷ xs) = (name x, i) ∷ places_from name (suc i) xs
