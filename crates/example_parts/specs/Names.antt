-- The names by which fields and variants are found: those that no earlier one has.
use Rattle.std.specs.Prelude.{ℕ, zero, suc, List, [], ◌∷◌, ◌++◌, map, get_or, Option, if◌then◌else◌}
use Rattle.model_defs.specs.Model.{FieldModel, VariantModel}
use Rattle.example_defs.specs.Built.{found_name}

-- the names of a field; a rest is found by none
abbrev pub own_names : FieldModel → List (List ℕ)
own_names f = if f.is_rest then [] else f.deserialize_names

abbrev pub names_of_fields : List FieldModel → List (List (List ℕ))
names_of_fields fs = map own_names fs

abbrev pub names_of_variants : List VariantModel → List (List (List ℕ))
names_of_variants ws = map (λ w. w.deserialize_names) ws

-- the names of so many from the first on, those of the last first, behind which others stand
abbrev pub names_before : List (List ℕ) → List (List (List ℕ)) → ℕ → List (List ℕ)
names_before earlier nss zero = earlier
names_before earlier [] (suc i) = earlier
names_before earlier (ns ∷ nss) (suc i) = names_before (ns ++ earlier) nss i

-- the name by which the one at a place is found
abbrev pub name_found : List (List (List ℕ)) → ℕ → Option (List ℕ)
name_found nss i = found_name (names_before [] nss i) (get_or nss i [])
