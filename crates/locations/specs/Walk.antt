-- The ends of a walk; the root stands for them where it has no place.
use Rattle.std.specs.Prelude.{List, [], ◌∷◌}
use Rattle.schema_defs.specs.Location.{Location}

abbrev pub first_of_walk : List Location → Location
first_of_walk [] = []
first_of_walk (l ∷ ls) = l

abbrev pub last_of_walk : List Location → Location
last_of_walk [] = []
last_of_walk (l ∷ []) = l
last_of_walk (l ∷ m ∷ ls) = last_of_walk (m ∷ ls)
