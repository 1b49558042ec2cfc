-- Names entered and looked up.
use Rattle.std.specs.Prelude.{◌≡◌, ℕ, List, [], ◌∷◌, Some, None, codes}
use Rattle.name_tables.specs.Names.{Names, place_of, all_entered}

-- b, a, and b once more
abbrev pub three : Names
three = (codes "b", 0) ∷ (codes "a", 1) ∷ (codes "b", 2) ∷ []

pub record ThreeEntered : Type 0 where
  pub in_order : all_entered three [] ≡ (codes "a", 1) ∷ (codes "b", 0) ∷ []
  pub kept : place_of (codes "b") (all_entered three []) ≡ Some 0
  pub other : place_of (codes "a") (all_entered three []) ≡ Some 1
  pub missing : place_of (codes "c") (all_entered three []) ≡ None
  pub shorter : place_of [] (all_entered three []) ≡ None
