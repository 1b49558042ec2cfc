-- What the program's places in the table of defaults say.
use Rattle.std.specs.Prelude.{◌≡◌, ℕ, ◌≤◌, ◌^◌, Option, Some, None}
use Rattle.item_models.specs.declared.default_model.Place.{Place}
use Rattle.item_models.specs.declared.default_model.Place.TheVariants.{Nowhere, At, Far}

-- one that a u64 doesn't hold
abbrev pub IsPast : Option ℕ → Type 0
IsPast o = (n : ℕ) × (o ≡ Some n) × (2 ^ 64 ≤ n)

-- none is named, that one, or one past a u64's end
abbrev pub IsPlace : Option ℕ → Place → Type 0
IsPlace o Nowhere = o ≡ None
IsPlace o (At n) = o ≡ Some n
IsPlace o Far = IsPast o
