-- What a read and a write do to the bytes that a source and a sink tell of. Nothing is said of the bytes of one that
-- doesn't tell, but that it doesn't tell later either.
use Rattle.std.specs.Prelude.{◌≡◌, ℕ, List, [], ◌++◌, Option, IfSome}
use Rattle.std.specs.Option.{option_map}

-- p is a front of bs
abbrev pub IsPrefix : List ℕ → List ℕ → Type 0
IsPrefix p bs = (rest : List ℕ) × (bs ≡ p ++ rest)

-- what was left began with bs, and they were taken off
abbrev pub Takes : Option (List ℕ) → Option (List ℕ) → List ℕ → Type 0
Takes old new bs = old ≡ option_map (λ rest. bs ++ rest) new

-- what was written grew by bs at its end
abbrev pub Appends : Option (List ℕ) → Option (List ℕ) → List ℕ → Type 0
Appends old new bs = new ≡ option_map (λ held. held ++ bs) old

-- what was written grew by a front of bs
abbrev pub AppendsPrefix : Option (List ℕ) → Option (List ℕ) → List ℕ → Type 0
AppendsPrefix old new bs = (p : List ℕ) × IsPrefix p bs × Appends old new p

-- nothing is left, where that is told
abbrev pub IsSpent : Option (List ℕ) → Type 0
IsSpent left = IfSome left (λ rest. rest ≡ [])
