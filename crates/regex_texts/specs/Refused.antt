-- When the judge by `regex` fails.
use Rattle.std.specs.Prelude.{◌≡◌, ◌≢◌, ℕ, List, ◌∷◌, Bool, Contains, map, Some}
use Rattle.regex.specs.Strings.{IsDefaultFailure}
use Rattle.regex.specs.declared.error.Error.{Error}
use Rattle.regex.specs.declared.error.Error.TheVariants.{OutOfMemory, Internal}
use Rattle.plain_patterns.specs.Ends.{Searched, rewritten}

abbrev pub beside_sources : List (List ℕ × Bool) → List (List ℕ)
beside_sources looks = map (λ (l : List ℕ × Bool). l.0) looks

-- all that is searched for
abbrev pub sources : Searched → List (List ℕ)
sources searched = searched.own ∷ beside_sources searched.beside

-- `regex` doesn't build one of the sources: it is nested too deep, its counts are too large, or what is built of it would be
abbrev pub IsUnbuilt : List (List ℕ) → Error → Type 0
IsUnbuilt all error = (source : List ℕ) × Contains all source × IsDefaultFailure source error

-- the pattern is plain, and `regex` doesn't build what is written for it
abbrev pub IsRefused : List ℕ → Type 0
IsRefused pattern =
    (searched : Searched) × (error : Error) × (rewritten pattern ≡ Some searched) × (error ≢ OutOfMemory) × (error ≢ Internal)
    × IsUnbuilt (sources searched) error
