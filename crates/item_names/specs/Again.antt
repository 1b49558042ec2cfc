-- Names that come again, in a table of their own.
use Rattle.std.specs.Prelude.{◌≡◌, ◌&&◌, not, ℕ, List, Bool, is_some, bytes_eq, filter, if◌then◌else◌}
use Rattle.name_tables.specs.Names.{Names, place_of, entered}
use Rattle.container_defs.specs.Checks.{is_one}

abbrev pub is_entered : List ℕ → Names → Bool
is_entered n t = is_some (place_of n t)

-- a name that was seen is entered among those that come again
abbrev pub entered_again : List ℕ → Names → Names → Names
entered_again n seen again = if is_entered n seen then entered n 0 again else again

-- one alone of these has a name, where it was seen and didn't come again
pub record AreCounted (ns : List (List ℕ)) (seen again : Names) : Type 0 where
  pub counted : (n : List ℕ) → is_one (filter (bytes_eq n) ns) ≡ (is_entered n seen && not (is_entered n again))
