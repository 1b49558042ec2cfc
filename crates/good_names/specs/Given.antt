-- Names that are given one after another.
use Rattle.std.specs.Prelude.{◌≡◌, ◌<◌, ◌||◌, ◌++◌, ℕ, List, ◌∷◌, Bool, true, false, Option, Some, None, codes}
use Rattle.std.specs.BTreeSet.{contains_text}
use Rattle.naming_defs.specs.Names.{Names, is_among, numbered, free_name, given_name, as_value, prelude_values, taking, item_is_good, bound_is_good}
use Rattle.naming_defs.specs.Good.{is_good_name}
use Rattle.good_names.specs.declared.given.GivenNames.{GivenNames}

abbrev pub is_used : GivenNames → List ℕ → Bool
is_used s n = contains_text s.given n || contains_text s.beside n

-- ---- names that are kept off: those of values, where patterns bind what is named

-- an item's or the prelude's
abbrev pub has_value : GivenNames → List ℕ → Bool
has_value s n = is_among n prelude_values || contains_text s.given (as_value n)

abbrev pub nothing_off : List ℕ → Bool
nothing_off n = false

-- none, where the items aren't said
abbrev pub kept_off : Option GivenNames → List ℕ → Bool
kept_off None = nothing_off
kept_off (Some s) = has_value s

-- ---- what was given

-- the names that were given, the latest first, with those that are kept off, and those that are wanted beside them; no number below the next one is free
pub record StandsWithin (off : List ℕ → Bool) (s : GivenNames) (prefix : List ℕ) (given beside : Names) : Type 0 where
  pub given_are : (n : List ℕ) → (off n || contains_text s.given n) ≡ is_among n given
  pub beside_are : (n : List ℕ) → contains_text s.beside n ≡ is_among n beside
  pub below : (i : ℕ) → i < s.next → is_among (numbered prefix i) (given ++ beside) ≡ true

abbrev pub Stands : GivenNames → List ℕ → Names → Names → Type 0
Stands s prefix given beside = StandsWithin nothing_off s prefix given beside

-- what a naming gives, with the names that are taken after it
abbrev pub Named : Type 0 → Type 0
Named Y = Names × Y

-- names that are given follow a naming, whatever is taken before it and wanted beside
pub record DoesWithin {Y : Type 0} (off : List ℕ → Bool) (prefix : List ℕ) (old new : GivenNames) (y : Y) (naming : Names → Names → Named Y) : Type 0 where
  pub step : (beside t : Names) → StandsWithin off old prefix t beside → (y ≡ (naming beside t).1) × StandsWithin off new prefix (naming beside t).0 beside

abbrev pub Does : {Y : Type 0} → List ℕ → GivenNames → GivenNames → Y → (Names → Names → Named Y) → Type 0
Does prefix old new y naming = DoesWithin nothing_off prefix old new y naming

-- ---- a name by itself

-- where these may be given
abbrev pub name_given_by : (List ℕ → Bool) → List ℕ → List ℕ → Names → Names → Named (List ℕ)
name_given_by fits prefix wanted beside t = let n = given_name fits prefix t beside wanted in (n ∷ t, n)

abbrev pub name_given : List ℕ → List ℕ → Names → Names → Named (List ℕ)
name_given prefix wanted = name_given_by is_good_name prefix wanted

abbrev pub number_given : List ℕ → Names → Names → Named (List ℕ)
number_given prefix beside t = let n = free_name prefix (t ++ beside) in (n ∷ t, n)

-- an item's, which may stand for a value
abbrev pub item_given : Bool → List ℕ → Names → Names → Named (List ℕ)
item_given is_value wanted beside t = let n = given_name (item_is_good is_good_name) (codes "Type") t beside wanted in (taking is_value n t, n)

-- a field's of a variant
abbrev pub bound_given : List ℕ → Names → Names → Named (List ℕ)
bound_given wanted = name_given_by (bound_is_good is_good_name) (codes "field") wanted
