-- What is kept of the pairs that were entered.
use Rattle.std.specs.Prelude.{◌≡◌, ℕ, List, true, is_some}
use Rattle.std.specs.BTreeMap.{BTreeMap, get_by_text}
use Rattle.std.specs.List.{list_any}
use Rattle.std.specs.declared.string.String.{String}
use Rattle.evolve_defs.specs.Spots.{Spots}
use Rattle.evolve_walks.specs.Same.{same_spots, spots_key}

-- something is kept at the key of each pair
abbrev pub AreKeyed : {Y : Type 0} → BTreeMap (String Y) ℕ → List Spots → Type 0
AreKeyed kept ps = (p : Spots) → list_any (same_spots p) ps ≡ true → is_some (get_by_text kept (spots_key p)) ≡ true
