-- Lines that name an item.
use Rattle.std.specs.Prelude.{ℕ, List, ◌++◌, codes, Option, Some, None, option_map, option_and_then}
use Rattle.std.specs.List.{slice_get}
use Rattle.syntax_trees.specs.Item.{ItemD}

-- a lead, and a name behind it where there is one
abbrev pub named : List ℕ → Option (List ℕ) → List ℕ
named lead None = lead ++ codes "\n"
named lead (Some n) = lead ++ codes " " ++ n ++ codes "\n"

-- with the name of the item at a place
abbrev pub item_line : List ℕ → List ItemD → Option ℕ → List ℕ
item_line lead is o = named lead (option_and_then (λ i. option_map (λ (d : ItemD). d.name.text) (slice_get is i)) o)
