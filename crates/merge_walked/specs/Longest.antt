-- The longest of walks, one after the other.
use Rattle.std.specs.Prelude.{List, [], ◌∷◌, Option, Some, None}
use Rattle.merge_walks.specs.Carried.{Walk}
use Rattle.merge_walks.specs.Made.{longer}

abbrev pub longest_with : Option Walk → Walk → Walk
longest_with None w = w
longest_with (Some v) w = longer v w

-- of the one that was found before, if any, and the others
abbrev pub longest_so : Option Walk → List Walk → Option Walk
longest_so o [] = o
longest_so o (w ∷ ws) = longest_so (Some (longest_with o w)) ws
