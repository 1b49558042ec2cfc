-- Where a schema is converted: the name that is handed down, the place at which its notes and faults are told, its walk, and whether a merge made it.
use Rattle.std.specs.Prelude.{List, [], ◌∷◌, ◌++◌, take, drop, Bool, true, false, Option, Some, None, unwrap_or, option_map, if◌then◌else◌}
use Rattle.schema_defs.specs.Location.{Location}
use Rattle.schema_defs.specs.Schema.{Schema, boolean, object}
use Rattle.convert_defs.specs.Convert.{Handed}
use Rattle.convert_defs.specs.Order.{same_place}
use Rattle.convert_defs.specs.Row.{Part, child, of_branch, lone, made}
use Rattle.merge_walks.specs.Carried.{Walk, last_of, to_child, is_made, unmarked}

pub record Spot : Type 0 where
  pub handed : Handed
  pub path : Location
  pub walk : Walk
  pub in_made : Bool

-- ---- a schema inside, so many steps below its owner

-- its own walk, or the owner's continued; a boolean in a schema that a merge made carries that schema's walk
abbrev pub walk_inside : Spot → Location → Schema → Walk
walk_inside o k (boolean b) = if o.in_made then o.walk else to_child o.walk k
walk_inside o k (object p ss ls ns) = unwrap_or (option_map unmarked p.walk) (to_child o.walk k)

-- one without a walk of its own stands below its owner's last location, and in a schema that a merge made at that schema's place
abbrev pub place_inside : Spot → Location → Location
place_inside o k = if o.in_made then o.path else last_of o.walk ++ k

-- a schema that a merge made has its owner's place, and one that a merge took over its own: the last location of its walk
abbrev pub path_by : Spot → Location → Option Walk → Location
path_by o k None = place_inside o k
path_by o k (Some w) = if is_made w then o.path else last_of w

abbrev pub path_inside : Spot → Location → Schema → Location
path_inside o k (boolean b) = place_inside o k
path_inside o k (object p ss ls ns) = path_by o k p.walk

abbrev pub made_by : Option Walk → Bool
made_by None = false
made_by (Some w) = is_made w

abbrev pub is_made_schema : Schema → Bool
is_made_schema (boolean b) = false
is_made_schema (object p ss ls ns) = made_by p.walk

abbrev pub spot_inside : Spot → Handed → Location → Schema → Spot
spot_inside o h k s = record { handed = h; path = path_inside o k s; walk = walk_inside o k s; in_made = is_made_schema s }

-- ---- branches: members by their steps

abbrev pub Branches : Type 0
Branches = List (Location × Schema)

abbrev pub branch_at : Location → Branches → Schema
branch_at k [] = boolean true
branch_at k (m ∷ ms) = if same_place k m.0 then m.1 else branch_at k ms

-- a keyword and a place lead to a branch
abbrev pub spot_of_branch : Spot → Branches → Location → Spot
spot_of_branch o ms k = spot_inside o None (take 2 k) (branch_at (take 2 k) ms)

-- ---- the parts of a row

abbrev pub part_spot : Spot → Branches → Part → Spot
part_spot o ms (child k s) = spot_inside o None k s
part_spot o ms (of_branch k s) = spot_inside (spot_of_branch o ms k) None (drop 2 k) s
part_spot o ms (lone k s) = spot_inside o o.handed k s
part_spot o ms (made s) = o

abbrev pub part_schema : Part → Schema
part_schema (child k s) = s
part_schema (of_branch k s) = s
part_schema (lone k s) = s
part_schema (made s) = s
