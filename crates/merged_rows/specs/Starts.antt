-- Where a conversion stands: a start, and the steps since. No schema on the way has a walk of its own, and none stands in what a merge made.
use Rattle.std.specs.Prelude.{List, [], ◌∷◌, ◌++◌, Bool, false, Option, Some, None, unwrap_or, if◌then◌else◌}
use Rattle.schema_defs.specs.Location.{Location}
use Rattle.schema_defs.specs.Schema.{Schema, boolean, object}
use Rattle.convert_defs.specs.Convert.{Handed}
use Rattle.convert_defs.specs.Row.{Part, child, of_branch, lone, made}
use Rattle.merge_walks.specs.Carried.{Walk, last_of, to_child, is_made, unmarked}
use Rattle.convert_walks.specs.Spot.{Spot, place_inside}
use Rattle.row_findings.specs.declared.part.Steps.{Steps}
use Rattle.row_findings.specs.View.{steps_view}
use Rattle.merged_rows.specs.declared.start.Start.{Start}
use Rattle.merged_rows.specs.declared.place.Place.{Place}

-- ---- trails

-- the walk that they continue, each by one step
abbrev pub walk_by : Walk → List Steps → Walk
walk_by w [] = w
walk_by w (k ∷ ks) = walk_by (to_child w (steps_view k)) ks

-- the steps one after the other
abbrev pub trail_steps : List Steps → Location
trail_steps [] = []
trail_steps (k ∷ ks) = steps_view k ++ trail_steps ks

-- behind its start a schema stands at the last location of its walk, and was not made
abbrev pub path_by : Start → List Steps → Location
path_by t [] = t.path
path_by t (k ∷ ks) = last_of (walk_by t.walk (k ∷ ks))

abbrev pub made_by : Start → List Steps → Bool
made_by t [] = t.made
made_by t (k ∷ ks) = false

abbrev pub spot_of : Start → List Steps → Handed → Spot
spot_of t ks h = record { handed = h; path = path_by t ks; walk = walk_by t.walk ks; in_made = made_by t ks }

-- ---- a schema inside

abbrev pub place_spot : Start → Place → Handed → Spot
place_spot t p h = spot_of (unwrap_or p.start t) p.trail.items h

-- with a start of its own, or one step further
abbrev pub spot_behind : Start → List Steps → Steps → Option Start → Handed → Spot
spot_behind t ks k None h = spot_of t (ks ++ k ∷ []) h
spot_behind t ks k (Some u) h = spot_of u [] h

-- the walk that a schema has itself
abbrev pub walk_in : Schema → Option Walk
walk_in (boolean b) = None
walk_in (object p ss ls ns) = p.walk

abbrev pub is_boolean : Schema → Bool
is_boolean (boolean b) = Bool.true
is_boolean (object p ss ls ns) = false

-- where a schema with that walk stands, and where one without, a boolean or not
abbrev pub walked_spot : Spot → Handed → Walk → Spot
walked_spot o h w = record { handed = h; path = if is_made w then o.path else last_of w; walk = unmarked w; in_made = is_made w }

abbrev pub plain_spot : Spot → Handed → Location → Bool → Spot
plain_spot o h k b =
    record { handed = h; path = place_inside o k; walk = if b then (if o.in_made then o.walk else to_child o.walk k) else to_child o.walk k; in_made = false }

-- ---- parts

-- a child has a name of its own
abbrev pub handed_to : Handed → Part → Handed
handed_to h (child k s) = None
handed_to h (of_branch k s) = None
handed_to h (lone k s) = h
handed_to h (made s) = h
