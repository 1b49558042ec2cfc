-- What a walk holds: the pairs that were entered, the last one first, and those that are left, of which the last is the next.
use Rattle.std.specs.Prelude.{◌≡◌, ℕ, List, [], ◌∷◌, reverse, Option, Some, None, if◌then◌else◌}
use Rattle.std.specs.List.{list_any}
use Rattle.evolve_defs.specs.Forms.{Table}
use Rattle.evolve_defs.specs.Spots.{Spots, spots_turn}
use Rattle.evolve_defs.specs.Walk as walk
use Rattle.evolve_defs.specs.Walk.{covered, broken_at}
use Rattle.evolve_rows.specs.TurnView.{broken_view, pair_view, pairs_view}
use Rattle.evolve_rows.specs.declared.turn.Pair.{Pair}
use Rattle.evolve_walks.specs.Same.{same_spots}
use Rattle.evolve_walks.specs.declared.entered.Seen.{Seen}
use Rattle.evolve_walks.specs.declared.walk.Walked.{Walked}
use Rattle.evolve_walks.specs.declared.walk.Walked.TheVariants.{Covered, Broken}

abbrev pub seen_view : Seen → List Spots
seen_view s = reverse (pairs_view s.pairs.items)

abbrev pub left_view : List Pair → List Spots
left_view ps = reverse (pairs_view ps)

abbrev pub walked_view : Walked → walk.Walked Spots
walked_view Covered = covered
walked_view (Broken p e ms) = broken_at (pair_view p) (broken_view e)

-- those that are left from the first that wasn't entered on
abbrev pub unseen : List Spots → List Spots → List Spots
unseen seen [] = []
unseen seen (p ∷ ps) = if list_any (same_spots p) seen then unseen seen ps else p ∷ ps

-- the next pair, if there is one, and those that are left behind it
abbrev pub next_view : Option Pair → List Pair → List Spots
next_view None ps = []
next_view (Some p) ps = pair_view p ∷ left_view ps

-- the walk from the pair, where so many as it needs may be entered
unfoldable pub EndsAs : Table → Table → Spots → walk.Walked Spots → Type 0
EndsAs old new from w = (n : ℕ) × (walk.walk same_spots (spots_turn old new) n [] (from ∷ []) ≡ w)

-- what the walk comes to from here, however many may be entered, it comes to from its start
unfoldable pub LeadsTo : Table → Table → Spots → List Spots → List Spots → Type 0
LeadsTo old new from seen left = (k : ℕ) (w : walk.Walked Spots) → walk.walk same_spots (spots_turn old new) k seen left ≡ w → EndsAs old new from w
