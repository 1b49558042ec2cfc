-- The way by which a walk came to a pair.
use Rattle.std.specs.Prelude.{List, ◌∷◌, map, reverse, Some, None}
use Rattle.evolve_defs.specs.Forms.{Table}
use Rattle.evolve_defs.specs.Spots.{Spots, node_at}
use Rattle.evolve_ways.specs.Ways as ways
use Rattle.evolve_ways.specs.Ways.{Told, IsStep, Leads}
use Rattle.evolve_rows.specs.MarksView.{mark_view}
use Rattle.evolve_rows.specs.TurnView.{pair_view}
use Rattle.evolve_rows.specs.declared.mark.Mark.{Mark}
use Rattle.evolve_walks.specs.declared.way.Trail.{Trail}
use Rattle.evolve_walks.specs.declared.walk.Walked.{Walked}
use Rattle.evolve_walks.specs.declared.walk.Walked.TheVariants.{Covered, Broken}

abbrev pub marks_view : List Mark → List ways.Mark
marks_view ms = map mark_view ms

-- a step that is told comes before the others
abbrev pub along : Told → List ways.Mark → List ways.Mark
along None ms = ms
along (Some m) ms = m ∷ ms

-- where a trail begins, and its marks, of which the program holds the last one first
abbrev pub Begun : Type 0
Begun = Spots × List ways.Mark

abbrev pub trail_view : Trail → Begun
trail_view t = (pair_view t.at, marks_view (reverse t.marks.items))

module _ (old new : Table) where
  unfoldable pub IsStepAt : Spots → Told → Spots → Type 0
  IsStepAt p m q = IsStep old new (node_at old p.0) (node_at new p.1) m (node_at old q.0) (node_at new q.1)

  -- from a pair of spots to another
  unfoldable pub IsWay : Spots → Spots → List ways.Mark → Type 0
  IsWay p q ms = Leads old new (node_at old q.0) (node_at new q.1) (node_at old p.0) (node_at new p.1) ms

  abbrev pub IsTrail : Spots → Begun → Type 0
  IsTrail to t = IsWay t.0 to t.1

  -- where a walk from a pair ends at one that breaks a rule, its way leads there
  abbrev pub IsOnWay : Spots → Walked → Type 0
  IsOnWay from Covered = Unit {0}
  IsOnWay from (Broken p e ms) = IsWay from (pair_view p) (marks_view ms.items)
