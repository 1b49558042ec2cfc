-- What is asked at pairs, as the checker says it.
use Rattle.std.specs.Prelude.{◌==◌, List, [], ◌∷◌, length, map, Option, Some, None, if◌then◌else◌}
use Rattle.model_defs.specs.Types.{TypeModel}
use Rattle.evolve_defs.specs.Steps as steps
use Rattle.evolve_defs.specs.Steps.{kind, range, rule, length_differs, tag_differs, variant_lost, missing, unknown, twice, rest_taken, Verdict, fails, holds}
use Rattle.evolve_defs.specs.Walk as walk
use Rattle.evolve_defs.specs.Walk.{stops, goes}
use Rattle.evolve_defs.specs.Spots.{Spot, Spots, of_type}
use Rattle.evolve_rows.specs.PlaceView.{place_view}
use Rattle.evolve_rows.specs.declared.turn.Broken as broken
use Rattle.evolve_rows.specs.declared.turn.Broken.TheVariants.{Kind, Range, Rule, Length, Tag, Variant, Missing, Unknown, Twice, Rest}
use Rattle.evolve_rows.specs.declared.turn.Pair.{Pair}
use Rattle.evolve_rows.specs.declared.turn.Turn.{Turn}
use Rattle.evolve_rows.specs.declared.turn.Turn.TheVariants.{Stops, Goes}

abbrev pub broken_view : broken.Broken → steps.Broken
broken_view Kind = kind
broken_view Range = range
broken_view Rule = rule
broken_view Length = length_differs
broken_view Tag = tag_differs
broken_view Variant = variant_lost
broken_view Missing = missing
broken_view Unknown = unknown
broken_view Twice = twice
broken_view Rest = rest_taken

abbrev pub pair_view : Pair → Spots
pair_view p = (place_view p.old, place_view p.new)

abbrev pub pairs_view : List Pair → List Spots
pairs_view ps = map pair_view ps

abbrev pub turn_view : Turn → walk.Turn Spots
turn_view (Stops e) = stops (broken_view e)
turn_view (Goes ps) = goes (pairs_view ps.items)

-- a rule that is broken or none
abbrev pub checked : Option broken.Broken → Verdict
checked None = holds
checked (Some e) = fails (broken_view e)

-- ---- pairs of spots

abbrev pub spots_of : List TypeModel → List Spot
spots_of ts = map of_type ts

abbrev pub to_one : List Spot → Spot → List Spots
to_one ps q = map (λ p. (p, q)) ps

abbrev pub from_one : Spot → List Spot → List Spots
from_one p qs = map (λ q. (p, q)) qs

abbrev pub by_place : List Spot → List Spot → List Spots
by_place (p ∷ ps) (q ∷ qs) = (p, q) ∷ by_place ps qs
by_place _ _ = []

-- place by place, where there are as many
abbrev pub by_lengths : List Spot → List Spot → walk.Turn Spots
by_lengths ps qs = if length ps == length qs then goes (by_place ps qs) else stops length_differs
