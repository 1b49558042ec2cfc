-- The ways that those of the program stand for.
use Rattle.std.specs.Prelude.{List, [], map, string_bytes}
use Rattle.evolve_ways.specs.Ways as ways
use Rattle.evolve_ways.specs.Ways.{field_mark, variant_mark, item_mark, place_mark, name_mark, value_mark, rest_mark}
use Rattle.evolve_walks.specs.Way.{marks_view}
use Rattle.evolve_walks.specs.declared.walk.Walked.{Walked}
use Rattle.evolve_walks.specs.declared.walk.Walked.TheVariants as walked
use Rattle.model_evolve.specs.declared.node.Mark.{Mark}
use Rattle.model_evolve.specs.declared.node.Mark.TheVariants.{Field, Variant, Item, Place, Name, Value, Rest}
use Rattle.model_evolve.specs.declared.node.Covered.{Covered}
use Rattle.model_evolve.specs.declared.node.Covered.TheVariants.{Yes, No}

abbrev pub mark_view : Mark → ways.Mark
mark_view (Field n) = field_mark (string_bytes n)
mark_view (Variant n) = variant_mark (string_bytes n)
mark_view Item = item_mark
mark_view (Place n) = place_mark n
mark_view Name = name_mark
mark_view Value = value_mark
mark_view Rest = rest_mark

abbrev pub way_view : List Mark → List ways.Mark
way_view ms = map mark_view ms

-- the way of an answer, and that of a walk
abbrev pub way_in : Covered → List ways.Mark
way_in Yes = []
way_in (No a b e way) = way_view way.items

abbrev pub way_walked : Walked → List ways.Mark
way_walked walked.Covered = []
way_walked (walked.Broken p e ms) = marks_view ms.items
