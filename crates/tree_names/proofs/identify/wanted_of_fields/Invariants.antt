use Rattle.std.proofs.Common.{ℕ, List, [], map, take}
use Rattle.good_names.specs.Given.{Stands}
use Rattle.tree_names.specs.Seen.{part_view, names_of}
use Rattle.tree_names.proofs.identify.wanted_of_fields.Given as goal

abbrev pub invariant-loop-part : goal.invariant-loop-part
invariant-loop-part l = (prefix : List ℕ) → Stands l.names prefix [] (names_of (map part_view (take l.part-index l.part-items)))
