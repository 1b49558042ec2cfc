use Rattle.std.proofs.Common.{◌≡◌, drop, map}
use Rattle.entry_defs.specs.Entry.{Entries}
use Rattle.tree_types.specs.View.{parts_of, places_then, tree_view}
use Rattle.row_findings.specs.View.{part_view}
use Rattle.row_trees.specs.Build.{after_parts, built_places}
use Rattle.row_trees.proofs.lists.places_of.Given as goal

abbrev pub invariant-loop-part : goal.invariant-loop-part
invariant-loop-part l = record {
  places : (more : Entries) → places_then (parts_of l.places.items) (built_places (map part_view (drop l.part-index l.part-items)) (map tree_view l.trees.items) more) ≡ built_places (map part_view l.part-items) (map tree_view l.initial.trees.items) more;
  left : after_parts (map part_view (drop l.part-index l.part-items)) (map tree_view l.trees.items) ≡ after_parts (map part_view l.part-items) (map tree_view l.initial.trees.items);
}
