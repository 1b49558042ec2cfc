use Rattle.std.proofs.Common.{◌+◌, map, drop, ap, sym, ◌∙◌}
use Rattle.schema_defs.proofs.Turns.{mapped_drop}
use Rattle.entry_defs.specs.Entry.{Entries}
use Rattle.tree_types.specs.View.{parts_of, places_then, tree_view}
use Rattle.row_findings.specs.View.{part_view}
use Rattle.row_trees.specs.Build.{after_parts, built_places}
use Rattle.row_trees.proofs.Turns.{parts_turn, places_turn}
use Rattle.row_trees.proofs.lists.places_of.Goals as goal

pub loop-part-preserved : goal.loop-part-preserved
loop-part-preserved c =
    let parts = c.deref-part-items.result.now in
    let i = c.loop-part.part-index in
    let x = c.part-item.result in
    let whole = map tree_view c.args.trees.now.items in
    let es = map tree_view c.loop-part.trees.items in
    let es' = map tree_view c.first_tree.new.trees.items in
    let done = parts_of c.loop-part.places.items in
    let done' = parts_of c.in_ok-places.places.items in
    let step = mapped_drop part_view parts i x c.loop-part-test.true c.part-item.is in
    record {
      places = places_turn (λ (m : Entries). built_places (map part_view parts) whole m) (λ (m : Entries). places_then done m) (λ (m : Entries). places_then done' m)
          (part_view x) (map part_view (drop (i + 1) parts)) (tree_view c.in_ok-tree.tree) es es'
          (λ m. ap (λ ps. places_then done (built_places ps es m)) (sym step) ∙ c.loop-part.invariant.places m)
          c.in_ok-tree.ensures c.in_ok-places.ensures;
      left = parts_turn (part_view x) (map part_view (drop (i + 1) parts)) (tree_view c.in_ok-tree.tree) es es' (after_parts (map part_view parts) whole)
          (ap (λ ps. after_parts ps es) (sym step) ∙ c.loop-part.invariant.left) c.in_ok-tree.ensures;
    }
