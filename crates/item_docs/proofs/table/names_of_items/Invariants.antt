use Rattle.std.proofs.Common.{◌≡◌, [], drop, map}
use Rattle.syntax_trees.specs.Item.{item_view}
use Rattle.name_tables.specs.Names.{all_entered}
use Rattle.item_docs.specs.Places.{places_from}
use Rattle.item_docs.proofs.table.names_of_items.Given as goal

abbrev pub invariant-loop-place : goal.invariant-loop-place
invariant-loop-place l = all_entered (places_from (λ i. i.name.text) l.place (map item_view (drop l.place l.items))) l.names ≡ all_entered (places_from (λ i. i.name.text) 0 (map item_view l.items)) []
