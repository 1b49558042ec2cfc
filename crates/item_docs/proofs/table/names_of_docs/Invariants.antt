use Rattle.std.proofs.Common.{◌≡◌, [], drop, map}
use Rattle.module_texts.specs.Docs.{doc_view}
use Rattle.name_tables.specs.Names.{all_entered}
use Rattle.item_docs.specs.Places.{places_from}
use Rattle.item_docs.proofs.table.names_of_docs.Given as goal

abbrev pub invariant-loop-place : goal.invariant-loop-place
invariant-loop-place l = all_entered (places_from (λ x. x.item) l.place (map doc_view (drop l.place l.docs))) l.names ≡ all_entered (places_from (λ x. x.item) 0 (map doc_view l.docs)) []
