use Rattle.std.proofs.Common.{◌≡◌, ◌++◌, map}
use Rattle.std.specs.Vec.Iter.{into_iter_items}
use Rattle.row_findings.specs.View.{part_view}
use Rattle.document_merges.specs.Listed.{listed_view}
use Rattle.document_merges.proofs.listed.each_listed.Given as goal

abbrev pub invariant-loop-part : goal.invariant-loop-part
invariant-loop-part l = listed_view l.listed.items ++ map (λ p. part_view p.now) (into_iter_items l.part-iterator) ≡ map (λ p. part_view p.now) l.fn.parts.items
