use Rattle.std.proofs.Common.{◌≡◌, ◌++◌}
use Rattle.std.specs.Vec.Iter.{into_iter_items}
use Rattle.document_merges.specs.Merges.{merges_view}
use Rattle.document_merges.proofs.gather.push_all.Given as goal

abbrev pub invariant-loop-merge : goal.invariant-loop-merge
invariant-loop-merge l = merges_view l.merges.items ++ merges_view (into_iter_items l.merge-iterator) ≡ merges_view l.initial.merges.items ++ merges_view l.fn.more.items
