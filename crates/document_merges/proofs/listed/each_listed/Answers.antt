use Rattle.std.specs.Vec.Iter.{into_iter_items}
use Rattle.document_merges.proofs.Listing.{listed_turn}
use Rattle.document_merges.proofs.listed.each_listed.Goals as goal

pub loop-part-preserved : goal.loop-part-preserved
loop-part-preserved c =
    listed_turn c.loop-part.listed.items c.push.new.self.items c.in-Some.part (into_iter_items c.loop-part.part-iterator) (into_iter_items c.next.new.self) _ c.in_ok-push.ensures.items c.in-Some.ensures.steps.0 c.loop-part.invariant
