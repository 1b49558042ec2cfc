use Rattle.item_docs.proofs.Naming.{wants_none, wants_more, wants_all}
use Rattle.item_docs.proofs.docs.wanted_names.Goals as goal

pub loop-name-init : goal.loop-name-init
loop-name-init c = wants_none _ _ _ c.new-given.ensures c.names-names.ensures.names

pub loop-name-preserved : goal.loop-name-preserved
loop-name-preserved c = wants_more _ _ _ _ _ _ c.loop-name.invariant c.in-Some.ensures c.in_ok-want.ensures

pub returns : goal.returns
returns c = wants_all _ _ _ c.loop-name.invariant c.in_default.ensures.0
