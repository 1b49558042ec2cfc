use Rattle.item_docs.proofs.Naming.{gives_none, gives_more, gives_all}
use Rattle.item_docs.proofs.docs.definition_docs.Goals as goal

pub loop-name-init : goal.loop-name-init
loop-name-init c = gives_none _ _ _ _ _ c.new-docs.ensures.items c.names-names.ensures.names

pub loop-name-preserved : goal.loop-name-preserved
loop-name-preserved c = gives_more _ _ _ _ _ _ _ _ _ _ _ c.loop-name.invariant c.in-Some.ensures c.in_ok-push.ensures.items c.in_ok-doc.ensures.named c.in_ok-doc.ensures.said

pub returns : goal.returns
returns c = gives_all _ _ _ _ _ _ c.loop-name.invariant c.in_default.ensures.0
