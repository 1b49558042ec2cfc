use Rattle.typify_convert.proofs.collect.unread_by_items.Goals as goal

pub returns-clause-unread : goal.returns-clause-unread
returns-clause-unread g c = c.in_ok-found.ensures.found.unread
