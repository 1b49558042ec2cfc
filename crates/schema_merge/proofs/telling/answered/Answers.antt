use Rattle.schema_merge.proofs.InOrder.{told_so}
use Rattle.schema_merge.proofs.telling.answered.Goals as goal

pub returns : goal.returns
returns c o h = told_so c.args.place.now o _ _ _ _ _ h c.in_ok-schema.ensures c.in_ok-notes.ensures c.in_ok-notes-2.ensures
