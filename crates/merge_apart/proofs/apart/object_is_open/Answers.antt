use Rattle.merge_apart.proofs.Forms.{not_open}
use Rattle.merge_apart.proofs.apart.object_is_open.Goals as goal

pub returns-else-is_empty : goal.returns-else-is_empty
returns-else-is_empty c = not_open c.args.object.now c.in-Some.members c.is_empty.result c.in-Some.is c.is_empty.ensures c.if-is_empty.false
