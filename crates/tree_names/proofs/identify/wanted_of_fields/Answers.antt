use Rattle.std.proofs.Common.{arith}
use Rattle.tree_names.proofs.Turns.{fields_wanted_end}
use Rattle.tree_names.proofs.identify.wanted_of_fields.Goals as goal

pub returns : goal.returns
returns c = fields_wanted_end _ c.deref-part-items.result.now c.args.fields.now.items c.loop-part.part-index c.loop-part.invariant (omega arith) c.deref-part-items.ensures.value
