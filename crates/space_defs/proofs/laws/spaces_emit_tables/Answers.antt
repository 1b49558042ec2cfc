use Rattle.space_defs.proofs.Emitted.{spaces_emit_tables}
use Rattle.space_defs.proofs.laws.spaces_emit_tables.Goals as goal

pub returns : goal.returns
returns c = spaces_emit_tables c.reaching_is_decided.ensures c.leading_is_decided.ensures c.boxes_are_exact.ensures
