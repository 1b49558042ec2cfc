use Rattle.std.proofs.Common.{◌∙◌, sym, arith}
use Rattle.schema_types.proofs.References.{decoded_end}
use Rattle.schema_types.proofs.reference.decodes_to.Goals as goal

pub returns : goal.returns
returns c = c.is_empty.ensures ∙ decoded_end c.loop-byte.left.now c.as_bytes-byte-items.result.now c.loop-byte.byte-index (omega arith) ∙ sym c.loop-byte.invariant
