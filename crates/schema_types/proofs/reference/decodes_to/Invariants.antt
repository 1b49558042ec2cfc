use Rattle.std.proofs.Common.{◌≡◌, bytes_eq, drop}
use Rattle.schema_defs.specs.Location.{unescaped}
use Rattle.schema_types.proofs.reference.decodes_to.Given as goal

abbrev pub invariant-loop-byte : goal.invariant-loop-byte
invariant-loop-byte l = bytes_eq (unescaped l.fn.escaped) l.fn.name ≡ bytes_eq (unescaped l.left) (drop l.byte-index l.byte-items)
