use Rattle.std.proofs.Common.{◌≡◌, map, string_bytes, vec_len}
use Rattle.schema_defs.specs.Read.{name_set}
use Rattle.schema_reading.proofs.Lists.{with_names}
use Rattle.schema_reading.proofs.list.set_of.Given as goal

abbrev pub invariant-loop-text : goal.invariant-loop-text
invariant-loop-text l = name_set (map string_bytes l.fn.texts.items) ≡ with_names (map string_bytes l.texts.items) (map string_bytes l.names.keys)

abbrev pub decreases-loop-text : goal.decreases-loop-text
decreases-loop-text l = vec_len l.texts
