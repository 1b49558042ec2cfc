use Rattle.std.proofs.Common.{◌≡◌, ◌++◌, string_bytes}
use Rattle.std.specs.Str.Iter.{chars_rest}
use Rattle.schema_defs.specs.Location.{unescaped}
use Rattle.schema_faults.specs.Table.{left_after}
use Rattle.schema_faults.proofs.reference.unescaped.Given as goal

abbrev pub invariant-loop-c : goal.invariant-loop-c
invariant-loop-c l = unescaped l.text ≡ string_bytes l.name ++ left_after l.pending (chars_rest l.c-iterator)
