use Rattle.std.proofs.Common.{◌≡◌, ◌++◌, string_bytes}
use Rattle.std.specs.Str.Iter.{chars_rest}
use Rattle.schema_defs.specs.Location.{unescaped}
use Rattle.tree_parts.specs.Decoding.{left_decodes}
use Rattle.tree_parts.proofs.reference.decoded.Given as goal

abbrev pub invariant-loop-c : goal.invariant-loop-c
invariant-loop-c l = unescaped l.fn.escaped ≡ string_bytes l.name ++ left_decodes l.behind (chars_rest l.c-iterator)
