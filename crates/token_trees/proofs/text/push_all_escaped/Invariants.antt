use Rattle.std.proofs.Common.{◌≡◌, ◌++◌}
use Rattle.std.specs.Prelude.{string_bytes, flat_map}
use Rattle.token_trees.specs.Text.{escaped}
use Rattle.token_trees.proofs.text.push_all_escaped.Given as goal

abbrev pub invariant-loop-ch : goal.invariant-loop-ch
invariant-loop-ch l = string_bytes l.out ≡ string_bytes l.initial.out ++ flat_map escaped l.yielded
