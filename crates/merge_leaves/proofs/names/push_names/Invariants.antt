use Rattle.std.proofs.Common.{◌≡◌, ◌++◌, map, string_bytes}
use Rattle.merge_leaves.proofs.names.push_names.Given as goal

abbrev pub invariant-loop-name : goal.invariant-loop-name
invariant-loop-name l = map (λ n. n.now) l.names.items ++ map string_bytes l.name-iterator ≡ map (λ n. n.now) l.fn.names.items ++ map string_bytes l.set.keys
