use Rattle.std.proofs.Common.{◌≡◌, ◌++◌, map, take, string_bytes}
use Rattle.merge_leaves.proofs.texts.push_texts.Given as goal

abbrev pub invariant-loop-text : goal.invariant-loop-text
invariant-loop-text l = map (λ n. n.now) l.names.items ≡ map (λ n. n.now) l.fn.names.items ++ map string_bytes (take l.text-index l.text-items)
