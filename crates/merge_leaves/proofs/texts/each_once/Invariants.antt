use Rattle.std.proofs.Common.{◌≡◌, ◌++◌, map, drop, string_bytes}
use Rattle.merge_defs.specs.Leaves.{each_once}
use Rattle.merge_leaves.proofs.Patterns.{fresh}
use Rattle.merge_leaves.proofs.texts.each_once.Given as goal

abbrev pub invariant-loop-text : goal.invariant-loop-text
invariant-loop-text l = map string_bytes l.kept.items ++ fresh l.seen (map (λ n. n.now) (drop l.text-index l.text-items)) ≡ each_once (map (λ n. n.now) l.text-items)
