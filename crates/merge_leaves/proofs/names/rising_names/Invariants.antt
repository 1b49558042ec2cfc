use Rattle.std.proofs.Common.{◌≡◌, [], map, length, string_bytes, string_cmp}
use Rattle.std.specs.List.Sorted.{IsStrictlySortedBy}
use Rattle.merge_defs.specs.Objects.{put_names}
use Rattle.merge_leaves.proofs.names.rising_names.Given as goal

abbrev pub invariant-loop-name : goal.invariant-loop-name
invariant-loop-name l = record {
  rest : put_names (map (λ n. n.now) l.names.items) (map string_bytes l.found.keys) ≡ put_names (map (λ n. n.now) l.fn.names.items) [];
  sorted : IsStrictlySortedBy string_cmp l.found.keys;
}

abbrev pub decreases-loop-name : goal.decreases-loop-name
decreases-loop-name l = length l.names.items
