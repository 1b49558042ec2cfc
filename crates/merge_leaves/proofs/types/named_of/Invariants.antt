use Rattle.std.proofs.Common.{◌≡◌, ◌++◌, ◌&&◌, drop}
use Rattle.std.specs.Prelude.{filter}
use Rattle.merge_defs.specs.Leaves.{names_type}
use Rattle.merge_leaves.proofs.types.named_of.Given as goal

abbrev pub invariant-loop-kind : goal.invariant-loop-kind
invariant-loop-kind l =
    l.named.items ++ filter (λ k. names_type l.first.items k && names_type l.second.items k) (drop l.kind-index l.all) ≡ filter (λ k. names_type l.first.items k && names_type l.second.items k) l.all
