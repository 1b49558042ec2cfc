use Rattle.std.proofs.Common.{◌≡◌, ◌++◌, map, drop}
use Rattle.std.specs.Prelude.{filter}
use Rattle.json_value.specs.View.{kept_view}
use Rattle.merge_leaves.specs.Keep.{keeps}
use Rattle.merge_leaves.proofs.kept.kept_values.Given as goal

abbrev pub invariant-loop-value : goal.invariant-loop-value
invariant-loop-value l = map kept_view l.kept.items ++ filter (keeps l.keep) (map kept_view (drop l.value-index l.value-items)) ≡ filter (keeps l.keep) (map kept_view l.value-items)
