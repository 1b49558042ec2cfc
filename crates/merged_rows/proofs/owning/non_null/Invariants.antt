use Rattle.std.proofs.Common.{◌≡◌, ◌++◌, map, drop, not}
use Rattle.std.specs.Prelude.{filter}
use Rattle.json_value.specs.View.{kept_view}
use Rattle.model_defs.specs.Layer.{is_null}
use Rattle.merged_rows.proofs.owning.non_null.Given as goal

abbrev pub invariant-loop-value : goal.invariant-loop-value
invariant-loop-value l =
    map kept_view l.kept.items ++ filter (λ v. not (is_null v)) (map kept_view (drop l.value-index l.value-items)) ≡ filter (λ v. not (is_null v)) (map kept_view l.value-items)
