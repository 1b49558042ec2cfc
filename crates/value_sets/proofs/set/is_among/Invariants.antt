use Rattle.std.proofs.Common.{◌≡◌, drop, map}
use Rattle.std.specs.List.{list_any}
use Rattle.json_value.specs.Value.{same}
use Rattle.json_value.specs.View.{kept_view}
use Rattle.value_sets.proofs.set.is_among.Given as goal

abbrev pub invariant-loop-other : goal.invariant-loop-other
invariant-loop-other l = list_any (same (kept_view l.value)) (map kept_view l.values) ≡ list_any (same (kept_view l.value)) (map kept_view (drop l.other-index l.values))
