use Rattle.std.proofs.Common.{◌≡◌, map, length}
use Rattle.std.specs.List.{list_any}
use Rattle.json_value.specs.Value.{same, boolean}
use Rattle.json_value.specs.View.{kept_view}
use Rattle.row_findings.specs.Kinds.{stands}
use Rattle.row_findings.proofs.values.has_boolean.Given as goal

abbrev pub invariant-loop-value : goal.invariant-loop-value
invariant-loop-value l = list_any (stands l.less_nulls (same (boolean l.wanted))) (map kept_view l.listed.items) ≡ list_any (stands l.less_nulls (same (boolean l.wanted))) (map kept_view l.left)

abbrev pub decreases-loop-value : goal.decreases-loop-value
decreases-loop-value l = length l.left
