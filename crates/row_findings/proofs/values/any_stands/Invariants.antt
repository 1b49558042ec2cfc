use Rattle.std.proofs.Common.{◌≡◌, map, length}
use Rattle.std.specs.List.{list_any}
use Rattle.json_value.specs.View.{kept_view}
use Rattle.row_findings.specs.Kinds.{is_of_kind, stands}
use Rattle.row_findings.proofs.values.any_stands.Given as goal

abbrev pub invariant-loop-value : goal.invariant-loop-value
invariant-loop-value l = list_any (stands l.less_nulls (is_of_kind l.kind)) (map kept_view l.listed.items) ≡ list_any (stands l.less_nulls (is_of_kind l.kind)) (map kept_view l.left)

abbrev pub decreases-loop-value : goal.decreases-loop-value
decreases-loop-value l = length l.left
