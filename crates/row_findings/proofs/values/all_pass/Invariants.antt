use Rattle.std.proofs.Common.{◌≡◌, map, length}
use Rattle.std.specs.List.{list_all}
use Rattle.json_value.specs.View.{kept_view}
use Rattle.row_findings.specs.Kinds.{is_of_kind, passes}
use Rattle.row_findings.proofs.values.all_pass.Given as goal

abbrev pub invariant-loop-value : goal.invariant-loop-value
invariant-loop-value l = list_all (passes l.less_nulls (is_of_kind l.kind)) (map kept_view l.listed.items) ≡ list_all (passes l.less_nulls (is_of_kind l.kind)) (map kept_view l.left)

abbrev pub decreases-loop-value : goal.decreases-loop-value
decreases-loop-value l = length l.left
