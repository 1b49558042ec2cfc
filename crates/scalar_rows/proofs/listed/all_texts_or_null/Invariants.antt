use Rattle.std.proofs.Common.{◌≡◌, map, length}
use Rattle.std.specs.List.{list_all}
use Rattle.json_value.specs.View.{kept_view}
use Rattle.row_findings.specs.Kinds.{is_text_or_null, passes}
use Rattle.scalar_rows.proofs.listed.all_texts_or_null.Given as goal

abbrev pub invariant-loop-value : goal.invariant-loop-value
invariant-loop-value l = list_all (passes l.less_nulls is_text_or_null) (map kept_view l.listed.items) ≡ list_all (passes l.less_nulls is_text_or_null) (map kept_view l.left)

abbrev pub decreases-loop-value : goal.decreases-loop-value
decreases-loop-value l = length l.left
