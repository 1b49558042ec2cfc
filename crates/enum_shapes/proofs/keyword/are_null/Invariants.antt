use Rattle.std.proofs.Common.{◌≡◌, map, length}
use Rattle.std.specs.List.{list_all}
use Rattle.json_value.specs.View.{kept_view}
use Rattle.enum_defs.specs.Words.{is_null}
use Rattle.enum_shapes.proofs.keyword.are_null.Given as goal

abbrev pub invariant-loop-value : goal.invariant-loop-value
invariant-loop-value l = list_all is_null (map kept_view l.values.items) ≡ list_all is_null (map kept_view l.left)

abbrev pub decreases-loop-value : goal.decreases-loop-value
decreases-loop-value l = length l.left
