use Rattle.std.proofs.Common.{◌≡◌, ◌++◌, map, drop}
use Rattle.json_value.specs.View.{kept_view}
use Rattle.convert_defs.specs.Scalars.{non_null}
use Rattle.space_trees.proofs.copies.copy_non_nulls.Given as goal

abbrev pub invariant-loop-value : goal.invariant-loop-value
invariant-loop-value l = map kept_view l.copies.items ++ non_null (map kept_view (drop l.value-index l.from.items)) ≡ non_null (map kept_view l.from.items)
