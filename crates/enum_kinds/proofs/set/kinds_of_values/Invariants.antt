use Rattle.std.proofs.Common.{◌≡◌, length, map}
use Rattle.json_value.specs.View.{kept_view}
use Rattle.enum_defs.specs.Kinds.{join, union, kind_of_value}
use Rattle.enum_kinds.proofs.set.kinds_of_values.Given as goal

abbrev pub invariant-loop-value : goal.invariant-loop-value
invariant-loop-value l = union kind_of_value (map kept_view l.values.items) ≡ join l.kinds (union kind_of_value (map kept_view l.left))

abbrev pub decreases-loop-value : goal.decreases-loop-value
decreases-loop-value l = length l.left
