use Rattle.std.proofs.Common.{◌≡◌, length}
use Rattle.enum_defs.specs.Kinds.{join, union, kind_of_type}
use Rattle.enum_kinds.proofs.set.kinds_of_names.Given as goal

abbrev pub invariant-loop-name : goal.invariant-loop-name
invariant-loop-name l = union kind_of_type l.names.items ≡ join l.kinds (union kind_of_type l.left)

abbrev pub decreases-loop-name : goal.decreases-loop-name
decreases-loop-name l = length l.left
