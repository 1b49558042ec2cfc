use Rattle.std.proofs.Common.{◌≡◌}
use Rattle.syntax_trees.specs.View.{ty}
use Rattle.attr_parts.specs.Types.{ungrouped, groups}
use Rattle.attr_parts.proofs.types.ungroup.Given as goal

abbrev pub invariant-loop-elem : goal.invariant-loop-elem
invariant-loop-elem l = ungrouped (ty l.inner) ≡ ungrouped (ty l.fn.ty)

abbrev pub decreases-loop-elem : goal.decreases-loop-elem
decreases-loop-elem l = groups (ty l.inner)
