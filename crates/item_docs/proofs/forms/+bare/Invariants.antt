use Rattle.std.proofs.Common.{◌+◌}
use Rattle.value_types.specs.ShapeView.{type_in}
use Rattle.value_types.proofs.Sizes.{type_size}
use Rattle.item_docs.proofs.forms.+bare.Given as goal

abbrev pub decreases-bare : goal.decreases-bare
decreases-bare l = type_size (type_in l.ty.now) + type_size (type_in l.ty.now)

abbrev pub decreases-bare_holder : goal.decreases-bare_holder
decreases-bare_holder l = type_size (type_in l.inner.now) + type_size (type_in l.inner.now) + 1
