use Rattle.value_types.specs.ShapeView.{type_in}
use Rattle.value_types.proofs.Sizes.{type_size}
use Rattle.derive_model.proofs.kinds.+kinds_of.Given as goal

abbrev pub decreases-kinds_of : goal.decreases-kinds_of
decreases-kinds_of l = type_size (type_in l.ty.now)
