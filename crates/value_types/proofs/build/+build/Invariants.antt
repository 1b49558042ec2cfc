use Rattle.std.proofs.Common.{◌≡◌, take}
use Rattle.model_defs.specs.Types.{types}
use Rattle.value_models.specs.TypeView.{types_view}
use Rattle.value_types.specs.ShapeView.{type_in, types_in}
use Rattle.value_types.proofs.Sizes.{type_size, types_size}
use Rattle.value_types.proofs.build.+build.Given as goal

abbrev pub decreases-value_type : goal.decreases-value_type
decreases-value_type l = type_size (type_in l.ty.now)

abbrev pub decreases-value_types : goal.decreases-value_types
decreases-value_types l = types_size (types (types_in l.tys.now))

abbrev pub invariant-value_types-loop-ty : goal.invariant-value_types-loop-ty
invariant-value_types-loop-ty l = types_view l.types.items ≡ types_in (take l.ty-index l.tys)
