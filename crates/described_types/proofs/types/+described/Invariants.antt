use Rattle.std.proofs.Common.{◌≡◌, ◌++◌, map, drop}
use Rattle.value_models.specs.TypeView.{types_view}
use Rattle.json_value.specs.View.{kept_view}
use Rattle.describe_defs.specs.Written.{type_value}
use Rattle.described_types.proofs.types.+described.Given as goal

abbrev pub invariant-type_values-loop-ty : goal.invariant-type_values-loop-ty
invariant-type_values-loop-ty l = map kept_view l.values.items ++ map type_value (types_view (drop l.ty-index l.types)) ≡ map type_value (types_view l.types)
