use Rattle.std.proofs.Common.{◌≡◌, drop}
use Rattle.example_parts.proofs.NativeTypes.{any_native}
use Rattle.example_parts.proofs.native.+native.Given as goal

abbrev pub invariant-name_native-loop-ty : goal.invariant-name_native-loop-ty
invariant-name_native-loop-ty l = any_native (drop l.ty-index l.tys) ≡ any_native l.tys
