-- Numbers of either kind, and remainders by nothing.
use Rattle.std.proofs.Common.{◌≡◌, ℤ, pos, negsuc, true, false, refl, ap}
use Rattle.std.proofs.Math.Nat.{mod-zero}
use Rattle.std.specs.Prelude.{int_rem}
use Rattle.std.specs.Ordering.{int_eq}
use Rattle.serde_json.specs.Data.{Num, unsigned, negative, float}
use Rattle.json_value.specs.View.{number_value}
use Rattle.schema_defs.specs.Layer.{is_kind}
use Rattle.schema_defs.specs.Admits.{counts_as_absent}
use Rattle.schema_defs.specs.declared.Setting.TheVariants.{NullAbsent}
use Rattle.schema_defs.specs.declared.InstanceType.TheVariants.{Number}

pub is_number : (n : Num) → is_kind (number_value n) Number ≡ true
is_number (unsigned n) = refl
is_number (negative z) = refl
is_number (float x) = refl

pub number_is_no_absence : (n : Num) → counts_as_absent NullAbsent (number_value n) ≡ false
number_is_no_absence (unsigned n) = refl
number_is_no_absence (negative z) = refl
number_is_no_absence (float x) = refl

pub rem_by_zero : (z : ℤ) → int_eq (int_rem z (pos 0)) (pos 0) ≡ int_eq z (pos 0)
rem_by_zero (pos a) = ap (λ n. int_eq (pos n) (pos 0)) (mod-zero a)
rem_by_zero (negsuc a) = rw mod-zero refl
