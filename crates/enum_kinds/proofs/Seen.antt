-- The kind of a number, however serde_json holds it.
use Rattle.std.proofs.Common.{◌≡◌, refl}
use Rattle.serde_json.specs.Data.{Num, unsigned, negative, float}
use Rattle.json_value.specs.View.{number_value}
use Rattle.schema_defs.specs.declared.InstanceType.TheVariants.{Number}
use Rattle.enum_defs.specs.Kinds.{kind_of_type, kind_of_value}

pub number_kind : (n : Num) → kind_of_value (number_value n) ≡ kind_of_type Number
number_kind (unsigned n) = refl
number_kind (negative z) = refl
number_kind (float x) = refl
