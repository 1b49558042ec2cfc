use Rattle.std.proofs.Common.{refl}
use Rattle.typed_defs.proofs.examples.written_enums.Goals as goal

pub returns : goal.returns
returns c = record { external_unit = refl; external_newtype = refl; external_struct = refl; internal_unit = refl; internal_struct = refl; internal_newtype = refl; adjacent_unit = refl; adjacent_struct = refl; untagged_second = refl; untagged_unit = refl; no_such_variant = refl }
