use Rattle.std.proofs.Common.{refl}
use Rattle.typed_defs.proofs.examples.values_of_items.Goals as goal

pub returns : goal.returns
returns c = record { a_struct = refl; a_field_too_few = refl; a_newtype = refl; a_variant = refl; no_such_variant = refl }
