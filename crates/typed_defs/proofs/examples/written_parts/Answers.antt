use Rattle.std.proofs.Common.{refl}
use Rattle.typed_defs.proofs.examples.written_parts.Goals as goal

pub returns : goal.returns
returns c = record { a_scalar = refl; a_text = refl; any_value = refl; no_option = refl; an_option = refl; a_box = refl; a_vec = refl; a_map = refl; a_tuple = refl; another_type = refl }
