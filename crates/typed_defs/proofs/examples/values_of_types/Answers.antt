use Rattle.std.proofs.Common.{refl}
use Rattle.typed_defs.proofs.examples.values_of_types.Goals as goal

pub returns : goal.returns
returns c = record { a_byte = refl; no_byte = refl; a_text_is_no_byte = refl; no_option = refl; an_option = refl; no_option_of_that = refl; a_box = refl; a_set = refl; no_set = refl; a_map = refl; out_of_order = refl; a_tuple = refl; a_tuple_too_short = refl }
