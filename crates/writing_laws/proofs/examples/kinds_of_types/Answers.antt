use Rattle.std.proofs.Common.{refl}
use Rattle.writing_laws.proofs.examples.kinds_of_types.Goals as goal

pub returns : goal.returns
returns c = record { a_byte = refl; a_byte_is_no_text = refl; an_option = refl; of_its_type = refl; anything = refl; a_map = refl; a_tuple = refl; no_item = refl; a_struct = refl; a_newtype = refl; itself = refl; a_unit = refl; no_contents = refl; contents = refl; a_tag = refl; untagged_unit = refl; untagged_tuple = refl; apart = refl; both_null = refl; both_lists = refl }
