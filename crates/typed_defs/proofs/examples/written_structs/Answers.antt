use Rattle.std.proofs.Common.{refl}
use Rattle.typed_defs.proofs.examples.written_structs.Goals as goal

pub returns : goal.returns
returns c = record { a_field = refl; in_order_of_names = refl; a_rest = refl; none_is_let_out = refl; empty_is_let_out = refl; an_empty_map_is_let_out = refl; not_without_a_condition = refl; null_that_some_holds = refl; a_newtype = refl }
