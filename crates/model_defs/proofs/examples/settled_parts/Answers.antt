use Rattle.std.proofs.Common.{refl}
use Rattle.model_defs.proofs.examples.settled_parts.Goals as goal

pub returns : goal.returns
returns c = record {
  a_scalar = refl;
  any_value = refl;
  null_under_an_option = refl;
  a_vec = refl;
  a_set = refl;
  a_map = refl;
  a_tuple = refl;
  a_set_by_what_is_written = refl;
  names_that_settle_alike = refl;
}
