use Rattle.std.proofs.Common.{refl}
use Rattle.evolve_ways.proofs.examples.rows.Goals as goal

pub returns : goal.returns
returns c = record {
  fields = refl;
  a_new_order = refl;
  lost_to_a_rest = refl;
  a_rest = refl;
  variants = refl;
  beside_a_tag = refl;
  untagged_old = refl;
  untagged_new = refl;
  options = refl;
  rules = refl;
  lists = refl;
  places = refl;
  an_array = refl;
  an_array_to_a_tuple = refl;
  maps = refl;
}
