use Rattle.std.proofs.Common.{refl}
use Rattle.default_defs.proofs.examples.worked_defaults.Goals as goal

pub returns : goal.returns
returns c = record {
  of_another_kind = refl;
  taken = refl;
  null_of_an_option = refl;
  in_a_list = refl;
  an_empty_list = refl;
  comes_round = refl;
  given_once = refl;
  refused_first = refl;
  both_come_round = refl;
  inside_a_default = refl;
  through_references = refl;
  told_by_itself = refl;
  before_a_refusal = refl;
  by_the_first_variant = refl;
}
