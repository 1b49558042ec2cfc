use Rattle.std.proofs.Common.{refl}
use Rattle.container_defs.proofs.examples.order.Goals as goal

pub returns : goal.returns
returns c = record {
  all_told = refl;
  untagged_last = refl;
  untagged_first = refl;
  all_untagged = refl;
}
