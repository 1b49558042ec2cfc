use Rattle.std.proofs.Common.{refl}
use Rattle.container_defs.proofs.examples.same_tags.Goals as goal

pub returns : goal.returns
returns c = record {
  same = refl;
  apart = refl;
}
