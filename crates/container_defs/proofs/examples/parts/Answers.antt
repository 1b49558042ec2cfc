use Rattle.std.proofs.Common.{refl}
use Rattle.container_defs.proofs.examples.parts.Goals as goal

pub returns : goal.returns
returns c = record {
  no_union = refl;
  union_told = refl;
  union_told_last = refl;
  union_written = refl;
  parameters = refl;
  predicates = refl;
  original = refl;
  own_name = refl;
  types = refl;
}
