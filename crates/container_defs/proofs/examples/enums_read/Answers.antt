use Rattle.std.proofs.Common.{refl}
use Rattle.std.specs.Fmt.{digits}
use Rattle.type_spellings.specs.Types.{word_type}
use Rattle.container_defs.proofs.examples.enums_read.Goals as goal

pub returns : goal.returns
unfolding word_type digits
returns c = record {
  external = refl;
  internal = refl;
  adjacent = refl;
  alone = refl;
  styles = refl;
}
