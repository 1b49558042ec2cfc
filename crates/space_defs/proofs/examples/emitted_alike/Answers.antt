use Rattle.std.proofs.Common.{refl}
use Rattle.std.specs.Str.{chars}
use Rattle.std.specs.Fmt.{digits}
use Rattle.space_defs.proofs.Chain.{chain_held}
use Rattle.space_defs.proofs.examples.emitted_alike.Goals as goal

pub returns : goal.returns
unfolding chars digits lib.Utf8.encode
returns c = record { of_chain = refl; of_chain_item = refl; of_leading = refl; of_alike = refl; of_enums = refl; holds_chain = chain_held }
