use Rattle.std.proofs.Common.{refl}
use Rattle.std.specs.Str.{chars}
use Rattle.std.specs.Fmt.{digits}
use Rattle.item_texts.proofs.examples.texts.Goals as goal

pub returns : goal.returns
unfolding chars digits lib.Utf8.encode
returns c = (refl, refl, refl, refl, refl)
