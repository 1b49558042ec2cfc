use Rattle.enum_defs.proofs.KindsKept.{kinds_are_sound}
use Rattle.enum_defs.proofs.laws.kinds_are_sound.Goals as goal

pub returns : goal.returns
returns c = kinds_are_sound
