use Rattle.enum_defs.proofs.Exclusive.{exclusive_is_sound}
use Rattle.enum_defs.proofs.laws.exclusive_is_sound.Goals as goal

pub returns : goal.returns
returns c = exclusive_is_sound
