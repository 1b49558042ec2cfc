use Rattle.enum_defs.proofs.KindsKept.{null_free_is_sound}
use Rattle.enum_defs.proofs.laws.null_free_is_sound.Goals as goal

pub returns : goal.returns
returns c = null_free_is_sound
