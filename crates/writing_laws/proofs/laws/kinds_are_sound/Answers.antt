use Rattle.writing_laws.proofs.Sound.{kinds_are_sound}
use Rattle.writing_laws.proofs.laws.kinds_are_sound.Goals as goal

pub returns : goal.returns
returns c = kinds_are_sound
