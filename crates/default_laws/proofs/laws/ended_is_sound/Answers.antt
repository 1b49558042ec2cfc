use Rattle.default_laws.proofs.Ending.{ended_is_sound}
use Rattle.default_laws.proofs.laws.ended_is_sound.Goals as goal

pub returns : goal.returns
returns c = ended_is_sound
