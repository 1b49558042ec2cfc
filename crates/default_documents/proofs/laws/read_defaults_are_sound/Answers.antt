use Rattle.default_laws.proofs.NamedDefaults.{named_still_end}
use Rattle.default_laws.proofs.Ending.{ended_is_sound}
use Rattle.default_documents.proofs.Sound.{sound_defaults}
use Rattle.default_documents.proofs.laws.read_defaults_are_sound.Goals as goal

pub returns : goal.returns
returns c = sound_defaults named_still_end ended_is_sound
