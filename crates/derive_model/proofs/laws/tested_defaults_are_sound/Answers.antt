use Rattle.derive_model.proofs.Tested.{tested}
use Rattle.derive_model.proofs.laws.tested_defaults_are_sound.Goals as goal

pub returns : goal.returns
returns c = tested
