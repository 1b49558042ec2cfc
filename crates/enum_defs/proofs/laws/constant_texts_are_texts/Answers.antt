use Rattle.enum_defs.proofs.Constants.{constant_texts_are_texts}
use Rattle.enum_defs.proofs.laws.constant_texts_are_texts.Goals as goal

pub returns : goal.returns
returns c = constant_texts_are_texts
