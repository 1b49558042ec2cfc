use Rattle.model_defs.proofs.Rising.{rising_names}
use Rattle.model_defs.proofs.laws.names_rise.Goals as goal

pub returns : goal.returns
returns c = rising_names
