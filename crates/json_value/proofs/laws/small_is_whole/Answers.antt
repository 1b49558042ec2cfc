use Rattle.json_value.proofs.Parts.{small-whole}
use Rattle.json_value.proofs.laws.small_is_whole.Goals as goal

pub returns : goal.returns
returns c = small-whole
