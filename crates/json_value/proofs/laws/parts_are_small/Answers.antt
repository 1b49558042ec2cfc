use Rattle.json_value.proofs.Parts.{parts_small}
use Rattle.json_value.proofs.laws.parts_are_small.Goals as goal

pub returns : goal.returns
returns c = parts_small
