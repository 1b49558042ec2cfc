use Rattle.json_value.proofs.Parts.{children_smaller}
use Rattle.json_value.proofs.laws.children_are_smaller.Goals as goal

pub returns : goal.returns
returns c = children_smaller
