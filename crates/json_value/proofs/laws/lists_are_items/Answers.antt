use Rattle.json_value.proofs.Parts.{the_lists}
use Rattle.json_value.proofs.laws.lists_are_items.Goals as goal

pub returns : goal.returns
returns c = the_lists
