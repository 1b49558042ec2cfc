use Rattle.model_defs.proofs.ItemRows.{rows_of_items}
use Rattle.model_defs.proofs.laws.items_are_read.Goals as goal

pub returns : goal.returns
returns c = rows_of_items
