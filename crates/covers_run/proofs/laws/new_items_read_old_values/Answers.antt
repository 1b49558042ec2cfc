use Rattle.covers_run.proofs.Stays.{new_items_read_old_values}
use Rattle.covers_run.proofs.laws.new_items_read_old_values.Goals as goal

pub returns : goal.returns
returns c = new_items_read_old_values
