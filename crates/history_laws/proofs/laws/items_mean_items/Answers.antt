use Rattle.history_laws.proofs.Composed.{items_mean_items}
use Rattle.history_laws.proofs.laws.items_mean_items.Goals as goal

pub returns : goal.returns
returns c = items_mean_items c.spaces_emit_tables.ensures
