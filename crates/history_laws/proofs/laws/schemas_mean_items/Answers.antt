use Rattle.history_laws.proofs.Composed.{schemas_mean_items}
use Rattle.history_laws.proofs.laws.schemas_mean_items.Goals as goal

pub returns : goal.returns
returns c = schemas_mean_items c.spaces_emit_tables.ensures
