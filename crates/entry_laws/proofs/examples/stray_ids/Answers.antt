use Rattle.entry_laws.proofs.Stray.{stray_ids}
use Rattle.entry_laws.proofs.examples.stray_ids.Goals as goal

pub returns : goal.returns
returns c = stray_ids
