use Rattle.schema_defs.proofs.Unknown.{settings_are_kept}
use Rattle.schema_defs.proofs.laws.settings_are_kept.Goals as goal

pub returns : goal.returns
returns c = settings_are_kept
