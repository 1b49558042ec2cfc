use Rattle.schema_defs.proofs.Rising.{definitions_rise}
use Rattle.schema_defs.proofs.laws.definitions_rise.Goals as goal

pub returns : goal.returns
returns c = definitions_rise
