use Rattle.schema_defs.proofs.Unknown.{formats_are_lawful}
use Rattle.schema_defs.proofs.laws.formats_are_lawful.Goals as goal

pub returns : goal.returns
returns c = formats_are_lawful
