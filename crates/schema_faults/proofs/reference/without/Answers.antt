use Rattle.schema_faults.proofs.References.{stripped}
use Rattle.schema_faults.proofs.reference.without.Goals as goal

pub returns : goal.returns
returns c = stripped c.args.prefix.now c.args.text.now c.strip_prefix.result c.strip_prefix.ensures.cases
