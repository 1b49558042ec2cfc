use Rattle.object_rows.proofs.Named.{none_there}
use Rattle.object_rows.proofs.members.is_without.Goals as goal

pub returns : goal.returns
returns c = none_there c.is_empty.result c.args.properties.now.entries c.is_empty.ensures
