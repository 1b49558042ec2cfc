use Rattle.enum_shapes.proofs.Named.{none_there}
use Rattle.enum_shapes.proofs.object.is_without.Goals as goal

pub returns : goal.returns
returns c = none_there c.is_empty.result c.args.properties.now.entries c.is_empty.ensures
