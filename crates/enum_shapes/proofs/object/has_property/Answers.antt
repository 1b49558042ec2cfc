use Rattle.std.proofs.Common.{◌∙◌}
use Rattle.enum_shapes.proofs.Named.{name_found}
use Rattle.enum_shapes.proofs.object.has_property.Goals as goal

pub returns : goal.returns
returns c = c.contains_key.ensures ∙ name_found c.args.name.now c.args.properties.now.entries
