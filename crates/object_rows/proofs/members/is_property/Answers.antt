use Rattle.std.proofs.Common.{◌∙◌}
use Rattle.object_rows.proofs.Named.{property_found}
use Rattle.object_rows.proofs.members.is_property.Goals as goal

pub returns : goal.returns
returns c = c.contains_key.ensures ∙ property_found c.args.name.now c.args.properties.now.entries
