use Rattle.std.proofs.Common.{◌∙◌}
use Rattle.merge_members.proofs.Found.{name_found}
use Rattle.merge_members.proofs.lookups.has_property.Goals as goal

pub returns : goal.returns
returns c = c.contains_key.ensures ∙ name_found c.args.name.now c.args.properties.now.entries
