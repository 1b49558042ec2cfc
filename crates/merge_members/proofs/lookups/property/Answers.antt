use Rattle.std.proofs.Common.{◌∙◌, ap}
use Rattle.merge_members.specs.Plans.{some_schema}
use Rattle.merge_members.proofs.Found.{seen_copied, property_found}
use Rattle.merge_members.proofs.lookups.property.Goals as goal

pub returns : goal.returns
returns c = seen_copied c.get.result ∙ ap some_schema c.get.ensures.value ∙ property_found c.args.name.now c.args.properties.now.entries
