use Rattle.std.proofs.Common.{ap, ◌∙◌}
use Rattle.schema_admission.specs.Judging.{maybe_seen}
use Rattle.schema_admission.proofs.Members.{found_at}
use Rattle.schema_admission.proofs.list.property_of.Goals as goal

pub returns : goal.returns
returns c = ap maybe_seen c.get.ensures.value ∙ found_at c.args.name.now c.args.properties.now.entries
