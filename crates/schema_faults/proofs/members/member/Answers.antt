use Rattle.json_value.proofs.Lookups.{got}
use Rattle.schema_faults.proofs.members.member.Goals as goal

pub returns : goal.returns
returns c = got c.args.name.now c.args.members.now.entries c.get.result c.get.ensures.value
