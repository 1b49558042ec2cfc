use Rattle.schema_reading.proofs.Keywords.{found}
use Rattle.schema_reading.proofs.keyword.member.Goals as goal

pub returns : goal.returns
returns c = found c.args.name.now c.args.members.now.entries c.get.result c.get.ensures.value
