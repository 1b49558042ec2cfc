use Rattle.default_reading.proofs.Names.{got}
use Rattle.default_reading.proofs.members.member.Goals as goal

pub returns : goal.returns
returns c = got c.args.name.now c.args.members.now.entries c.get.result c.get.ensures.value
