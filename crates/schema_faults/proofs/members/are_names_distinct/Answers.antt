use Rattle.std.proofs.Common.{sym}
use Rattle.schema_faults.proofs.Names.{distinct}
use Rattle.schema_faults.proofs.members.are_names_distinct.Goals as goal

pub returns : goal.returns
returns c = sym (distinct c.args.members.now.entries c.len-count.ensures.ordered)
