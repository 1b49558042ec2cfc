use Rattle.default_reading.proofs.Names.{ordered_differ}
use Rattle.default_reading.proofs.owners.object_of.Goals as goal

pub returns-in-Some-clause-names : goal.returns-in-Some-clause-names
returns-in-Some-clause-names c = ordered_differ c.in-Some.members.now.entries c.len-count.ensures.ordered
