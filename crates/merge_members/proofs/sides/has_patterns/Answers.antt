use Rattle.merge_members.proofs.Patterns.{patterns_some}
use Rattle.merge_members.proofs.sides.has_patterns.Goals as goal

pub returns-then-not-is_empty : goal.returns-then-not-is_empty
returns-then-not-is_empty c = patterns_some c.is_empty.result c.args.patterns.now.entries c.args.names.now c.is_empty.ensures c.if-not-is_empty.true
