use Rattle.std.proofs.Common.{rules}
use Rattle.tree_parts.proofs.Leaves.{value_text}
use Rattle.tree_parts.proofs.leaf.with_value.Goals as goal

pub returns-in_ok-longer-in-Some-clause-answer : goal.returns-in_ok-longer-in-Some-clause-answer
returns-in_ok-longer-in-Some-clause-answer g c = value_text _ _ _ _ _ _ _ (search rules) c.in_ok-longer-in-Some.ensures.answer c.in_ok-longer-in-Some.ensures.seen
