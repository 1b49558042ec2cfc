use Rattle.attr_parts.proofs.RuleLaws.{or_is_associative}
use Rattle.attr_parts.proofs.laws.or_is_associative.Goals as goal

pub returns : goal.returns
returns c = or_is_associative
