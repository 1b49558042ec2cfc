use Rattle.attr_parts.proofs.RuleLaws.{names_are_read}
use Rattle.attr_parts.proofs.laws.names_are_read.Goals as goal

pub returns : goal.returns
returns c = names_are_read
