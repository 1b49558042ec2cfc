use Rattle.attr_parts.proofs.RuleLaws.{ungrouped_stays}
use Rattle.attr_parts.proofs.laws.ungrouped_stays.Goals as goal

pub returns : goal.returns
returns c = ungrouped_stays
