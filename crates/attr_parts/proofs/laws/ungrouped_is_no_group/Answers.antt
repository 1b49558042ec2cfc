use Rattle.attr_parts.proofs.RuleLaws.{ungrouped_is_no_group}
use Rattle.attr_parts.proofs.laws.ungrouped_is_no_group.Goals as goal

pub returns : goal.returns
returns c = ungrouped_is_no_group
