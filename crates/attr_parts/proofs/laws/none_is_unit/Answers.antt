use Rattle.attr_parts.proofs.RuleLaws.{none_is_unit}
use Rattle.attr_parts.proofs.laws.none_is_unit.Goals as goal

pub returns : goal.returns
returns c = none_is_unit
