use Rattle.std.proofs.Common.{Some, None, ap}
use Rattle.std.specs.Prelude.{is_some}
use Rattle.json_value.specs.Value.{Value}
use Rattle.json_value.proofs.Lookups.{got}
use Rattle.passed_keywords.proofs.lines.has_name.Goals as goal

pub returns-in-Some : goal.returns-in-Some
returns-in-Some c = ap (is_some {T = Value}) (got c.args.name.now c.args.members.now.entries (Some c.in-Some._value) c.in-Some.ensures.value)

pub returns-in-None : goal.returns-in-None
returns-in-None c = ap (is_some {T = Value}) (got c.args.name.now c.args.members.now.entries None c.in-None.ensures.value)
