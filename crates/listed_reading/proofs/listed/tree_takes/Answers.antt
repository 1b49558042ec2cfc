use Rattle.std.proofs.Common.{rules}
use Rattle.json_value.specs.View.{kept_view}
use Rattle.tree_types.specs.View.{tree_view}
use Rattle.listed_reading.proofs.Fuel.{takes_known}
use Rattle.listed_reading.proofs.listed.tree_takes.Goals as goal

pub returns-clause-answer : goal.returns-clause-answer
returns-clause-answer g c =
    takes_known c.args.table.now (g.T.Texts.relations c.args.texts.now) (tree_view c.args.tree.now) (kept_view c.args.value.now) c.len-left.result c.in_ok-answer.answer (search rules) c.in_ok-answer.ensures.taken
