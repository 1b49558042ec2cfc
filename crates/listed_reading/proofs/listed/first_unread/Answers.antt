use Rattle.std.proofs.Common.{option_map}
use Rattle.json_value.specs.View.{kept_view}
use Rattle.tree_types.specs.View.{table_view, tree_view}
use Rattle.listed_reading.proofs.Given.{unread_given}
use Rattle.listed_reading.proofs.listed.first_unread.Goals as goal

pub returns-clause-answer : goal.returns-clause-answer
returns-clause-answer g c =
    unread_given (table_view c.args.table.now) (g.T.Texts.relations c.args.texts.now) (tree_view c.args.tree.now) c.args.values (option_map (λ v. kept_view v.now) c.in_ok-found.found) c.in_ok-found.ensures.answer
