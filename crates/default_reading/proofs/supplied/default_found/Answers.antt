use Rattle.std.proofs.Common.{◌≡◌, ap, subst}
use Rattle.schema_defs.specs.Texts.{Relations}
use Rattle.json_value.specs.View.{kept_view}
use Rattle.tree_types.specs.View.{table_view, tree_view}
use Rattle.default_defs.specs.Supplied.{supplied}
use Rattle.default_reading.specs.Seen.{found_view}
use Rattle.default_reading.proofs.Levels.{alone_ended, alone_refused}
use Rattle.default_reading.proofs.supplied.default_found.Goals as goal

pub returns-in-Refused-clause-answer : goal.returns-in-Refused-clause-answer
returns-in-Refused-clause-answer g c =
    alone_refused (table_view c.args.table.now) (g.T.Texts.relations c.args.texts.now) (tree_view c.args.tree.now) (kept_view c.args.value.now) _ (ap found_view c.in-Refused.is) c.in_ok-alone.ensures.read

pub returns-in-Ended-clause-answer : goal.returns-in-Ended-clause-answer
returns-in-Ended-clause-answer g c =
    alone_ended (table_view c.args.table.now) (g.T.Texts.relations c.args.texts.now) (tree_view c.args.tree.now) (kept_view c.args.value.now) _ (ap found_view c.in-Ended.is) c.in_ok-alone.ensures.read

pub returns-in_ok-found-in-Endless-clause-answer : goal.returns-in_ok-found-in-Endless-clause-answer
returns-in_ok-found-in-Endless-clause-answer g c =
    subst (λ (r : Relations). found_view c.in_ok-found-in-Endless.found ≡ supplied (table_view c.args.table.now) r (tree_view c.args.tree.now) (kept_view c.args.value.now)) c.in_ok-alone.ensures.keeps c.in_ok-found-in-Endless.ensures.answer
