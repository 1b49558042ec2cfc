use Rattle.std.proofs.Common.{◌≡◌, ◌+◌, ◌∙◌}
use Rattle.json_value.specs.View.{kept_view}
use Rattle.tree_types.specs.View.{table_view, tree_view}
use Rattle.default_defs.specs.Supplied.{stated_in, stated_in_targets}
use Rattle.default_reading.proofs.Levels.{supplied_known}
use Rattle.default_reading.proofs.supplied.found_by_count.Goals as goal

pub returns-clause-answer : goal.returns-clause-answer
returns-clause-answer g c =
    let k : c.in_ok-inside.inside ≡ stated_in_targets (table_view c.args.table.now).targets + stated_in (tree_view c.args.tree.now)
    = c.in_ok-inside.ensures.answer ∙ (λ i. c.in_ok-of_targets.ensures.answer i + c.in_ok-of_tree.ensures.answer i) in
    supplied_known (table_view c.args.table.now) (g.T.Texts.relations c.args.texts.now) (tree_view c.args.tree.now) (kept_view c.args.value.now) c.in_ok-inside.inside _ k c.in_ok-found.ensures.read
