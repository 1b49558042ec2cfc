use Rattle.std.proofs.Common.{sym}
use Rattle.syntax_trees.specs.View.{generic_view}
use Rattle.attr_rows.proofs.TreeViews.{some_arguments}
use Rattle.attr_rows.proofs.remote.is_empty_list.Goals as goal

pub returns-in-len1-up : goal.returns-in-len1-up
returns-in-len1-up c = sym (some_arguments generic_view c.args.turbofish c.args.args.now c.in-len1-up.len_at_least)
