use Rattle.std.proofs.Common.{false, sym}
use Rattle.syntax_trees.specs.View.{segment_view}
use Rattle.attr_rows.proofs.TreeViews.{many_not_self}
use Rattle.attr_rows.proofs.remote.are_self.Goals as goal

pub returns-in_default-2 : goal.returns-in_default-2
returns-in_default-2 c = sym (many_not_self segment_view false c.args.segments.now c.in_default.len_at_least)
