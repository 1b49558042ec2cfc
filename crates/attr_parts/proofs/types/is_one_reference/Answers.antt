use Rattle.std.proofs.Common.{sym}
use Rattle.syntax_trees.specs.View.{generic_view}
use Rattle.attr_parts.proofs.Shapes.{many_for_option}
use Rattle.attr_parts.proofs.types.is_one_reference.Goals as goal

pub returns-in_default-2 : goal.returns-in_default-2
returns-in_default-2 c = sym (many_for_option generic_view c.args.args.now c.in_default.len_at_least)
