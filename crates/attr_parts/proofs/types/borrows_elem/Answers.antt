use Rattle.std.proofs.Common.{sym}
use Rattle.syntax_trees.specs.View.{generic_view}
use Rattle.attr_parts.proofs.Shapes.{few_for_cow, many_for_cow}
use Rattle.attr_parts.proofs.types.borrows_elem.Goals as goal

pub returns-in_default : goal.returns-in_default
returns-in_default c = sym (few_for_cow generic_view c.args.elem c.args.args.now c.in_default.len_below)

pub returns-in_default-2 : goal.returns-in_default-2
returns-in_default-2 c = sym (many_for_cow generic_view c.args.elem c.args.args.now c.in_default.len_at_least)
