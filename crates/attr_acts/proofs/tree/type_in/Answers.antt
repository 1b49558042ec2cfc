use Rattle.std.specs.Prelude.{Ok}
use Rattle.syntax_trees.specs.View.{ty, lit_str_view}
use Rattle.syntax_parsers.specs.Whole.{type_of}
use Rattle.attr_acts.specs.Views.{text_view}
use Rattle.attr_acts.proofs.Trees.{copy_read, copy_fault}
use Rattle.attr_acts.proofs.tree.type_in.Goals as goal

pub returns-in-Ok-clause-tree : goal.returns-in-Ok-clause-tree
returns-in-Ok-clause-tree c = copy_read type_of (lit_str_view c.in_ok-literal.literal) (text_view c.args.text) (Ok (ty c.in-Ok.tree)) c.in_ok-literal.ensures c.in-Ok.ensures.tree

pub returns-clause-none : goal.returns-clause-none
returns-clause-none c = copy_fault type_of (lit_str_view c.in_ok-literal.literal) (text_view c.args.text) c.in-Err.fault c.in_ok-error-in-Err.error c.in_ok-literal.ensures c.in-Err.ensures.fault c.in_ok-error-in-Err.ensures
