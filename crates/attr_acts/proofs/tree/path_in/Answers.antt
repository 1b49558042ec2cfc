use Rattle.std.specs.Prelude.{Ok}
use Rattle.syntax_trees.specs.View.{path_view, lit_str_view}
use Rattle.syntax_parsers.specs.Whole.{path_of}
use Rattle.attr_acts.specs.Views.{text_view}
use Rattle.attr_acts.proofs.Trees.{copy_read, copy_fault}
use Rattle.attr_acts.proofs.tree.path_in.Goals as goal

pub returns-in-Ok-clause-path : goal.returns-in-Ok-clause-path
returns-in-Ok-clause-path c = copy_read path_of (lit_str_view c.in_ok-literal.literal) (text_view c.args.text) (Ok (path_view c.in-Ok.path)) c.in_ok-literal.ensures c.in-Ok.ensures.path

pub returns-clause-none : goal.returns-clause-none
returns-clause-none c = copy_fault path_of (lit_str_view c.in_ok-literal.literal) (text_view c.args.text) c.in-Err.fault c.in_ok-error-in-Err.error c.in_ok-literal.ensures c.in-Err.ensures.fault c.in_ok-error-in-Err.ensures
