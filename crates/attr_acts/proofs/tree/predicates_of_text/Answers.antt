use Rattle.std.specs.Prelude.{Ok}
use Rattle.std.proofs.Common.{map}
use Rattle.syntax_trees.specs.View.{lit_str_view}
use Rattle.syntax_trees.specs.Item.{predicate_view}
use Rattle.syntax_parsers.specs.Whole.{predicates_of}
use Rattle.attr_acts.specs.Views.{text_view}
use Rattle.attr_acts.proofs.Trees.{copy_read, copy_fault}
use Rattle.attr_acts.proofs.tree.predicates_of_text.Goals as goal

pub returns-in-Ok-clause-predicates : goal.returns-in-Ok-clause-predicates
returns-in-Ok-clause-predicates c = copy_read predicates_of (lit_str_view c.in_ok-literal.literal) (text_view c.args.text) (Ok (map predicate_view c.in-Ok.predicates.items)) c.in_ok-literal.ensures c.in-Ok.ensures.predicates

pub returns-clause-none : goal.returns-clause-none
returns-clause-none c = copy_fault predicates_of (lit_str_view c.in_ok-literal.literal) (text_view c.args.text) c.in-Err.fault c.in_ok-error-in-Err.error c.in_ok-literal.ensures c.in-Err.ensures.fault c.in_ok-error-in-Err.ensures
