use Rattle.syntax_trees.specs.View.{ty as ty_view}
use Rattle.type_spellings.specs.Types.{type_of}
use Rattle.model_evolve.specs.Answer.{table_in}
use Rattle.model_evolve.proofs.Right.{are_kept, are_plain, is_broken, is_exact}
use Rattle.model_evolve.proofs.comparing.covers.Goals as goal

pub returns-clause-answer : goal.returns-clause-answer
returns-clause-answer c = c.in_ok-answer.ensures.answer

pub returns-clause-yes : goal.returns-clause-yes
returns-clause-yes c = are_kept (table_in c.args.old.now) (type_of (ty_view c.args.old_root.now)) (table_in c.args.new.now) (type_of (ty_view c.args.new_root.now)) c.in_ok-answer.answer c.in_ok-answer.ensures.answer c.args.old.now.tame c.args.new.now.tame c.requires.old_ends c.requires.new_ends

pub returns-clause-no : goal.returns-clause-no
returns-clause-no c = is_broken (table_in c.args.old.now) (type_of (ty_view c.args.old_root.now)) (table_in c.args.new.now) (type_of (ty_view c.args.new_root.now)) c.in_ok-answer.answer c.in_ok-answer.ensures.answer

pub returns-clause-exact : goal.returns-clause-exact
returns-clause-exact c = is_exact (table_in c.args.old.now) (type_of (ty_view c.args.old_root.now)) (table_in c.args.new.now) (type_of (ty_view c.args.new_root.now)) c.in_ok-answer.answer c.in_ok-answer.ensures.answer

pub returns-clause-plain : goal.returns-clause-plain
returns-clause-plain c = λ same_tables same_roots plain. are_plain (table_in c.args.old.now) (type_of (ty_view c.args.old_root.now)) (table_in c.args.new.now) (type_of (ty_view c.args.new_root.now)) c.in_ok-answer.answer c.in_ok-answer.ensures.answer c.args.old.now.tame same_tables same_roots plain

pub returns-clause-way : goal.returns-clause-way
returns-clause-way c = c.in_ok-answer.ensures.way
