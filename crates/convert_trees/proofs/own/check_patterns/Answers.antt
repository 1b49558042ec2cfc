use Rattle.std.proofs.Common.{sym, ap, ◌∙◌}
use Rattle.std.specs.Prelude.{Err}
use Rattle.convert_trees.specs.Told as told
use Rattle.convert_trees.proofs.Causes.{patterns_refused}
use Rattle.convert_trees.proofs.own.check_patterns.Goals as goal

pub returns-in-Ok-false-clause-refused : goal.returns-in-Ok-false-clause-refused
returns-in-Ok-false-clause-refused g c = patterns_refused _ _ _ _ _ _ _ (sym c.in-Ok-false.field-0-test ∙ c.in-Ok-false.ensures.answer) (c.bad_pattern.ensures (g.T.Texts.relations c.args.texts.now) _ _)

pub returns-in-Err-clause-refused : goal.returns-in-Err-clause-refused
returns-in-Err-clause-refused g c = told.unanswered (c.text_fault.ensures _ _ (λ e. c.in-Err.ensures.failed (ap Err e)))
