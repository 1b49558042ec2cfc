use Rattle.std.proofs.Common.{List, ℕ, inl, inr, subst}
use Rattle.std.specs.Prelude.{Option, IfSome, IfNone}
use Rattle.model_lines.specs.Printing.{IsAnswerCut, IsLineAnswered}
use Rattle.model_lines.specs.declared.ending.Ending.{Ending}
use Rattle.model_lines.proofs.values.print_last.Goals as goal

pub returns-in-Some-clause-ends : goal.returns-in-Some-clause-ends
returns-in-Some-clause-ends g c = λ l e. inr (c.in-Some.ensures.cut l e)

pub returns-in-None-clause-ends : goal.returns-in-None-clause-ends
returns-in-None-clause-ends g c = λ l e. inl (g.K.Sink.written c.print_answer.new.sink, c.in-None.ensures.whole l e, c.print_end.ensures.end)
