use Rattle.std.proofs.Common.{ℕ, List, sym, subst, ◌∙◌}
use Rattle.admission_run.specs.Outcome.{IsLineOf}
use Rattle.admission_run.proofs.Endings.{line_ends}
use Rattle.admission_run.proofs.top.print_fault.Goals as goal

pub returns-in-Ok-clause-ends : goal.returns-in-Ok-clause-ends
returns-in-Ok-clause-ends g c = λ setting r faults faults' all h.
    line_ends setting r faults faults' all (g.K.Sink.written c.args.sink.now) (g.K.Sink.written c.print.new.sink) c.deref.result.now c.print.result
    (subst (λ (t : List ℕ). IsLineOf faults faults' all t) (sym (c.deref.ensures ∙ c.in-Ok.ensures)) h) c.print.ensures.ends
