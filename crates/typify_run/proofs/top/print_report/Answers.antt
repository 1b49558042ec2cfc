use Rattle.std.proofs.Common.{subst, sym, ◌∙◌, inl, inr}
use Rattle.typify_run.specs.declared.outcome.Outcome.{Outcome}
use Rattle.run_io.specs.Bytes.{AppendsPrefix}
use Rattle.typify_run.specs.Call.{call}
use Rattle.typify_run.specs.Outcome.{Answers}
use Rattle.typify_run.proofs.top.print_report.Goals as goal

pub returns-in-Err-Memory-clause-answer : goal.returns-in-Err-Memory-clause-answer
returns-in-Err-Memory-clause-answer g c = λ texts before after parts h.
    let asked = call c.args.asked texts before after in
    let old = g.K.Sink.written c.args.sink.now in
    let new = g.K.Sink.written c.put.new.sink in
    subst (λ (o : Outcome). Answers asked parts old new o.status o.report o.fault) (sym c.bare-in-Err-Memory.ensures)
    (inr (inl (c.args.report, h, subst (λ b. AppendsPrefix old new b) (c.as_bytes.ensures.value ∙ c.in-Ok.ensures) c.in-Err-Memory.ensures.front)))
