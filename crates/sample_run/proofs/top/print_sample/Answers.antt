use Rattle.std.proofs.Common.{subst, sym, ◌∙◌, inr}
use Rattle.typify_run.specs.declared.outcome.Outcome.{Outcome}
use Rattle.run_io.specs.Bytes.{AppendsPrefix}
use Rattle.sample_run.specs.Sampled.{EndsSampled}
use Rattle.sample_run.proofs.top.print_sample.Goals as goal

pub returns-in-Err-Memory-clause-ends : goal.returns-in-Err-Memory-clause-ends
returns-in-Err-Memory-clause-ends g c =
    let n = c.args.number in
    let old = g.K.Sink.written c.args.sink.now in
    let new = g.K.Sink.written c.put.new.sink in
    subst (λ (o : Outcome). EndsSampled n old new o.status o.report o.fault) (sym c.bare-in-Err-Memory.ensures)
    (inr (c.args.report, c.requires, subst (λ b. AppendsPrefix old new b) (c.as_bytes.ensures.value ∙ c.in-Ok.ensures) c.in-Err-Memory.ensures.front))
