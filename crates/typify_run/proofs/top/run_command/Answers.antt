use Rattle.std.proofs.Common.{subst, inr}
use Rattle.typify_run.specs.Call.{call}
use Rattle.typify_run.specs.Outcome.{Ends}
use Rattle.typify_run.proofs.Statuses.{carried}
use Rattle.typify_run.proofs.top.run_command.Goals as goal

pub returns-in-Ok-clause-ends : goal.returns-in-Ok-clause-ends
returns-in-Ok-clause-ends g c = λ all left.
    let o = c.run_bytes.result in
    let asked = call c.args.asked (g.T.Texts.relations c.args.texts.now) (g.T.Texts.faults c.args.texts.now) (g.T.Texts.faults c.run_bytes.new.texts) in
    let old = g.K.Sink.written c.args.sink.now in
    let new = g.K.Sink.written c.run_bytes.new.sink in
    inr (subst (λ bs. Ends asked bs old new o.status o.report o.fault) (c.in-Ok.ensures.whole all left) c.run_bytes.ensures.ends)

pub returns-in-Ok-clause-carried : goal.returns-in-Ok-clause-carried
returns-in-Ok-clause-carried g c =
    let o = c.run_bytes.result in
    let asked = call c.args.asked (g.T.Texts.relations c.args.texts.now) (g.T.Texts.faults c.args.texts.now) (g.T.Texts.faults c.run_bytes.new.texts) in
    carried asked c.in-Ok.bytes.items (g.K.Sink.written c.args.sink.now) (g.K.Sink.written c.run_bytes.new.sink) o.status o.report o.fault c.run_bytes.ensures.ends
