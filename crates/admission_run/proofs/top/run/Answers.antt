use Rattle.std.proofs.Common.{◌∙◌, subst}
use Rattle.admission_run.proofs.Endings.{ends_as}
use Rattle.admission_run.specs.Outcome.{Ends}
use Rattle.admission_run.specs.declared.outcome.Outcome.{Outcome}
use Rattle.admission_run.specs.declared.outcome.Outcome.TheVariants as outcome
use Rattle.admission_run.proofs.top.run.Goals as goal

pub returns-in-Ok-clause-page : goal.returns-in-Ok-clause-page
returns-in-Ok-clause-page g c = λ all left e.
    ends_as c.args.setting (g.T.Texts.relations c.args.texts.now) (g.T.Texts.faults c.args.texts.now) (g.T.Texts.faults c.run_bytes.new.texts) c.deref.result.now all
    (g.K.Sink.written c.args.sink.now) (g.K.Sink.written c.run_bytes.new.sink) c.run_bytes.result outcome.Page
    (c.deref.ensures.value ∙ c.in-Ok.ensures.whole all left) e c.run_bytes.ensures.ends

pub returns-in-Ok-clause-fault : goal.returns-in-Ok-clause-fault
returns-in-Ok-clause-fault g c = λ all left e.
    ends_as c.args.setting (g.T.Texts.relations c.args.texts.now) (g.T.Texts.faults c.args.texts.now) (g.T.Texts.faults c.run_bytes.new.texts) c.deref.result.now all
    (g.K.Sink.written c.args.sink.now) (g.K.Sink.written c.run_bytes.new.sink) c.run_bytes.result outcome.Fault
    (c.deref.ensures.value ∙ c.in-Ok.ensures.whole all left) e c.run_bytes.ensures.ends

pub returns-in-Ok-clause-no_input : goal.returns-in-Ok-clause-no_input
returns-in-Ok-clause-no_input g c = λ all left e.
    ends_as c.args.setting (g.T.Texts.relations c.args.texts.now) (g.T.Texts.faults c.args.texts.now) (g.T.Texts.faults c.run_bytes.new.texts) c.deref.result.now all
    (g.K.Sink.written c.args.sink.now) (g.K.Sink.written c.run_bytes.new.sink) c.run_bytes.result outcome.NoInput
    (c.deref.ensures.value ∙ c.in-Ok.ensures.whole all left) e c.run_bytes.ensures.ends

pub returns-in-Ok-clause-writing_cut : goal.returns-in-Ok-clause-writing_cut
returns-in-Ok-clause-writing_cut g c = λ all left e.
    ends_as c.args.setting (g.T.Texts.relations c.args.texts.now) (g.T.Texts.faults c.args.texts.now) (g.T.Texts.faults c.run_bytes.new.texts) c.deref.result.now all
    (g.K.Sink.written c.args.sink.now) (g.K.Sink.written c.run_bytes.new.sink) c.run_bytes.result outcome.WriteFault
    (c.deref.ensures.value ∙ c.in-Ok.ensures.whole all left) e c.run_bytes.ensures.ends

pub returns-in-Ok-clause-memory : goal.returns-in-Ok-clause-memory
returns-in-Ok-clause-memory g c = λ all left e.
    ends_as c.args.setting (g.T.Texts.relations c.args.texts.now) (g.T.Texts.faults c.args.texts.now) (g.T.Texts.faults c.run_bytes.new.texts) c.deref.result.now all
    (g.K.Sink.written c.args.sink.now) (g.K.Sink.written c.run_bytes.new.sink) c.run_bytes.result outcome.Memory
    (c.deref.ensures.value ∙ c.in-Ok.ensures.whole all left) e c.run_bytes.ensures.ends

pub returns-in-Ok-clause-read_fault : goal.returns-in-Ok-clause-read_fault
returns-in-Ok-clause-read_fault g c = λ e.
    absurd (subst (λ (o : Outcome). Ends c.args.setting (g.T.Texts.relations c.args.texts.now) (g.T.Texts.faults c.args.texts.now) (g.T.Texts.faults c.run_bytes.new.texts) c.deref.result.now
    (g.K.Sink.written c.args.sink.now) (g.K.Sink.written c.run_bytes.new.sink) o) e c.run_bytes.ensures.ends)
