use Rattle.std.proofs.Common.{sym, true≢false, arith}
use Rattle.serde_json.specs.View.{view}
use Rattle.schema_words.specs.Input.{IsNoSchema}
use Rattle.schema_words.specs.Words.{Asking, asking}
use Rattle.schema_words.specs.Outcome.{IsAnswerTo, IsToldOf}
use Rattle.schema_words.proofs.Endings.{told_ends}
use Rattle.schema_words.proofs.top.run_schema.Goals as goal

pub returns-in-Ok-clause-ends : goal.returns-in-Ok-clause-ends
returns-in-Ok-clause-ends g c = λ all input.
    let b = g.T.Texts.faults c.args.texts.now in
    let a = g.T.Texts.faults c.examined.new.texts in
    let k : Asking = asking c.args.depth c.args.setting (g.T.Texts.relations c.args.texts.now) b a in
    c.print_answer.ensures.ends k all input (c.in-Ok.ensures.report b a)

pub returns-clause-ends : goal.returns-clause-ends
returns-clause-ends g c = λ all input.
    let b = g.T.Texts.faults c.args.texts.now in
    let k : Asking = asking c.args.depth c.args.setting (g.T.Texts.relations c.args.texts.now) b (g.T.Texts.faults c.examined.new.texts) in
    let d = view c.args.schema.now in
    let cause = c.in-Err.ensures.refused (λ e. absurd (true≢false (sym (c.if-is_memory.ensures.1 e)))) b (omega arith) in
    told_ends (IsAnswerTo g.A.Answering.answers k) (IsToldOf g.A.Answering.tells k) IsNoSchema all (g.K.Sink.written c.args.sink.now) (g.K.Sink.written c.print_fault.new.sink) (g.A.Answering.tells d c.in-Err.fault) c.print_fault.result
    (λ text h. (d, c.in-Err.fault, input, cause, h)) c.print_fault.ensures.ends
