use Rattle.serde_json.specs.View.{view}
use Rattle.schema_words.specs.Input.{IsNoSchema}
use Rattle.schema_words.specs.Said.{said_of}
use Rattle.schema_words.specs.Outcome.{IsAnswerTo, IsToldOf}
use Rattle.schema_words.proofs.Endings.{said_ends}
use Rattle.schema_words.proofs.top.print_answer.Goals as goal

pub returns-in-Ok-clause-ends : goal.returns-in-Ok-clause-ends
returns-in-Ok-clause-ends g c = λ k all input on.
    said_ends (IsAnswerTo g.A.Answering.answers k) (IsToldOf g.A.Answering.tells k) IsNoSchema all (g.K.Sink.written c.args.sink.now) (g.K.Sink.written c.print_said.new.sink) (said_of c.in-Ok.answer) c.print_said.result
    (view c.args.schema.now, c.args.report.now, input, on, c.in-Ok.ensures) c.print_said.ensures.ends
