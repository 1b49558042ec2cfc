use Rattle.schema_words.specs.Said.{said_of}
use Rattle.schema_words.proofs.Endings.{said_ends}
use Rattle.pair_words.specs.Input.{IsNoPair}
use Rattle.pair_words.specs.Outcome.{IsAnswerToPair, IsLineOfPair}
use Rattle.pair_words.proofs.top.print_answer.Goals as goal

pub returns-in-Ok-clause-ends : goal.returns-in-Ok-clause-ends
returns-in-Ok-clause-ends g c = λ k all p input on.
    said_ends (IsAnswerToPair g.A.Comparing.answers k) (IsLineOfPair k) IsNoPair all (g.K.Sink.written c.args.sink.now) (g.K.Sink.written c.print_said.new.sink) (said_of c.in-Ok.answer) c.print_said.result
    (p, c.args.old.now, c.args.new.now, input, on, c.in-Ok.ensures) c.print_said.ensures.ends
