use Rattle.std.proofs.Common.{ℕ, List, inr, subst, ◌∙◌}
use Rattle.pair_words.specs.Input.{IsNoPair}
use Rattle.schema_words.specs.Words.{Asking, asking}
use Rattle.pair_words.specs.Outcome.{Ends, IsAnswerToPair, IsLineOfPair}
use Rattle.schema_words.proofs.Endings.{never_other, never_unread}
use Rattle.pair_words.proofs.top.run_asked.Goals as goal

pub returns-in-Ok-clause-ends : goal.returns-in-Ok-clause-ends
returns-in-Ok-clause-ends g c = λ all left.
    let k : Asking = asking c.args.depth c.args.setting (g.T.Texts.relations c.args.texts.now) (g.T.Texts.faults c.args.texts.now) (g.T.Texts.faults c.run_bytes.new.texts) in
    inr (subst (λ (bs : List ℕ). Ends g.A.Comparing.answers k bs (g.K.Sink.written c.args.sink.now) (g.K.Sink.written c.run_bytes.new.sink) c.run_bytes.result) (c.deref.ensures.value ∙ c.in-Ok.ensures.whole all left) c.run_bytes.ensures.ends)

pub returns-in-Ok-clause-carried : goal.returns-in-Ok-clause-carried
returns-in-Ok-clause-carried g c = inr (c.deref.result.now, c.run_bytes.ensures.ends)

pub returns-in-Ok-clause-built : goal.returns-in-Ok-clause-built
returns-in-Ok-clause-built g c =
    let k : Asking = asking c.args.depth c.args.setting (g.T.Texts.relations c.args.texts.now) (g.T.Texts.faults c.args.texts.now) (g.T.Texts.faults c.run_bytes.new.texts) in
    never_other (IsAnswerToPair g.A.Comparing.answers k) (IsLineOfPair k) IsNoPair c.deref.result.now (g.K.Sink.written c.args.sink.now) (g.K.Sink.written c.run_bytes.new.sink) c.run_bytes.result c.run_bytes.ensures.ends

pub returns-in-Ok-clause-read_fault : goal.returns-in-Ok-clause-read_fault
returns-in-Ok-clause-read_fault g c = λ e.
    let k : Asking = asking c.args.depth c.args.setting (g.T.Texts.relations c.args.texts.now) (g.T.Texts.faults c.args.texts.now) (g.T.Texts.faults c.run_bytes.new.texts) in
    absurd (never_unread (IsAnswerToPair g.A.Comparing.answers k) (IsLineOfPair k) IsNoPair c.deref.result.now (g.K.Sink.written c.args.sink.now) (g.K.Sink.written c.run_bytes.new.sink) c.run_bytes.result c.run_bytes.ensures.ends e)
