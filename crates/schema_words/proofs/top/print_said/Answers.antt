use Rattle.std.proofs.Common.{ℕ, List, sym, subst}
use Rattle.schema_words.specs.Said.{said_of}
use Rattle.schema_words.specs.Outcome.{IsSaid, IsWritten}
use Rattle.schema_words.specs.declared.answering.Answer.{Answer}
use Rattle.schema_words.specs.declared.ended.Ended.TheVariants as ended
use Rattle.schema_words.proofs.top.print_said.Goals as goal

pub returns-in-Page-clause-ends : goal.returns-in-Page-clause-ends
returns-in-Page-clause-ends g c =
    let before = g.K.Sink.written c.args.sink.now in
    let after = g.K.Sink.written c.print.new.sink in
    subst (λ (a : Answer). IsSaid before after (said_of a) c.print.result) (sym c.in-Page.is) (subst (λ (t : List ℕ). IsWritten before after t ended.Page c.print.result) c.deref.ensures c.print.ensures.ends)

pub returns-in-No-clause-ends : goal.returns-in-No-clause-ends
returns-in-No-clause-ends g c =
    let before = g.K.Sink.written c.args.sink.now in
    let after = g.K.Sink.written c.print-in-No.new.sink in
    subst (λ (a : Answer). IsSaid before after (said_of a) c.print-in-No.result) (sym c.in-No.is) (subst (λ (t : List ℕ). IsWritten before after t ended.No c.print-in-No.result) c.deref-in-No.ensures c.print-in-No.ensures.ends)
