use Rattle.std.proofs.Common.{ℕ, List, inr, string_bytes, subst}
use Rattle.schema_words.specs.Outcome.{IsWritten}
use Rattle.schema_words.specs.declared.ended.Ended.TheVariants as ended
use Rattle.schema_words.proofs.top.print_fault.Goals as goal

pub returns-in-Ok-clause-ends : goal.returns-in-Ok-clause-ends
returns-in-Ok-clause-ends g c =
    inr (string_bytes c.in-Ok.text, c.in-Ok.ensures, subst (λ (t : List ℕ). IsWritten (g.K.Sink.written c.args.sink.now) (g.K.Sink.written c.print.new.sink) t ended.Fault c.print.result) c.deref.ensures c.print.ensures.ends)
