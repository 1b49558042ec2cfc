use Rattle.std.proofs.Common.{ℕ, List, inr, subst, ◌∙◌}
use Rattle.schema_words.specs.Outcome.{IsWritten}
use Rattle.schema_words.specs.declared.ended.Ended.TheVariants as ended
use Rattle.pair_words.proofs.faults.print_line.Goals as goal

pub returns-in-Ok-clause-ends : goal.returns-in-Ok-clause-ends
returns-in-Ok-clause-ends g c =
    inr (subst (λ (t : List ℕ). IsWritten (g.K.Sink.written c.args.sink.now) (g.K.Sink.written c.print.new.sink) t ended.Fault c.print.result) (c.deref.ensures ∙ c.in-Ok.ensures) c.print.ensures.ends)
