use Rattle.std.proofs.Common.{◌≡◌, refl, sym, inl, inr, subst}
use Rattle.model_lines.specs.Printing.{IsEnd}
use Rattle.model_lines.specs.declared.ending.Ending.{Ending}
use Rattle.model_lines.proofs.printing.print_end.Goals as goal

pub returns-in-Some-clause-end : goal.returns-in-Some-clause-end
returns-in-Some-clause-end g c = inr c.in-Some.ensures.cut

pub returns-in-None-clause-end : goal.returns-in-None-clause-end
returns-in-None-clause-end g c =
    subst (λ (e : Ending). IsEnd (g.K.Sink.written c.args.sink.now) (g.K.Sink.written c.print_text.new.sink) e) (sym c.bare.ensures) (inl (refl, refl, c.in-None.ensures.whole))
