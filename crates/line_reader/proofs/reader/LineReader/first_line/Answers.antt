use Rattle.std.proofs.Common.{subst}
use Rattle.std.specs.Prelude.{Option, IfSome}
use Rattle.line_reader.specs.Reading.{IsFound}
use Rattle.line_reader.specs.State.{count_of, held, line_in}
use Rattle.line_reader.specs.declared.found.Found.{Found}
use Rattle.line_reader.proofs.Begun.{of_fault}
use Rattle.line_reader.proofs.reader.LineReader.first_line.Goals as goal

pub returns-in_err-found-clause-failed : goal.returns-in_err-found-clause-failed
returns-in_err-found-clause-failed g c = λ e. c.in_err-found.ensures.failed _ _ _ c.loop-self.invariant.begun (of_fault _ _ _ c.from_residual-in_err-found.ensures.1 e)

pub returns-in_err-found-clause-too_long : goal.returns-in_err-found-clause-too_long
returns-in_err-found-clause-too_long g c = λ e. c.in_err-found.ensures.too_long _ _ _ c.loop-self.invariant.begun (of_fault _ _ _ c.from_residual-in_err-found.ensures.1 e)

pub returns-in-Some-clause-found : goal.returns-in-Some-clause-found
returns-in-Some-clause-found g c =
    let old = c.args.self.now in
    let new = c.read_on.new.self in
    subst (λ (o : Option Found). IfSome o (λ f. IsFound (held old) (held new) (g.S.Source.left c.args.source.now) (g.S.Source.left c.read_on.new.source) (count_of old) (count_of new) (line_in new) f)) c.in-Some.is
    (c.in_ok-found.ensures.found _ _ _ c.loop-self.invariant.begun)
