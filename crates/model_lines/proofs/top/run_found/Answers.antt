use Rattle.std.proofs.Common.{sym, subst}
use Rattle.std.specs.Prelude.{Option}
use Rattle.line_reader.specs.State.{count_of, held, line_in}
use Rattle.line_reader.specs.declared.found.Found.{Found}
use Rattle.model_lines.specs.Going.{IsFirstFound}
use Rattle.model_lines.specs.Outcome.{EndsLines}
use Rattle.model_lines.specs.Words.{call}
use Rattle.model_lines.specs.declared.outcome.LinesOutcome.{LinesOutcome}
use Rattle.model_lines.proofs.Beginning.{long_document}
use Rattle.model_lines.proofs.top.run_found.Goals as goal

pub returns-in-Some-clause-ends : goal.returns-in-Some-clause-ends
returns-in-Some-clause-ends g c = λ left h.
    let now = g.S.Source.left c.args.source.now in
    let old = c.args.reader.now in
    c.run_line.ensures.ends left (subst (λ (o : Option Found). IsFirstFound left now (held old) (count_of old) (line_in old) o) c.in-Some.is h)

pub returns-in-None-clause-ends : goal.returns-in-None-clause-ends
returns-in-None-clause-ends g c = λ left h.
    let now = g.S.Source.left c.args.source.now in
    let old = c.args.reader.now in
    let before = g.K.Sink.written c.args.sink.now in
    let asked = call c.args.asked (g.T.Texts.relations c.args.texts.now) (g.T.Texts.faults c.args.texts.now) (g.T.Texts.faults c.args.texts.now) in
    let e = subst (λ (o : Option Found). IsFirstFound left now (held old) (count_of old) (line_in old) o) c.in-None.is h in
    subst (λ (o : LinesOutcome). EndsLines asked left now before before o.status o.report o.fault) (sym c.bare.ensures) (long_document left now before e)
