use Rattle.std.proofs.Common.{[], sym, subst}
use Rattle.line_reader.specs.Reading.{IsFound}
use Rattle.line_reader.specs.State.{count_of, held, line_in}
use Rattle.line_reader.specs.declared.found.Found.{Found}
use Rattle.model_lines.specs.Outcome.{EndsLines}
use Rattle.model_lines.specs.Words.{call}
use Rattle.model_lines.specs.declared.outcome.LinesOutcome.{LinesOutcome}
use Rattle.model_lines.proofs.Beginning.{first_line_read, no_first, only_line_read}
use Rattle.model_lines.proofs.top.run_line.Goals as goal

pub returns-in-Line-clause-ends : goal.returns-in-Line-clause-ends
returns-in-Line-clause-ends g c = λ left h.
    let now = g.S.Source.left c.args.source.now in
    let old = c.args.reader.now in
    let e = subst (λ (f : Found). IsFound [] (held old) left now 0 (count_of old) (line_in old) f) c.in-Line.is h in
    c.run_first.ensures.ends left e.text (first_line_read left now (held old) (count_of old) (line_in old) e) e.is_kept

pub returns-in-Last-clause-ends : goal.returns-in-Last-clause-ends
returns-in-Last-clause-ends g c = λ left h.
    let now = g.S.Source.left c.args.source.now in
    let old = c.args.reader.now in
    let e = subst (λ (f : Found). IsFound [] (held old) left now 0 (count_of old) (line_in old) f) c.in-Last.is h in
    c.run_first-in-Last.ensures.ends left e.0.read (only_line_read left now (held old) (count_of old) (line_in old) e.0 e.1 old.within) e.0.is_kept

pub returns-in-End-clause-ends : goal.returns-in-End-clause-ends
returns-in-End-clause-ends g c = λ left h.
    let now = g.S.Source.left c.args.source.now in
    let old = c.args.reader.now in
    let before = g.K.Sink.written c.args.sink.now in
    let asked = call c.args.asked (g.T.Texts.relations c.args.texts.now) (g.T.Texts.faults c.args.texts.now) (g.T.Texts.faults c.args.texts.now) in
    let e = subst (λ (f : Found). IsFound [] (held old) left now 0 (count_of old) (line_in old) f) c.in-End.is h in
    subst (λ (o : LinesOutcome). EndsLines asked left now before before o.status o.report o.fault) (sym c.bare.ensures) (no_first left now (held old) (count_of old) (line_in old) before e old.within)
