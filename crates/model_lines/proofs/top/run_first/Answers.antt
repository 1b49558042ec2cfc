use Rattle.std.proofs.Common.{◌≡◌, ℕ, List, Err, refl, sym, ap, subst, inl}
use Rattle.line_reader.specs.State.{count_of, held}
use Rattle.model_lines.specs.Outcome.{EndsLines}
use Rattle.model_lines.specs.Words.{call}
use Rattle.model_lines.specs.declared.outcome.LinesOutcome.{LinesOutcome}
use Rattle.model_lines.proofs.Beginning.{not_a_document}
use Rattle.model_lines.proofs.top.run_first.Goals as goal

pub returns-in-Ok-clause-ends : goal.returns-in-Ok-clause-ends
returns-in-Ok-clause-ends g c = λ left first read line.
    let json = c.in-Ok.ensures.value first line in c.run_document.ensures.ends left first read json.0 json.1

pub returns-in-Err-Memory-clause-ends : goal.returns-in-Err-Memory-clause-ends
returns-in-Err-Memory-clause-ends g c = λ left first read line.
    let before = g.K.Sink.written c.args.sink.now in
    let now = g.S.Source.left c.args.source.now in
    let asked = call c.args.asked (g.T.Texts.relations c.args.texts.now) (g.T.Texts.faults c.args.texts.now) (g.T.Texts.faults c.args.texts.now) in
    subst (λ (o : LinesOutcome). EndsLines asked left now before before o.status o.report o.fault) (sym c.bare.ensures) (inl (refl, refl, refl))

pub returns-in-Err-NotJson-clause-ends : goal.returns-in-Err-NotJson-clause-ends
returns-in-Err-NotJson-clause-ends g c = λ left first read line.
    let before = g.K.Sink.written c.args.sink.now in
    let now = g.S.Source.left c.args.source.now in
    let asked = call c.args.asked (g.T.Texts.relations c.args.texts.now) (g.T.Texts.faults c.args.texts.now) (g.T.Texts.faults c.args.texts.now) in
    subst (λ (o : LinesOutcome). EndsLines asked left now before before o.status o.report o.fault) (sym c.bare-in-Err-NotJson.ensures)
    (not_a_document asked c.args.more left now (held c.args.reader.now) (count_of c.args.reader.now) first before read (c.in-Err-NotJson.ensures.none first line (ap Err c.in-Err-NotJson.field-0-is)))
