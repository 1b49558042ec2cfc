use Rattle.std.proofs.Common.{◌≡◌, ℕ, List, Err, refl, sym, ap, subst, inl}
use Rattle.line_reader.specs.State.{count_of, held, line_in}
use Rattle.model_lines.specs.Outcome.{EndsLines}
use Rattle.model_lines.specs.Words.{call}
use Rattle.model_lines.specs.declared.outcome.LinesOutcome.{LinesOutcome}
use Rattle.model_lines.proofs.Beginning.{first_found, first_overrun, first_stopped}
use Rattle.model_lines.proofs.top.run_reader.Goals as goal

pub returns-in-Ok-clause-ends : goal.returns-in-Ok-clause-ends
returns-in-Ok-clause-ends g c =
    let left = g.S.Source.left c.args.source.now in
    let now = g.S.Source.left c.first_line.new.source in
    let old = c.args.reader in
    let new = c.first_line.new.self in
    c.run_found.ensures.ends left (first_found (held old) (count_of old) left now (held new) (count_of new) (line_in new) c.in-Ok.found c.requires.none_held c.requires.none_counted c.in-Ok.ensures.found c.in-Ok.ensures.long)

pub returns-in-Err-Memory-clause-ends : goal.returns-in-Err-Memory-clause-ends
returns-in-Err-Memory-clause-ends g c =
    let before = g.K.Sink.written c.args.sink.now in
    let left = g.S.Source.left c.args.source.now in
    let now = g.S.Source.left c.first_line.new.source in
    let asked = call c.args.asked (g.T.Texts.relations c.args.texts.now) (g.T.Texts.faults c.args.texts.now) (g.T.Texts.faults c.args.texts.now) in
    subst (λ (o : LinesOutcome). EndsLines asked left now before before o.status o.report o.fault) (sym c.bare.ensures) (inl (refl, refl, refl))

pub returns-in-Err-Failed-clause-ends : goal.returns-in-Err-Failed-clause-ends
returns-in-Err-Failed-clause-ends g c =
    let before = g.K.Sink.written c.args.sink.now in
    let left = g.S.Source.left c.args.source.now in
    let now = g.S.Source.left c.first_line.new.source in
    let asked = call c.args.asked (g.T.Texts.relations c.args.texts.now) (g.T.Texts.faults c.args.texts.now) (g.T.Texts.faults c.args.texts.now) in
    subst (λ (o : LinesOutcome). EndsLines asked left now before before o.status o.report o.fault) (sym c.bare-in-Err-Failed.ensures)
    (first_stopped asked (held c.args.reader) left now before c.requires.none_held (c.in-Err-Failed.ensures.failed (ap Err c.in-Err-Failed.field-0-is)))

pub returns-clause-ends : goal.returns-clause-ends
returns-clause-ends g c =
    let before = g.K.Sink.written c.args.sink.now in
    let left = g.S.Source.left c.args.source.now in
    let now = g.S.Source.left c.first_line.new.source in
    let asked = call c.args.asked (g.T.Texts.relations c.args.texts.now) (g.T.Texts.faults c.args.texts.now) (g.T.Texts.faults c.args.texts.now) in
    subst (λ (o : LinesOutcome). EndsLines asked left now before before o.status o.report o.fault) (sym c.bare-in-Err-TooLong.ensures)
    (first_overrun (held c.args.reader) (count_of c.args.reader) left now before c.requires.none_held c.requires.none_counted (c.in-Err-TooLong.ensures.too_long (ap Err c.in-Err-TooLong.field-0-is)))
