use Rattle.std.proofs.Common.{◌≡◌, ◌≤◌, ◌+◌, ◌++◌, ℕ, List, [], Some, None, Err, refl, sym, ◌∙◌, ap, inl, inr, subst, arith}
use Rattle.std.specs.Prelude.{Option}
use Rattle.schema_defs.specs.Texts.{Relations}
use Rattle.line_reader.specs.State.{count_of, held, line_in}
use Rattle.model_lines.specs.Going.{IsGoing}
use Rattle.model_lines.specs.Outcome.{EndsLines}
use Rattle.model_lines.specs.Printing.{IsAnswerCut, IsLastAnswered, IsLineAnswered}
use Rattle.model_lines.specs.declared.ending.Ending.{Ending}
use Rattle.model_lines.proofs.Going.{answer_cut, ends_with, goes_on, last_answered, next_known, none_left, overrun, spent, stopped}
use Rattle.model_lines.proofs.Options.{none_map, some_map}
use Rattle.model_lines.proofs.Unjudged.{rose_since}
use Rattle.model_lines.proofs.values.step.Goals as goal

pub returns-in-Ok-Line-clause-goes : goal.returns-in-Ok-Line-clause-goes
returns-in-Ok-Line-clause-goes g c = λ k left before same going.
    let r = c.args.report.now in
    let n = c.args.index in
    let old = c.args.reader.now in
    let new = c.next_line.new.self in
    let now = g.S.Source.left c.args.source.now in
    let now' = g.S.Source.left c.next_line.new.source in
    let written = g.K.Sink.written c.args.sink.now in
    let written' = g.K.Sink.written c.print_answer.new.sink in
    let e = rw c.in-Ok-Line.field-0-is at c.in-Ok-Line.ensures.found in
    none_map c.print_answer.result (IsLineAnswered (g.T.Texts.relations c.args.texts.now) r n e.text written written') (IsGoing k left now' (held new) (count_of new) before written' r (n + 1))
    (λ s. goes_on k left now (held old) (count_of old) before written r n going (held new) now' (count_of new) (line_in new) written' e
    (subst (λ (t : Relations). IsLineAnswered t r n e.text written written') (sym same) s))
    (c.print_answer.ensures.whole e.text e.is_kept)

pub returns-in-Ok-Line-clause-ends : goal.returns-in-Ok-Line-clause-ends
returns-in-Ok-Line-clause-ends g c = λ k left before asked going.
    let r = c.args.report.now in
    let n = c.args.index in
    let old = c.args.reader.now in
    let new = c.next_line.new.self in
    let now = g.S.Source.left c.args.source.now in
    let now' = g.S.Source.left c.next_line.new.source in
    let written = g.K.Sink.written c.args.sink.now in
    let written' = g.K.Sink.written c.print_answer.new.sink in
    let texts = g.T.Texts.relations c.args.texts.now in
    let faults = g.T.Texts.faults c.args.texts.now in
    let faults' = g.T.Texts.faults c.print_answer.new.texts in
    let e = rw c.in-Ok-Line.field-0-is at c.in-Ok-Line.ensures.found in
    some_map c.print_answer.result (λ x. IsAnswerCut texts r n e.text faults faults' written written' x) (λ x. EndsLines k left now' before written' x.status (Some r) x.fault)
    (λ x p. answer_cut k left now (held old) (count_of old) before written r n going now' written' e.text faults faults' x
    (next_known k left now (held old) (count_of old) before written r n going now' (held new) (count_of new) (line_in new) e)
    (rose_since k.before faults faults' k.after asked.1 asked.2) (subst (λ (t : Relations). IsAnswerCut t r n e.text faults faults' written written' x) (sym asked.0) p))
    (c.print_answer.ensures.cut e.text e.is_kept)

pub returns-in-Ok-Last-clause-ends : goal.returns-in-Ok-Last-clause-ends
returns-in-Ok-Last-clause-ends g c = λ k left before asked going.
    let r = c.args.report.now in
    let n = c.args.index in
    let old = c.args.reader.now in
    let new = c.next_line.new.self in
    let now = g.S.Source.left c.args.source.now in
    let now' = g.S.Source.left c.next_line.new.source in
    let written = g.K.Sink.written c.args.sink.now in
    let written' = g.K.Sink.written c.print_last.new.sink in
    let texts = g.T.Texts.relations c.args.texts.now in
    let faults = g.T.Texts.faults c.args.texts.now in
    let faults' = g.T.Texts.faults c.print_last.new.texts in
    let e = rw c.in-Ok-Last.field-0-is at c.in-Ok-Last.ensures.found in
    let line = held old ++ e.0.read in
    last_answered k left now (held old) (count_of old) before written r n going now' written' (held new) (count_of new) (line_in new) faults faults' c.print_last.result e.0 e.1 new.within
    (rose_since k.before faults faults' k.after asked.1 asked.2)
    (subst (λ (t : Relations). IsLastAnswered t r n line faults faults' written written' c.print_last.result) (sym asked.0) (c.print_last.ensures.ends line e.0.is_kept))

pub returns-in-Ok-End-clause-ends : goal.returns-in-Ok-End-clause-ends
returns-in-Ok-End-clause-ends g c = λ k left before asked going.
    let r = c.args.report.now in
    let n = c.args.index in
    let old = c.args.reader.now in
    let new = c.next_line.new.self in
    let now = g.S.Source.left c.args.source.now in
    let now' = g.S.Source.left c.next_line.new.source in
    let written = g.K.Sink.written c.args.sink.now in
    let written' = g.K.Sink.written c.print_end.new.sink in
    let e = rw c.in-Ok-End.field-0-is at c.in-Ok-End.ensures.found in
    ends_with k left now (held old) (count_of old) before written r n going now' written' c.print_end.result
    (none_left k left now (held old) (count_of old) before written r n going now' (held new) (count_of new) (line_in new) e.0 e.1 new.within) c.print_end.ensures.end

pub returns-in-Err-Memory-clause-ends : goal.returns-in-Err-Memory-clause-ends
returns-in-Err-Memory-clause-ends g c = λ k left before asked going.
    let written = g.K.Sink.written c.args.sink.now in
    spent k left (g.S.Source.left c.args.source.now) (held c.args.reader.now) (count_of c.args.reader.now) before written c.args.report.now c.args.index going (g.S.Source.left c.next_line.new.source) written
    c.bare.result.status c.bare.result.fault (ap (λ (e : Ending). e.status) c.bare.ensures) (ap (λ (e : Ending). e.fault) c.bare.ensures) refl

pub returns-in-Err-Failed-clause-ends : goal.returns-in-Err-Failed-clause-ends
returns-in-Err-Failed-clause-ends g c = λ k left before asked going.
    let written = g.K.Sink.written c.args.sink.now in
    stopped k left (g.S.Source.left c.args.source.now) (held c.args.reader.now) (count_of c.args.reader.now) before written c.args.report.now c.args.index going (g.S.Source.left c.next_line.new.source)
    c.bare-in-Err-Failed.result.status c.bare-in-Err-Failed.result.fault (ap (λ (e : Ending). e.status) c.bare-in-Err-Failed.ensures) (ap (λ (e : Ending). e.fault) c.bare-in-Err-Failed.ensures)
    (c.in-Err-Failed.ensures.failed (ap Err c.in-Err-Failed.field-0-is))

pub returns-in-Err-TooLong-clause-ends : goal.returns-in-Err-TooLong-clause-ends
returns-in-Err-TooLong-clause-ends g c = λ k left before asked going.
    let written = g.K.Sink.written c.args.sink.now in
    overrun k left (g.S.Source.left c.args.source.now) (held c.args.reader.now) (count_of c.args.reader.now) before written c.args.report.now c.args.index going (g.S.Source.left c.next_line.new.source)
    c.bare-in-Err-TooLong.result.status c.bare-in-Err-TooLong.result.fault (ap (λ (e : Ending). e.status) c.bare-in-Err-TooLong.ensures) (ap (λ (e : Ending). e.fault) c.bare-in-Err-TooLong.ensures)
    (c.in-Err-TooLong.ensures.too_long (ap Err c.in-Err-TooLong.field-0-is))
