use Rattle.std.proofs.Common.{◌≡◌, ℕ, List, Bool, true, false, refl, sym, ◌∙◌, ap, subst}
use Rattle.std.specs.Prelude.{Option}
use Rattle.line_reader.specs.State.{count_of, held}
use Rattle.model_lines.specs.Going.{IsReady}
use Rattle.model_lines.specs.declared.ending.Ending.{Ending}
use Rattle.model_lines.proofs.Beginning.{first_going, head_cut, no_head, only_head}
use Rattle.model_lines.proofs.values.run_report.Goals as goal

pub returns-in_default-clause-ends : goal.returns-in_default-clause-ends
returns-in_default-clause-ends g c = λ k left asked h.
    let now = g.S.Source.left c.args.source.now in
    no_head k c.args.more left now now (held c.args.reader.now) (count_of c.args.reader.now) c.args.report.now h (g.K.Sink.written c.args.sink.now)
    c.bare.result.status c.bare.result.fault (ap (λ (e : Ending). e.status) c.bare.ensures) (ap (λ (e : Ending). e.fault) c.bare.ensures)

pub returns-in-Some-clause-ends : goal.returns-in-Some-clause-ends
returns-in-Some-clause-ends g c = λ k left asked h.
    let now = g.S.Source.left c.args.source.now in
    head_cut k c.args.more left now now (held c.args.reader.now) (count_of c.args.reader.now) c.args.report.now h (g.K.Sink.written c.args.sink.now)
    (g.K.Sink.written c.print_text.new.sink) c.as_bytes.result.now c.in-Some.ending (c.as_bytes.ensures.value ∙ c.in-Ok.ensures) c.in-Some.ensures.cut

pub returns-then-more-clause-ends : goal.returns-then-more-clause-ends
returns-then-more-clause-ends g c = λ k left asked h.
    let now = g.S.Source.left c.args.source.now in
    let ready = subst (λ (b : Bool). IsReady k b left now (held c.args.reader.now) (count_of c.args.reader.now) c.args.report.now) c.if-more.true h in
    c.run_module.ensures.ends k left (g.K.Sink.written c.args.sink.now) asked
    (first_going k left now (held c.args.reader.now) (count_of c.args.reader.now) c.args.report.now (g.K.Sink.written c.args.sink.now) (g.K.Sink.written c.print_text.new.sink) c.as_bytes.result.now ready
    (c.as_bytes.ensures.value ∙ c.in-Ok.ensures) c.in_default-print_text.ensures.whole)

pub returns-clause-ends : goal.returns-clause-ends
returns-clause-ends g c = λ k left asked h.
    let now = g.S.Source.left c.args.source.now in
    let ready = subst (λ (b : Bool). IsReady k b left now (held c.args.reader.now) (count_of c.args.reader.now) c.args.report.now) c.if-more.false h in
    only_head k left now now (held c.args.reader.now) (count_of c.args.reader.now) c.args.report.now (g.K.Sink.written c.args.sink.now) (g.K.Sink.written c.print_text.new.sink) (g.K.Sink.written c.print_end.new.sink)
    c.as_bytes.result.now c.print_end.result ready (c.as_bytes.ensures.value ∙ c.in-Ok.ensures) c.in_default-print_text.ensures.whole c.print_end.ensures.end
