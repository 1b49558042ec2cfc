use Rattle.std.proofs.Common.{◌≡◌, ◌≤◌, ℕ, List, [], refl, sym, ◌∙◌, ap, subst, map, inl, inr, arith, true≢false}
use Rattle.schema_defs.specs.Texts.{Relations}
use Rattle.serde_json.specs.View.{view}
use Rattle.line_reader.specs.State.{count_of, held}
use Rattle.typify_run.specs.Examine.{CanJudge}
use Rattle.typify_run.specs.Outcome.{IsReported, IsCaused}
use Rattle.typify_run.proofs.Parted.{reported_of, caused_of}
use Rattle.model_lines.specs.Answers.{parts_of}
use Rattle.model_lines.specs.Outcome.{EndsLines}
use Rattle.model_lines.specs.Words.{call}
use Rattle.model_lines.specs.declared.outcome.LinesOutcome.{LinesOutcome}
use Rattle.model_lines.proofs.Beginning.{first_known, refused_document}
use Rattle.model_lines.proofs.top.run_document.Goals as goal

pub run_values_of-requires : goal.run_values_of-requires
run_values_of-requires g c = subst (λ (r : Relations). CanJudge r c.in-Ok.report) (sym c.examine_with.ensures.keeps) c.in-Ok.ensures.judges

pub returns-in-Ok-clause-ends : goal.returns-in-Ok-clause-ends
returns-in-Ok-clause-ends g c = λ left first read short json.
    let d = view c.args.value.now in
    let asked = call c.args.asked (g.T.Texts.relations c.args.texts.now) (g.T.Texts.faults c.args.texts.now) (g.T.Texts.faults c.run_values_of.new.texts) in
    let r = c.in-Ok.report in
    let reported : IsReported asked (parts_of d) r = reported_of asked d [] (parts_of d) refl refl r c.in-Ok.ensures.report c.in-Ok.ensures.examined c.in-Ok.ensures.accepted c.in-Ok.ensures.emission in
    c.run_values_of.ensures.ends asked left (sym c.examine_with.ensures.keeps, c.examine_with.ensures.counts, refl)
    (first, read, record { value = d; short = short; json = json; reported = reported; answered = tt })

pub returns-then-is_memory-clause-ends : goal.returns-then-is_memory-clause-ends
returns-then-is_memory-clause-ends g c = λ left first read short json.
    let before = g.K.Sink.written c.args.sink.now in
    let now = g.S.Source.left c.args.source.now in
    let asked = call c.args.asked (g.T.Texts.relations c.args.texts.now) (g.T.Texts.faults c.args.texts.now) (g.T.Texts.faults c.examine_with.new.texts) in
    subst (λ (o : LinesOutcome). EndsLines asked left now before before o.status o.report o.fault) (sym c.bare.ensures) (inl (refl, refl, refl))

pub print_fault-requires : goal.print_fault-requires
print_fault-requires g c = λ e. absurd (true≢false (sym (c.if-is_memory.ensures.1 e)))

pub returns-else-is_memory-clause-ends : goal.returns-else-is_memory-clause-ends
returns-else-is_memory-clause-ends g c = λ left first read short json.
    let before = g.K.Sink.written c.args.sink.now in
    let after = g.K.Sink.written c.print_fault.new.sink in
    let now = g.S.Source.left c.args.source.now in
    let d = view c.args.value.now in
    let asked = call c.args.asked (g.T.Texts.relations c.args.texts.now) (g.T.Texts.faults c.args.texts.now) (g.T.Texts.faults c.examine_with.new.texts) in
    let cause : IsCaused asked (parts_of d) c.in-Err.fault = caused_of asked d [] (parts_of d) refl refl c.in-Err.fault (λ e. absurd (true≢false (sym (c.if-is_memory.ensures.1 e)))) c.in-Err.ensures.refused in
    subst (λ (o : LinesOutcome). EndsLines asked left now before after o.status o.report o.fault) (sym c.unreported.ensures)
    (refused_document asked left now before after first d c.in-Err.fault c.print_fault.result (first_known c.args.more left now (held c.args.reader.now) (count_of c.args.reader.now) first read) short json cause c.print_fault.ensures.end)
