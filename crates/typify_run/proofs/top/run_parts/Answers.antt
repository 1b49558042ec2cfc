use Rattle.std.proofs.Common.{map, sym, true≢false}
use Rattle.serde_json.specs.View.{view}
use Rattle.typify_run.specs.Call.{Call, call}
use Rattle.typify_run.proofs.Parted.{reported_of, caused_of}
use Rattle.typify_run.proofs.top.run_parts.Goals as goal

pub returns-in-Ok-clause-answer : goal.returns-in-Ok-clause-answer
returns-in-Ok-clause-answer g c = λ parts same listed.
    let texts = g.T.Texts.relations c.args.texts.now in
    let before = g.T.Texts.faults c.args.texts.now in
    let after = g.T.Texts.faults c.examine_values-examined.new.texts in
    let asked : Call = call c.args.asked texts before after in
    c.print_report.ensures.answer texts before after parts
    (reported_of asked (view c.args.schema.now) (map view c.args.values.items) parts same listed c.in-Ok.report c.in-Ok.ensures.report c.in-Ok.ensures.examined c.in-Ok.ensures.accepted c.in-Ok.ensures.emission)

pub returns-else-is_memory-clause-answer : goal.returns-else-is_memory-clause-answer
returns-else-is_memory-clause-answer g c = λ parts same listed.
    let texts = g.T.Texts.relations c.args.texts.now in
    let before = g.T.Texts.faults c.args.texts.now in
    let after = g.T.Texts.faults c.examine_values-examined.new.texts in
    let asked : Call = call c.args.asked texts before after in
    c.print_fault.ensures.answer asked parts
    (caused_of asked (view c.args.schema.now) (map view c.args.values.items) parts same listed c.in-Err.fault (λ e. absurd (true≢false (sym (c.if-is_memory.ensures.1 e)))) c.in-Err.ensures.refused)
