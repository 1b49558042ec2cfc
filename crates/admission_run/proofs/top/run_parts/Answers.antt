use Rattle.std.proofs.Common.{map, sym, true≢false}
use Rattle.serde_json.specs.View.{view}
use Rattle.json_value.specs.View.{value_of}
use Rattle.schema_tree.specs.Fault.{fault_view}
use Rattle.admission_run.proofs.Endings.{page_of_parts, line_of_parts, cause_left}
use Rattle.admission_run.proofs.top.run_parts.Goals as goal

pub returns-in-Ok-clause-ends : goal.returns-in-Ok-clause-ends
returns-in-Ok-clause-ends g c = λ all parts input is_schema are_values.
    let r = g.T.Texts.relations c.args.texts.now in
    let printed = page_of_parts all parts (view c.args.schema.now) (map view c.args.values.now) input is_schema are_values c.args.setting r c.in-Ok.answers.items c.deref.result.now c.deref.ensures.value c.in-Ok.ensures.answers in
    c.print_page.ensures.ends c.args.setting r (g.T.Texts.faults c.args.texts.now) (g.T.Texts.faults c.verdicts.new.texts) all printed

pub returns-clause-ends : goal.returns-clause-ends
returns-clause-ends g c = λ all parts input is_schema are_values.
    let r = g.T.Texts.relations c.args.texts.now in
    let faults = g.T.Texts.faults c.args.texts.now in
    let faults' = g.T.Texts.faults c.verdicts.new.texts in
    let f = fault_view c.in-Err.fault in
    let cause = cause_left faults faults' (value_of (view c.args.schema.now)) (map view c.args.values.now) f (λ e. absurd (true≢false (sym (c.if-is_memory.ensures.1 e)))) c.in-Err.ensures.refused in
    c.print_fault.ensures.ends c.args.setting r faults faults' all (line_of_parts all parts (view c.args.schema.now) (map view c.args.values.now) input is_schema are_values faults faults' f cause)
