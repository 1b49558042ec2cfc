use Rattle.std.proofs.Common.{◌≡◌, refl, sym, ap, map, inl, inr, subst, ◌∙◌}
use Rattle.serde_json.specs.View.{view, items_view}
use Rattle.run_input.specs.Input.{Parts, data_of}
use Rattle.run_input.proofs.Inputs.{data_of_items}
use Rattle.typify_run.specs.Call.{call}
use Rattle.typify_run.specs.Outcome.{Ends, examined, values_of}
use Rattle.typify_run.specs.declared.outcome.Outcome.{Outcome}
use Rattle.typify_run.proofs.top.run_bytes.Goals as goal

pub returns-in-Some-clause-ends : goal.returns-in-Some-clause-ends
returns-in-Some-clause-ends g c =
    let parts : Parts = record { schema = view c.in-Some.field-0.schema; values = items_view c.in-Some.field-0.values.items } in
    let values : values_of c.args.asked.command parts ≡ map view c.examined-values.result.items = ap (examined c.args.asked.command) (data_of_items (map view c.in-Some.field-0.values.items)) ∙ sym c.examined-values.ensures in
    inr (inr (
      parts,
      record { short = c.requires.short; utf8 = c.in-Ok.ensures.value.0; read = (view c.in-Ok.value, c.in-Ok.ensures.value.1, sym c.in-Some.ensures) },
      c.run_parts.ensures.answer parts refl values,
    ))

pub returns-in-Err-NotJson-clause-ends : goal.returns-in-Err-NotJson-clause-ends
returns-in-Err-NotJson-clause-ends g c =
    let old = g.K.Sink.written c.args.sink.now in
    let asked = call c.args.asked (g.T.Texts.relations c.args.texts.now) (g.T.Texts.faults c.args.texts.now) (g.T.Texts.faults c.args.texts.now) in
    subst (λ (o : Outcome). Ends asked c.args.bytes.items old old o.status o.report o.fault) (sym c.bare-in-Err-NotJson.ensures)
    (inl (refl, c.in-Err-NotJson.ensures.no_input c.in-Err-NotJson.field-0-is, (refl, refl, refl)))
