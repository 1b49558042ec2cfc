use Rattle.std.proofs.Common.{◌≡◌, refl, sym, ap, map, ◌∙◌}
use Rattle.serde_json.specs.View.{view, items_view}
use Rattle.run_input.specs.Input.{Parts, data_of}
use Rattle.run_input.proofs.Inputs.{data_of_items}
use Rattle.admission_run.proofs.top.run_bytes.Goals as goal

pub returns-in-Some-clause-ends : goal.returns-in-Some-clause-ends
returns-in-Some-clause-ends g c =
    let parts : Parts = record { schema = view c.in-Some.parts.schema.now; values = items_view c.in-Some.parts.values.now.items } in
    let values : data_of parts.values ≡ map view c.deref.result.now = data_of_items (map view c.in-Some.parts.values.now.items) ∙ ap (map view) (sym c.deref.ensures.value) in
    c.run_parts.ensures.ends c.args.bytes.now parts
    (record { short = c.requires; utf8 = c.in-Ok.ensures.value.0; read = (view c.in-Ok.value, c.in-Ok.ensures.value.1, sym c.in-Some.ensures) })
    refl values

pub returns-in-Err-NotJson-clause-ends : goal.returns-in-Err-NotJson-clause-ends
returns-in-Err-NotJson-clause-ends g c = (c.in-Err-NotJson.ensures.no_input c.in-Err-NotJson.field-0-is, refl)
