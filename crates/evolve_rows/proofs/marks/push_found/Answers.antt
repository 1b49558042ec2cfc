use Rattle.std.proofs.Common.{◌≡◌, ap, ◌∙◌}
use Rattle.value_models.specs.FieldView.{field_view}
use Rattle.evolve_defs.specs.Steps.{other_fields, own_fields}
use Rattle.evolve_rows.specs.Found.{refs_view}
use Rattle.evolve_rows.specs.MarksView.{steps_view}
use Rattle.evolve_rows.proofs.Told.{found_end, found_turn, lost_end, lost_turn}
use Rattle.evolve_rows.proofs.marks.push_found.Goals as goal

pub loop-field-preserved : goal.loop-field-preserved
loop-field-preserved c =
    let xs = c.args.new.now in
    let i = c.loop-field.field-index in
    let x = c.field-item.result in
    let g = field_view x.now in
    let fs = refs_view c.loop-field.left.items in
    let own : refs_view c.deref-in-loop-field.result.now ≡ own_fields g fs =
    ap refs_view c.deref-in-loop-field.ensures.value ∙ c.in_ok-own.ensures ∙ ap (λ ys. own_fields g (refs_view ys)) c.deref.ensures.value in
    let others = c.in_ok-left.ensures ∙ ap (λ ys. other_fields g (refs_view ys)) c.deref-in-loop-field-2.ensures.value in (
      found_turn xs i x fs _ c.loop-field-test.true c.field-item.is others (refs_view c.deref-in-loop-field.result.now) (steps_view c.loop-field.steps.items) (steps_view c.push_fields.new.steps.items) _ own c.in_ok-push_fields.ensures
          c.loop-field.invariant.0,
      lost_turn xs i x fs _ c.loop-field-test.true c.field-item.is others _ c.loop-field.invariant.1,
    )

pub returns-clause-steps : goal.returns-clause-steps
returns-clause-steps c = found_end c.args.new.now c.loop-field.field-index (refs_view c.loop-field.left.items) (steps_view c.loop-field.steps.items) _ c.loop-field-test.false c.loop-field.invariant.0

pub returns-clause-left : goal.returns-clause-left
returns-clause-left c = lost_end c.args.new.now c.loop-field.field-index (refs_view c.loop-field.left.items) _ c.loop-field-test.false c.loop-field.invariant.1
