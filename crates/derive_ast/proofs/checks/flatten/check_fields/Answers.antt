use Rattle.container_defs.specs.Checks.{flatten_by, at_field}
use Rattle.derive_ast.specs.Views.{field_view}
use Rattle.derive_ast.proofs.Loops.{always_err, told_on, front_stays, same_left, next_left}
use Rattle.derive_ast.proofs.checks.flatten.check_fields.Goals as goal

pub returns-in_err-check_field-clause-err : goal.returns-in_err-check_field-clause-err
returns-in_err-check_field-clause-err c =
    let l = c.loop-field in
    let next = next_left field_view (λ f. flatten_by c.args.style f.attrs.flatten (at_field f)) c.args.fields.now l.field-index c.field-item.result c.loop-field-test.true c.field-item.is in
    always_err _ _ (front_stays _ _ _ _ _ l.invariant c.in_err-check_field.ensures.err)

pub loop-field-preserved : goal.loop-field-preserved
loop-field-preserved c =
    let l = c.loop-field in
    let next = next_left field_view (λ f. flatten_by c.args.style f.attrs.flatten (at_field f)) c.args.fields.now l.field-index c.field-item.result c.loop-field-test.true c.field-item.is in
    told_on _ _ _ _ _ _ (same_left _ _ _ _ _ l.invariant next) c.in_ok-check_field.ensures.ok
