use Rattle.container_defs.specs.Checks.{skip_de_told}
use Rattle.derive_ast.specs.Views.{field_view, variant_view}
use Rattle.derive_ast.proofs.Loops.{always_err, told_on, front_stays, same_left, next_left}
use Rattle.derive_ast.proofs.checks.skips.check_read_fields.Goals as goal

pub returns-in_err-tell_unread-clause-err : goal.returns-in_err-tell_unread-clause-err
returns-in_err-tell_unread-clause-err c =
    let l = c.loop-field in
    let next = next_left field_view (skip_de_told (variant_view c.args.variant.now)) c.args.fields.now l.field-index c.field-item.result c.loop-field-test.true c.field-item.is in
    always_err _ _ (front_stays _ _ _ _ _ l.invariant c.in_err-tell_unread.ensures.err)

pub loop-field-preserved : goal.loop-field-preserved
loop-field-preserved c =
    let l = c.loop-field in
    let next = next_left field_view (skip_de_told (variant_view c.args.variant.now)) c.args.fields.now l.field-index c.field-item.result c.loop-field-test.true c.field-item.is in
    told_on _ _ _ _ _ _ (same_left _ _ _ _ _ l.invariant next) c.in_ok-tell_unread.ensures.ok
