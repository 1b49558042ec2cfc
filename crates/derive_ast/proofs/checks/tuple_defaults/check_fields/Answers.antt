use Rattle.std.proofs.Common.{ap, sym, ◌+◌, map, drop}
use Rattle.container_defs.specs.Checks.{default_order_from}
use Rattle.derive_ast.specs.Views.{field_view}
use Rattle.derive_ast.proofs.Loops.{always_err, told_on, front_stays, same_left}
use Rattle.derive_ast.proofs.Told.{next_order}
use Rattle.derive_ast.proofs.checks.tuple_defaults.check_fields.Goals as goal

pub returns-in_err-check_field-clause-err : goal.returns-in_err-check_field-clause-err
returns-in_err-check_field-clause-err c = always_err _ _ (front_stays _ _ _ _ _ c.loop-index.invariant c.in_err-check_field.ensures.err)

pub loop-index-preserved : goal.loop-index-preserved
loop-index-preserved c =
    let l = c.loop-index in
    let x = c.index-fields-index.result in
    let next = next_order field_view c.args.fields.now l.first l.index x c.loop-index-test.true c.index-fields-index.is in
    let by = ap (λ o. default_order_from o (l.index + 1) (map field_view (drop (l.index + 1) c.args.fields.now))) (sym c.first_with_default-first.ensures) in
    same_left _ _ _ _ _ (told_on _ _ _ _ _ _ (same_left _ _ _ _ _ l.invariant next) c.in_ok-check_field.ensures.ok) by
