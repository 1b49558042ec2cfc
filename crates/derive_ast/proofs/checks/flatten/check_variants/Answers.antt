use Rattle.container_defs.specs.Checks.{flatten_told}
use Rattle.derive_ast.specs.Views.{variant_view}
use Rattle.derive_ast.proofs.Loops.{always_err, told_on, front_on, same_left, next_left}
use Rattle.derive_ast.proofs.checks.flatten.check_variants.Goals as goal

pub returns-in_err-check_variant-clause-err : goal.returns-in_err-check_variant-clause-err
returns-in_err-check_variant-clause-err c =
    let l = c.loop-variant in
    let next = next_left variant_view (λ v. flatten_told v.style v.fields) c.args.variants.now l.variant-index c.variant-item.result c.loop-variant-test.true c.variant-item.is in
    always_err _ _ (front_on _ _ _ _ _ _ (same_left _ _ _ _ _ l.invariant next) c.in_err-check_variant.ensures.err)

pub loop-variant-preserved : goal.loop-variant-preserved
loop-variant-preserved c =
    let l = c.loop-variant in
    let next = next_left variant_view (λ v. flatten_told v.style v.fields) c.args.variants.now l.variant-index c.variant-item.result c.loop-variant-test.true c.variant-item.is in
    told_on _ _ _ _ _ _ (same_left _ _ _ _ _ l.invariant next) c.in_ok-check_variant.ensures.ok
