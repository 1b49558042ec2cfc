use Rattle.std.proofs.Common.{ap}
use Rattle.value_kinds.proofs.Turns.{untagged_turn}
use Rattle.value_kinds.proofs.passes.untagged_kinds.Goals as goal

pub loop-variant-preserved : goal.loop-variant-preserved
loop-variant-preserved c =
    let l = c.loop-variant in
    untagged_turn c.args.variants.now l.variant-index c.variant-item.result c.loop-variant-test.true c.variant-item.is l.kinds c.fields_claim.result.own c.either-kinds.result _
    (ap (λ d. d.own) c.fields_claim.ensures) c.either-kinds.ensures l.invariant
