use Rattle.std.proofs.Common.{not, ap, ◌∙◌}
use Rattle.name_tables.specs.Names.{entered}
use Rattle.plain_tables.specs.Apart.{is_entered}
use Rattle.plain_tables.proofs.Once.{variant_turn}
use Rattle.plain_tables.proofs.names.variants_stand_once.Goals as goal

pub loop-variant-preserved : goal.loop-variant-preserved
loop-variant-preserved c =
    let before = c.loop-variant.names in
    variant_turn c.args.variants.now c.loop-variant.variant-index c.variant-item.result before c.enter.new.names c.in_ok-enter.field-0 _ c.loop-variant-test.true c.variant-item.is
    (c.in_ok-enter.ensures.answer ∙ ap (λ n. not (is_entered n before)) c.deref.ensures) c.if-not-branch.false (c.in_ok-enter.ensures.entered ∙ ap (λ n. entered n 0 before) c.deref.ensures) c.loop-variant.invariant
