use Rattle.std.proofs.Common.{arith}
use Rattle.value_types.proofs.Sizes.{item_smaller}
use Rattle.value_types.proofs.build.+build.Goals as goal

pub value_types-value_type-requires : goal.value_types-value_type-requires
value_types-value_type-requires t c =
    let h = item_smaller c.args.tys.now c.loop-ty.ty-index c.ty-item.result c.loop-ty-test.true c.ty-item.is in
    (omega (arith, h, c.decreases), tt)
