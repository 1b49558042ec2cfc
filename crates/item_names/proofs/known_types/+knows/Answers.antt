use Rattle.std.proofs.Common.{arith}
use Rattle.value_types.proofs.Sizes.{item_smaller}
use Rattle.item_names.proofs.known_types.+knows.Goals as goal

pub know_all-knows-requires : goal.know_all-knows-requires
know_all-knows-requires t c =
    let h = item_smaller c.args.tys.now c.loop-ty.ty-index c.ty-item.result c.loop-ty-test.true c.ty-item.is in
    (omega (arith, h, c.decreases), tt)
