use Rattle.value_kinds.proofs.Splits.{same_kinds}
use Rattle.value_kinds.proofs.passes.is_same.Goals as goal

pub returns : goal.returns
returns c = same_kinds c.args.a c.args.b c.eq.result c.eq.ensures
