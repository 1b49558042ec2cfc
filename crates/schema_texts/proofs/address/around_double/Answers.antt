use Rattle.std.proofs.Common.{rules, arith}
use Rattle.schema_texts.proofs.Addresses.{passed_more}
use Rattle.schema_texts.proofs.address.around_double.Goals as goal

pub loop-place-preserved : goal.loop-place-preserved
loop-place-preserved c = passed_more c.args.text.now c.loop-place.place c.loop-place.invariant (omega arith) (search rules)
