use Rattle.std.proofs.Common.{None}
use Rattle.merged_rows.specs.Starts.{spot_of}
use Rattle.merged_rows.proofs.PartTurns.{parts_begin}
use Rattle.merged_rows.proofs.merging.carried_all.Goals as goal

pub loop-part-init : goal.loop-part-init
loop-part-init c = parts_begin (spot_of c.args.start.now c.args.trail.now.items None) c.deref-part-items.result.now c.in_ok-all.all.items c.in_ok-all.ensures.items
