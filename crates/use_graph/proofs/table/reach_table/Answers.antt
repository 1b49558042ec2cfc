use Rattle.std.proofs.Common.{◌-◌, arith, length}
use Rattle.use_graph.proofs.Rounds.{held}
use Rattle.use_graph.proofs.Tables.{table_more}
use Rattle.use_graph.proofs.table.reach_table.Goals as goal

pub loop-left-preserved : goal.loop-left-preserved
loop-left-preserved c = (
  omega arith,
  table_more c.args.uses.now c.loop-left.left (c.loop-left.left - 1) c.loop-left.table.items c.deref.result.now c.in_ok-more.more.items c.deref.ensures.value (held c.in_ok-more.more (length c.args.uses.now) c.in_ok-more.ensures.sized) (omega arith)
      c.loop-left.invariant.0 c.loop-left.invariant.1 c.in_ok-more.ensures.rows,
)
