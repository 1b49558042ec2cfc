use Rattle.attr_rows.proofs.Follows.{both_done}
use Rattle.attr_rows.proofs.row.set_skips.Goals as goal

pub returns : goal.returns
returns c = both_done _ _ _ _ _ c.in_ok-set_flag.ensures c.in_ok-set_flag-2.ensures
