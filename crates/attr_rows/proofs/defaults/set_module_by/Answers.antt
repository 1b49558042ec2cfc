use Rattle.attr_rows.proofs.Follows.{both_done}
use Rattle.attr_rows.proofs.defaults.set_module_by.Goals as goal

pub returns : goal.returns
returns c = both_done _ _ _ _ _ c.in_ok-set_from_module.ensures c.in_ok-set_from_module-2.ensures
