use Rattle.schema_defs.proofs.Settings.{walks_know_no_setting}
use Rattle.schema_defs.proofs.laws.walks_know_no_setting.Goals as goal

pub returns : goal.returns
returns c = walks_know_no_setting
