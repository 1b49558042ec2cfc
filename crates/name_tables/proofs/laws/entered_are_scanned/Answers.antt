use Rattle.name_tables.proofs.Names.{entered_are_scanned}
use Rattle.name_tables.proofs.laws.entered_are_scanned.Goals as goal

pub returns : goal.returns
returns c = entered_are_scanned
