use Rattle.schema_laws.proofs.Wide.{wide_numbers_stand}
use Rattle.schema_laws.proofs.laws.wide_numbers_stand.Goals as goal

pub returns : goal.returns
returns c = wide_numbers_stand
