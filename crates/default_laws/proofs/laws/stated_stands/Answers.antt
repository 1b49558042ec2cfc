use Rattle.default_laws.proofs.Standing.{stated_stands}
use Rattle.default_laws.proofs.laws.stated_stands.Goals as goal

pub returns : goal.returns
returns c = stated_stands
