use Rattle.schema_defs.proofs.Unknown.{keywords_are_members}
use Rattle.schema_defs.proofs.laws.keywords_are_members.Goals as goal

pub returns : goal.returns
returns c = keywords_are_members
