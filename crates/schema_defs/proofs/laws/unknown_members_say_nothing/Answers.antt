use Rattle.schema_defs.proofs.Unknown.{unknown_members_say_nothing}
use Rattle.schema_defs.proofs.laws.unknown_members_say_nothing.Goals as goal

pub returns : goal.returns
returns c = unknown_members_say_nothing
