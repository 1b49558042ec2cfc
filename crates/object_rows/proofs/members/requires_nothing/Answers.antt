use Rattle.object_rows.proofs.Named.{no_key}
use Rattle.object_rows.proofs.members.requires_nothing.Goals as goal

pub returns : goal.returns
returns c = no_key c.is_empty.result c.args.required.now.keys c.is_empty.ensures
