use Rattle.std.proofs.Common.{◌∙◌}
use Rattle.object_rows.proofs.Named.{key_found}
use Rattle.object_rows.proofs.members.is_required.Goals as goal

pub returns : goal.returns
returns c = c.contains.ensures ∙ key_found c.args.name.now c.args.required.now.keys
