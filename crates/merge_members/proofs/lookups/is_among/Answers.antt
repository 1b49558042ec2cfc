use Rattle.std.proofs.Common.{◌∙◌}
use Rattle.merge_members.proofs.Found.{key_found}
use Rattle.merge_members.proofs.lookups.is_among.Goals as goal

pub returns : goal.returns
returns c = c.contains.ensures ∙ key_found c.args.name.now c.args.names.now.keys
