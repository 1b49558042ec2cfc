use Rattle.std.proofs.Common.{◌∙◌}
use Rattle.schema_admission.proofs.Members.{names_found}
use Rattle.schema_admission.proofs.list.has_name.Goals as goal

pub returns : goal.returns
returns c = c.contains_key.ensures ∙ names_found c.args.name.now c.args.members.now.entries
