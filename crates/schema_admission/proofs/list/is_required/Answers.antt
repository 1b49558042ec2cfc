use Rattle.std.proofs.Common.{◌∙◌}
use Rattle.schema_admission.proofs.Members.{listed_among}
use Rattle.schema_admission.proofs.list.is_required.Goals as goal

pub returns : goal.returns
returns c = c.contains.ensures ∙ listed_among c.args.name.now c.args.required.now.keys
