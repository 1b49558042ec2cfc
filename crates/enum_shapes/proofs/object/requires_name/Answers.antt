use Rattle.std.proofs.Common.{◌∙◌}
use Rattle.enum_shapes.proofs.Named.{key_found}
use Rattle.enum_shapes.proofs.object.requires_name.Goals as goal

pub returns : goal.returns
returns c = c.contains.ensures ∙ key_found c.args.name.now c.args.required.now.keys
