use Rattle.std.proofs.Common.{◌≡◌, Some, None, sym, ap, ◌∙◌}
use Rattle.enum_shapes.proofs.Lone.{no_lone}
use Rattle.enum_shapes.proofs.external.only_case.Goals as goal

pub returns-in-None : goal.returns-in-None
returns-in-None c = no_lone c.args.members.now c.args.closed c.in-None.ensures
