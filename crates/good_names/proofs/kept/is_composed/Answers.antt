use Rattle.std.proofs.Common.{chars}
use Rattle.good_names.proofs.Texts.{in_form}
use Rattle.good_names.proofs.kept.is_composed.Goals as goal

pub returns : goal.returns
returns c = in_form c.in_ok-composed.composed (chars c.args.name.now) c.in_ok-composed.ensures.answer
