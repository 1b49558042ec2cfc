use Rattle.std.proofs.Common.{◌&&◌, ◌∙◌}
use Rattle.good_names.proofs.Texts.{kept_is_good}
use Rattle.good_names.proofs.kept.is_good_name.Goals as goal

pub returns : goal.returns
returns c = (λ i. c.is_kept_name-kept.ensures i && c.in_ok-composed.ensures i) ∙ kept_is_good c.args.name.now c.utf8.name
