use Rattle.plain_told.proofs.Spaces.{plain_targets_are_quiet}
use Rattle.plain_told.proofs.laws.plain_targets_are_quiet.Goals as goal

pub returns : goal.returns
returns c = plain_targets_are_quiet
