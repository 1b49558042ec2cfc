use Rattle.conversion_laws.proofs.Conversion.{root_agrees_with_merges}
use Rattle.conversion_laws.proofs.laws.root_agrees_with_merges.Goals as goal

pub returns : goal.returns
returns c = root_agrees_with_merges
