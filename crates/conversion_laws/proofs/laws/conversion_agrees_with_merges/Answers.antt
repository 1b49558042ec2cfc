use Rattle.conversion_laws.proofs.Conversion.{conversion_agrees_with_merges}
use Rattle.conversion_laws.proofs.laws.conversion_agrees_with_merges.Goals as goal

pub returns : goal.returns
returns c = conversion_agrees_with_merges
