use Rattle.sample_inputs.proofs.Plainly.{samples_plain}
use Rattle.sample_inputs.proofs.laws.samples_are_plain.Goals as goal

pub returns : goal.returns
returns c = samples_plain
