use Rattle.model_redescribe.proofs.Again.{described_twice}
use Rattle.model_redescribe.proofs.laws.described_twice_reads_the_same.Goals as goal

pub returns : goal.returns
returns c = described_twice
