use Rattle.model_redescribe.proofs.Again.{described_items}
use Rattle.model_redescribe.proofs.laws.described_items_read_the_same.Goals as goal

pub returns : goal.returns
returns c = described_items
