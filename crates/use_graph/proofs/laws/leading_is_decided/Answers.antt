use Rattle.use_graph.proofs.Ending as lemmas
use Rattle.use_graph.proofs.laws.leading_is_decided.Goals as goal

pub returns : goal.returns
returns c = lemmas.leading_is_decided
