use Rattle.use_graph.proofs.Ways as lemmas
use Rattle.use_graph.proofs.laws.reaching_is_decided.Goals as goal

pub returns : goal.returns
returns c = lemmas.reaching_is_decided
