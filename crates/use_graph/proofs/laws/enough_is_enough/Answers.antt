use Rattle.use_graph.proofs.Ending as lemmas
use Rattle.use_graph.proofs.laws.enough_is_enough.Goals as goal

pub returns : goal.returns
returns c = lemmas.enough_is_enough
